-- What is promised of fields: the part that is handed back is the one between two tabs that starts at its place,
-- there is only one such part, and "no more fields" is told apart from an empty last field.
-- Assumes nothing.
use Prim.Native.Nat.{ℕ, ◌+◌, ◌≤◌, ◌<◌}
use mathlib.Core.List.{List, [], ◌∷◌, ◌++◌}
use mathlib.Core.Logic.{◌⊎◌, inl, inr}
use mathlib.Core.Path.{◌≡◌, ap, sym, subst, ◌∙◌}
use native.Mathlib.Omega.{arith}
use native.Mathlib.Decide.{dec_lt}
use lib.ListN.{length, take, drop, length-drop, take-append-drop, drop_of_length-le}
use denote.Ref.{Bor}
use lib.Seq.{drop-drop, drop_at, take-append_seam, length-take-le}
use Rattle.text_fields.specs.Fields.{tab, run_to, end_from, run_to_tab, field_end, field_at, next_start, Field, FieldOf}
use Rattle.text_fields.proofs.FieldLaws.{run_to_tab_append, run_to_tab_first_field, run_to_tab_after_field}
use Rattle.text_fields.proofs.FieldLaws.{run_to_tab_none, field_at_length, field_end_within, next_start_is}
use Rattle.text_fields.proofs.FieldLaws.{next_start_past, part_start_is}

-- THE FIELD'S PLACE: from `at` up to its end, no tab within, a tab or the line's end after it
pub field_placed : (s : List ℕ) (at : ℕ) → Field s at (field_at s at) (field_end s at)
unfolding field_at field_end end_from
field_placed s at = record {
  place = sym (field_at_length s at);
  whole = sym (take-append-drop at s)
      ∙ ap (λ (r : List ℕ). take at s ++ r) (sym (take-append-drop (run_to_tab (drop at s)) (drop at s))
      ∙ ap (λ (r : List ℕ). take (run_to_tab (drop at s)) (drop at s) ++ r) (drop-drop (run_to_tab (drop at s)) at s));
  no_tab = run_to_tab_first_field (drop at s);
  after = ends (dec_lt (field_end s at) (length s));
}
  where
    z : run_to_tab (drop (at + run_to_tab (drop at s)) s) ≡ 0
    z = ap run_to_tab (sym (drop-drop (run_to_tab (drop at s)) at s)) ∙ run_to_tab_after_field (drop at s)

    ends : Dec (field_end s at < length s)
        → (drop (field_end s at) s ≡ []) ⊎ (drop (field_end s at) s ≡ tab ∷ drop (field_end s at + 1) s)
    ends (no h) = inl (drop_of_length-le s {i = field_end s at} (omega arith))
    ends (yes h) =
        let (x, p) = run_to_tab_none (drop (field_end s at) s) z (omega (arith, length-drop (field_end s at) s)) in
        inr (p ∙ ap (λ (y : List ℕ). tab ∷ y) (sym (ap (λ (r : List ℕ). drop 1 r) p) ∙ drop-drop 1 (field_end s at) s))

-- and it is the only one: no other part that starts there is between two tabs
no_run : {d : List ℕ} {y : List ℕ} → (d ≡ []) ⊎ (d ≡ tab ∷ y) → run_to_tab d ≡ 0
unfolding run_to
no_run (inl e) = rw e
no_run (inr e) = rw e

pub field_one : {s : List ℕ} {at : ℕ} {f : List ℕ} {e : ℕ} → at ≤ length s → Field s at f e
    → (f ≡ field_at s at) × (e ≡ field_end s at)
unfolding field_at field_end end_from
field_one {s} {at} {f} {e} h p =
    let q : drop at s ≡ f ++ drop e s = ap (λ (r : List ℕ). drop at r) p.whole
    ∙ drop_at (take at s) (f ++ drop e s) at (length-take-le at s h) in
    let z = no_run p.after in
    let k : run_to_tab (drop at s) ≡ length f =
    ap run_to_tab q ∙ run_to_tab_append f (drop e s) p.no_tab ∙ omega arith in
    (sym (rw (k, q, take-append_seam)), p.place ∙ ap (λ (n : ℕ). at + n) (sym k))

-- so the part that is handed back for a place of the line stands there, between two tabs
pub field_of_placed : {l f : Bor (List ℕ)} {at : ℕ} → FieldOf l at f → at ≤ length l.now
    → Field l.now at f.now (field_end l.now at) × (f.ref_ptr.0 ≡ l.ref_ptr.0) × (f.ref_ptr.1 ≡ l.ref_ptr.1 + at)
field_of_placed {l} {f} {at} p h = (
  subst (λ (g : List ℕ). Field l.now at g (field_end l.now at)) (sym p.bytes) (field_placed l.now at),
  p.memory,
  p.place ∙ ap (λ (n : ℕ). l.ref_ptr.1 + n) (part_start_is l.now at h),
)

-- ---- the next field

-- a tab ends the field: the next one starts after it, within the line or at its end
pub next_starts : (s : List ℕ) (at : ℕ) → at ≤ length s → field_end s at < length s
    → (next_start s at ≡ field_end s at + 1) × (next_start s at ≤ length s)
next_starts s at h l = let q = next_start_is s at h in (q, omega arith)

-- the line's end ends it: there is none, whatever the field held
pub next_none : (s : List ℕ) (at : ℕ) → at ≤ length s → length s ≤ field_end s at → next_start s at ≡ length s + 1
next_none s at h l = let q = next_start_is s at h in omega (arith, field_end_within s at h)

-- a place is never past that
pub next_most : (s : List ℕ) (at : ℕ) → at ≤ length s + 1 → next_start s at ≤ length s + 1
next_most s at h = go (dec_lt (length s) at)
  where
    go : Dec (length s < at) → next_start s at ≤ length s + 1
    go (yes l) = omega (arith, next_start_past s at l)
    go (no l) = let k : at ≤ length s = omega arith in omega (arith, next_start_is s at k, field_end_within s at k)

-- ---- 01, "How much each contract must say": any two outcomes that a contract allows coincide

module _ (s : List ℕ) (at : ℕ) where
  pub run_end_unique : (stop : ℕ) {p q : ℕ} → p ≡ end_from stop s at → q ≡ end_from stop s at → p ≡ q
  run_end_unique stop e f = e ∙ sym f

  pub field_end_unique : {p q : ℕ} → p ≡ field_end s at → q ≡ field_end s at → p ≡ q
  field_end_unique e f = e ∙ sym f

  pub next_start_unique : {p q : ℕ} → p ≡ next_start s at → q ≡ next_start s at → p ≡ q
  next_start_unique e f = e ∙ sym f

-- of the part that is handed back its bytes, and where they stand
pub field_unique : {l f g : Bor (List ℕ)} {at : ℕ} → FieldOf l at f → FieldOf l at g
    → (f.now ≡ g.now) × (f.ref_ptr.0 ≡ g.ref_ptr.0) × (f.ref_ptr.1 ≡ g.ref_ptr.1)
field_unique p q = (p.bytes ∙ sym q.bytes, p.memory ∙ sym q.memory, p.place ∙ sym q.place)
