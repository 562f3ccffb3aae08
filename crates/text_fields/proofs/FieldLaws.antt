-- Laws of specs/Fields.antt: how a run of bytes without a tab goes on, ends, and stands before another list; the part
-- of a line that is a field; and where fields end and start.
-- Assumes nothing.
use Prim.Native.Nat.{ℕ, suc, ◌+◌, ◌-◌, ◌≤◌, ◌<◌}
use mathlib.Core.List.{List, [], ◌∷◌, ◌++◌}
use mathlib.Core.Path.{◌≡◌, refl, sym, ap, ◌∙◌}
use mathlib.Core.Bool.{Bool, true, false}
use lib.Dec.{eqb}
use native.Mathlib.Omega.{arith}
use native.Mathlib.Numerals.{add-one}
use borrow.Author.Tests.{eq-eqb, ne_eqb, eqb-true, lt-ltb, le-ltb}
use lib.ListN.{length, take, drop, get_or, length-drop, drop_of_length-le}
use lib.Seq.{drop-cons, drop-drop, length-take-le, take-append_seam, drop-append_seam}
use Rattle.text_fields.specs.Fields.{tab, run_to, end_from, run_to_tab, field_end, field_at, next_start, part_start}
use Rattle.text_fields.specs.Fields.{bad_byte}
use Rattle.text_fields.specs.declared.BadByte.{BadByte}
use Rattle.std.specs.Prelude.{Result, Err}

-- ---- runs, at a place of a list

module _ (stop : ℕ) (s : List ℕ) (i : ℕ) where
  pub run_to_stop : i < length s → get_or s i 0 ≡ stop → run_to stop (drop i s) ≡ 0
  unfolding run_to
  run_to_stop h e = rw (drop-cons s i 0, eq-eqb _ _ e)

  pub run_to_go : i < length s → (get_or s i 0 ≡ stop → ⊥) → run_to stop (drop i s) ≡ suc (run_to stop (drop (i + 1) s))
  unfolding run_to
  run_to_go h e = rw (drop-cons s i 0, ne_eqb _ _ e, add-one i)

  pub run_to_end : length s ≤ i → run_to stop (drop i s) ≡ 0
  unfolding run_to
  run_to_end h = rw drop_of_length-le

-- ---- runs, of a list

-- the first field of a list
abbrev pub first_field : List ℕ → List ℕ
first_field r = take (run_to_tab r) r

pub run_to_most : (stop : ℕ) (s : List ℕ) → run_to stop s ≤ length s
unfolding run_to
run_to_most stop [] = omega arith
run_to_most stop (b ∷ s) = go (run_to_most stop s) (eqb b stop) refl
  where
    go : run_to stop s ≤ length s → (x : Bool) → eqb b stop ≡ x → run_to stop (b ∷ s) ≤ suc (length s)
    go ih true p = rw p (omega arith)
    go ih false p = rw p (omega arith)

pub run_to_tab_most : (s : List ℕ) → run_to_tab s ≤ length s
run_to_tab_most s = run_to_most tab s

-- after a list without a tab the run goes on
pub run_to_tab_append : (f x : List ℕ) → run_to_tab f ≡ length f → run_to_tab (f ++ x) ≡ length f + run_to_tab x
unfolding run_to
run_to_tab_append [] x h = omega arith
run_to_tab_append (b ∷ f) x h = go (eqb b tab) refl h (run_to_tab_append f x)
  where
    go : (z : Bool) → eqb b tab ≡ z → run_to_tab (b ∷ f) ≡ suc (length f)
        → (run_to_tab f ≡ length f → run_to_tab (f ++ x) ≡ length f + run_to_tab x)
        → run_to_tab (b ∷ (f ++ x)) ≡ suc (length f) + run_to_tab x
    go true p q ih = absurd (omega (arith, rw p at q))
    go false p q ih = rw p (omega (arith, ih (omega (arith, rw p at q))))

pub run_to_tab_tab : (x : List ℕ) → run_to_tab (tab ∷ x) ≡ 0
unfolding run_to
run_to_tab_tab x = refl

-- a field has no tab, and after it stands a tab or the end
pub run_to_tab_first_field : (r : List ℕ) → run_to_tab (first_field r) ≡ length (first_field r)
unfolding run_to
run_to_tab_first_field [] = refl
run_to_tab_first_field (b ∷ r) = go (eqb b tab) refl (run_to_tab_first_field r)
  where
    go : (z : Bool) → eqb b tab ≡ z → run_to_tab (first_field r) ≡ length (first_field r)
        → run_to_tab (first_field (b ∷ r)) ≡ length (first_field (b ∷ r))
    go true p ih = rw p
    go false p ih = rw (p, p) (ap suc ih)

pub run_to_tab_after_field : (r : List ℕ) → run_to_tab (drop (run_to_tab r) r) ≡ 0
unfolding run_to
run_to_tab_after_field [] = refl
run_to_tab_after_field (b ∷ r) = go (eqb b tab) refl (run_to_tab_after_field r)
  where
    go : (z : Bool) → eqb b tab ≡ z → run_to_tab (drop (run_to_tab r) r) ≡ 0
        → run_to_tab (drop (run_to_tab (b ∷ r)) (b ∷ r)) ≡ 0
    go true p ih = rw (p, p)
    go false p ih = rw p ih

pub first_field_front : (f x : List ℕ) → run_to_tab f ≡ length f → run_to_tab x ≡ 0 → first_field (f ++ x) ≡ f
first_field_front f x h z =
    let e : run_to_tab (f ++ x) ≡ length f = omega (arith, run_to_tab_append f x h) in
    ap (λ (n : ℕ). take n (f ++ x)) e ∙ take-append_seam f x

pub first_field_rest : (f x : List ℕ) → run_to_tab f ≡ length f → run_to_tab x ≡ 0
    → drop (run_to_tab (f ++ x)) (f ++ x) ≡ x
first_field_rest f x h z =
    let e : run_to_tab (f ++ x) ≡ length f = omega (arith, run_to_tab_append f x h) in
    ap (λ (n : ℕ). drop n (f ++ x)) e ∙ drop-append_seam f x

-- a list that has a byte and no run begins with a tab
pub run_to_tab_none : (r : List ℕ) → run_to_tab r ≡ 0 → 0 < length r → (x : List ℕ) × (r ≡ tab ∷ x)
unfolding run_to
run_to_tab_none [] z h = absurd (omega arith)
run_to_tab_none (b ∷ r) z h = go (eqb b tab) refl z
  where
    go : (t : Bool) → eqb b tab ≡ t → run_to_tab (b ∷ r) ≡ 0 → (x : List ℕ) × (b ∷ r ≡ tab ∷ x)
    go true t z = (r, ap (λ (c : ℕ). c ∷ r) (eqb-true b tab t))
    go false t z = absurd (omega (arith, rw t at z))

-- ---- the end of a run

pub end_from_from : (stop : ℕ) (s : List ℕ) (a : ℕ) → a ≤ end_from stop s a
unfolding end_from
end_from_from stop s a = omega arith

pub end_from_within : (stop : ℕ) (s : List ℕ) (a : ℕ) → a ≤ length s → end_from stop s a ≤ length s
unfolding end_from
end_from_within stop s a h = omega (arith, run_to_most stop (drop a s), length-drop a s)

-- ---- fields

-- the part of the line from `a` to its field's end is that field
pub field_at_part : (s : List ℕ) (a e : ℕ) → e ≡ field_end s a → take (e - a) (drop a s) ≡ field_at s a
unfolding field_end end_from field_at
field_at_part s a e q =
    let k : e - a ≡ run_to_tab (drop a s) = omega arith in
    ap (λ (n : ℕ). take n (drop a s)) k

pub field_at_past : (s : List ℕ) (a : ℕ) → length s ≤ a → field_at s a ≡ []
unfolding field_at run_to
field_at_past s a h = rw drop_of_length-le

-- a field ends within the line, and is as long as its place says
pub field_end_within : (s : List ℕ) (a : ℕ) → a ≤ length s → field_end s a ≤ length s
unfolding field_end end_from
field_end_within s a h = omega (arith, run_to_tab_most (drop a s), length-drop a s)

pub field_at_length : (s : List ℕ) (a : ℕ) → a + length (field_at s a) ≡ field_end s a
unfolding field_end end_from field_at
field_at_length s a = rw (length-take-le (run_to_tab (drop a s)) (drop a s) (run_to_tab_most (drop a s)))

pub field_end_from : (s : List ℕ) (a : ℕ) → a ≤ field_end s a
unfolding field_end end_from
field_end_from s a = omega arith

-- both, for a place that code was told
pub field_end_bounds : (s : List ℕ) (a e : ℕ) → e ≡ field_end s a → a ≤ length s → (a ≤ e) × (e ≤ length s)
field_end_bounds s a e q h = (omega (arith, field_end_from s a), omega (arith, field_end_within s a h))

-- past the line
pub field_end_past : (s : List ℕ) (a : ℕ) → length s ≤ a → field_end s a ≡ a
unfolding field_end end_from
field_end_past s a h = rw (run_to_end tab s a h) (omega arith)

-- where the part that is handed back starts
pub part_start_past : (s : List ℕ) (a : ℕ) → length s < a → part_start s a ≡ 0
unfolding part_start
part_start_past s a h = rw (lt-ltb (length s) a h)

pub part_start_is : (s : List ℕ) (a : ℕ) → a ≤ length s → part_start s a ≡ a
unfolding part_start
part_start_is s a h = rw (le-ltb (length s) a h)

-- ---- the next field

pub next_start_past : (s : List ℕ) (a : ℕ) → length s < a → next_start s a ≡ a
unfolding next_start
next_start_past s a h = rw (lt-ltb (length s) a h)

pub next_start_is : (s : List ℕ) (a : ℕ) → a ≤ length s → next_start s a ≡ field_end s a + 1
unfolding next_start
next_start_is s a h = rw (le-ltb (length s) a h)

-- from the end of a field on, the next one starts where it does from the field's start on
field_end_end : (s : List ℕ) (a : ℕ) → field_end s (field_end s a) ≡ field_end s a
unfolding field_end end_from
field_end_end s a =
    let z : run_to_tab (drop (a + run_to_tab (drop a s)) s) ≡ 0 =
    ap run_to_tab (sym (drop-drop (run_to_tab (drop a s)) a s)) ∙ run_to_tab_after_field (drop a s) in
    omega (arith, z)

pub next_start_end : (s : List ℕ) (a : ℕ) {f : List ℕ} {n : ℕ} → a ≤ length s → f ≡ field_at s a
    → n ≡ next_start s (a + length f) → n ≡ next_start s a
next_start_end s a {f} {n} h e q =
    let k : a + length f ≡ field_end s a = ap (λ (g : List ℕ). a + length g) e ∙ field_at_length s a in
    let (from, within) = field_end_bounds s a (field_end s a) refl h in
    q ∙ ap (next_start s) k ∙ next_start_is s (field_end s a) within ∙ ap (λ (x : ℕ). x + 1) (field_end_end s a)
    ∙ sym (next_start_is s a h)

-- ---- bad bytes

-- equal answers have their bad byte at the same place
pub same_place : {A : Type 0} {j k : ℕ} → ◌≡◌ {A = Result A BadByte} (Err (bad_byte j)) (Err (bad_byte k)) → j ≡ k
same_place {A} {j} {k} e = let p : bad_byte j ≡ bad_byte k = cc in ap (λ (b : BadByte). b.place) p
