-- What the loop that judges an async list holds before entry i: the marks are at the promises that the entries before
-- it name, and the first bad place of the list is that of its rest. A law for the start, a turn and each way out.
-- Assumes nothing.
use Prim.Native.Nat.{ℕ, ◌+◌, ◌-◌, ◌≤◌, ◌<◌}
use mathlib.Core.Path.{◌≡◌, refl, sym, ◌∙◌}
use mathlib.Core.Logic.{◌≢◌}
use mathlib.Core.List.{List, [], ◌∷◌, ◌++◌}
use mathlib.Core.Bool.{Bool, true, false, not}
use native.Mathlib.Omega.{arith}
use native.Mathlib.Nat.{sub-zero}
use native.Mathlib.Numerals.{add-one}
use borrow.Author.Tests.{ne_eqb}
use lib.ListN.{length, get_or, set, replicate, length-set}
use Rattle.words.specs.Lists.{all_below}
use Rattle.words.proofs.BoolLaws.{and_true}
use Rattle.words.proofs.ListLaws.{set_each, get_or_replicate_same, all_below_none, all_below_fails}
use Rattle.rules.specs.Refusals.{refusal_number}
use Rattle.rules.proofs.RefusalLaws.{number_not_0}
use Rattle.rules.specs.declared.Refusal.{Refusal}
use Rattle.step_async.specs.Entries.{IsBad}
use Rattle.rules.specs.Refusals.{first, own_rows, differs, entry_refusal, first_bad}
use Rattle.rules.proofs.RefusalLaws.{own_rows_none, first_bad_step, first_bad_end}
use Rattle.rules.proofs.PlaceLaws.{differs_hit, differs_miss}

-- ---- the marks

-- the first i entries name the promises that are marked, and no others
abbrev Named : List ℕ → List Bool → ℕ → Type 0
Named list seen i = (q : ℕ) → get_or seen q false ≡ not (all_below i (differs list q))

mark_entry : (list : List ℕ) (seen : List Bool) (i e : ℕ) → get_or list i 0 ≡ e → e < length seen → Named list seen i
    → Named list (set seen e true) (i + 1)
unfolding all_below
mark_entry list seen i e is-e h old =
    set_each (λ q b. b ≡ not (all_below (i + 1) (differs list q))) seen e true false h new other
  where
    new : true ≡ not (all_below (i + 1) (differs list e))
    new = rw (all_below_fails (differs list e) i (i + 1) (omega arith) (differs_hit list e i is-e))

    other : (q : ℕ) → q ≢ e → get_or seen q false ≡ not (all_below (i + 1) (differs list q))
    other q n =
        let another = differs_miss list q i (λ z. n (sym z ∙ is-e)) in
        old q ∙ rw (add-one, another, and_true)

module _ (B : ℕ) (ps : List ℕ) (t : ℕ) (list : List ℕ) where
  abbrev each : ℕ → ℕ
  each = entry_refusal B ps t list

  -- ---- the loop, with marks for n promises

  pub record Judged (n : ℕ) (seen : List Bool) (i : ℕ) : Type 0 where
    pub within : i ≤ length list
    pub long : length seen ≡ n
    pub marks : Named list seen i
    pub rest : first_bad each (length list) 0 ≡ first_bad each (length list - i) i

  pub judged_start : (seen : List Bool) → seen ≡ replicate (length seen) false → Judged (length seen) seen 0
  judged_start seen e = record {
    within = omega arith;
    long = refl;
    marks = λ q. rw (e, get_or_replicate_same (length seen) q false, all_below_none (differs list q));
    rest = rw sub-zero;
  }

  -- entry i, which names the promise q and is refused by r
  module _ {n : ℕ} {seen : List Bool} {i q r : ℕ} (j : Judged n seen i) (h : i < length list) (is : q ≡ get_or list i 0)
      (e : r ≡ first (own_rows B ps t q ++ (13, get_or seen q false) ∷ [])) where
    at_entry : r ≡ each i
    unfolding entry_refusal
    at_entry = e ∙ rw (is, j.marks (get_or list i 0))

    pub judged_bad : (f : Refusal) → r ≡ refusal_number f → IsBad each (length list) (record { place = i; refusal = f })
    judged_bad f same =
        let bad : each i ≢ 0 = λ z. number_not_0 f (sym same ∙ at_entry ∙ z) in
        record {
          within = h;
          place = rw (j.rest, first_bad_step each (length list) i h, ne_eqb (each i) 0 bad);
          refusal = sym same ∙ at_entry;
        }

    pub judged_turn : length ps ≤ n → r ≡ 0 → Judged n (set seen q true) (i + 1)
    judged_turn l z =
        let below : q < length seen = omega (arith, j.long, (own_rows_none B ps t q _ (sym e ∙ z)).0) in
        record {
          within = omega arith;
          long = length-set seen q true ∙ j.long;
          marks = mark_entry list seen i q (sym is) below j.marks;
          rest = rw (j.rest, first_bad_step each (length list) i h, ← at_entry, z);
        }

  pub judged_end : {n : ℕ} {seen : List Bool} {i : ℕ} → Judged n seen i → length list ≤ i
      → length list ≡ first_bad each (length list) 0
  judged_end {i = i} j h =
      let e : i ≡ length list = omega (arith, j.within) in
      sym e ∙ rw (j.rest, first_bad_end each (length list) _ h)
