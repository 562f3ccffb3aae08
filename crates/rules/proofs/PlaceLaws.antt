-- The first bad place of an async list, however long the list is, is at most the number of promises: the entries before
-- it are different promises of the table, all owned by the acting task, so there are no more of them than words in the
-- table. A place therefore fits its 16 bits. Assumes nothing.
use Prim.Native.Nat.{ℕ, zero, suc, ◌≤◌, ◌<◌}
use mathlib.Core.Path.{◌≡◌, refl, sym, ap, ◌∙◌}
use mathlib.Core.Logic.{◌≢◌, ⊎_elim}
use mathlib.Core.List.{List, [], ◌∷◌}
use mathlib.Core.Bool.{true, false, not}
use native.Mathlib.Omega.{arith}
use borrow.Author.Tests.{eq-eqb, ne_eqb}
use lib.ListN.{length, get_or}
use Rattle.words.specs.Words.{owned_by}
use Rattle.words.specs.Lists.{is, all_below, In}
use Rattle.words.proofs.BoolLaws.{true_is_not_false}
use Rattle.words.proofs.ListLaws.{all_below_at, is_hit, is_miss, in_nil, in_cons, NoDup, no_more, another, pigeon}
use Rattle.words.proofs.ListLaws.{count_le}
use Rattle.rules.specs.Refusals.{differs, entry_refusal, first_bad}
use Rattle.rules.proofs.RefusalLaws.{entry_refusal_none, first_bad_before}

-- ---- entry j of the list is q, or is not

pub differs_hit : (list : List ℕ) (q j : ℕ) → get_or list j 0 ≡ q → differs list q j ≡ false
unfolding differs
differs_hit list q j e = ap not (eq-eqb (get_or list j 0) q e)

pub differs_miss : (list : List ℕ) (q j : ℕ) → get_or list j 0 ≢ q → differs list q j ≡ true
unfolding differs
differs_miss list q j n = ap not (ne_eqb (get_or list j 0) q n)

pub differs_true : (list : List ℕ) (q j : ℕ) → differs list q j ≡ true → get_or list j 0 ≢ q
differs_true list q j e z = true_is_not_false (sym e ∙ differs_hit list q j z)

-- ---- the place

-- the first k entries of a list, the last of them first
unfoldable entries : List ℕ → ℕ → List ℕ
entries list zero = []
entries list (suc k) = get_or list k 0 ∷ entries list k

entries_length : (list : List ℕ) (k : ℕ) → length (entries list k) ≡ k
unfolding entries
entries_length list zero = refl
entries_length list (suc k) = ap suc (entries_length list k)

entries_at : (list : List ℕ) (k x : ℕ) → In x (entries list k) → (j : ℕ) × (j < k) × (x ≡ get_or list j 0)
unfolding entries
entries_at list zero x i = absurd (in_nil x i)
entries_at list (suc k) x i =
    ⊎_elim (λ (e : x ≡ get_or list k 0). (k, omega arith, e))
    (λ (m : In x (entries list k)). let (j, h, e) = entries_at list k x m in (j, omega arith, e)) (in_cons i)

-- entries that all differ from those before them
entries_no_dup : (list : List ℕ) (k : ℕ) → ((j : ℕ) → j < k → all_below j (differs list (get_or list j 0)) ≡ true)
    → NoDup (entries list k)
unfolding entries
entries_no_dup list zero h = no_more
entries_no_dup list (suc k) h = another fresh (entries_no_dup list k (λ j b. h j (omega arith)))
  where
    fresh : In (get_or list k 0) (entries list k) → ⊥
    fresh i =
        let (j, b, e) = entries_at list k (get_or list k 0) i in
        differs_true list (get_or list k 0) j (all_below_at k (differs list (get_or list k 0)) (h k (omega arith)) j b)
        (sym e)

module _ (B : ℕ) (ps : List ℕ) (t : ℕ) (list : List ℕ) where
  good_entries : (k : ℕ) → ((j : ℕ) → j < k → entry_refusal B ps t list j ≡ 0) → k ≤ length ps
  good_entries k good =
      let different = entries_no_dup list k (λ j b. (entry_refusal_none B ps t list j (good j b)).2) in
      let owned : (x : ℕ) → In x (entries list k) → is (owned_by t) (get_or ps x 0) ≡ true = λ x i.
      let (j, b, e) = entries_at list k x i in
      is_hit (owned_by t) (get_or ps x 0) (ap (λ (y : ℕ). get_or ps y 0) e
      ∙ (entry_refusal_none B ps t list j (good j b)).1)
      in
      let most =
      pigeon (is (owned_by t)) (is_miss (owned_by t) 0 (λ (e : 0 ≡ owned_by t). omega arith)) (entries list k) ps
      different owned in
      omega (arith, most, entries_length list k, count_le (is (owned_by t)) ps)

  -- "the first bad one gives its refusal with its place, counted from 0"
  pub first_bad_place : (n : ℕ) → first_bad (entry_refusal B ps t list) n 0 ≤ length ps
  first_bad_place n =
      good_entries (first_bad (entry_refusal B ps t list) n 0)
      (λ j b. first_bad_before (entry_refusal B ps t list) n 0 j (omega arith) b)
