-- What an iterator gives after its first item, where all that it gives is known. Assumes nothing.
use Rattle.std.proofs.Common.{◌≡◌, ℕ, suc, ◌<◌, List, [], ◌∷◌, length, drop, get_or, Option, Some, None, ◌∙◌, sym}
use Rattle.std.proofs.Common.{ap, refl, subst, arith, length-drop, get_or-drop}
use Rattle.std.proofs.lemmas.Iterator.{YieldsList}
use Rattle.std.proofs.lemmas.Iterator.Consumers.{YieldsList-turn, YieldsList-end}
use Rattle.std.specs.Iterator.{Yields}

module _ {S A B : Type 0} {steps : S → Option A → S → Type 0} {v : A → B} {s : S} {all : List B} where
  -- the first call gave the first item
  pub first_given : (r : Option A) (j : S) → steps s r j → 0 < length all → YieldsList steps v s all
      → (x : A) × (r ≡ Some x) × (v x ≡ get_or all 0 (v x)) × steps s (Some x) j
  first_given None j k h e = absurd (omega (arith, (YieldsList-end e [] s refl None j refl k).1))
  first_given (Some x) j k h e = (x, refl, (YieldsList-turn e [] s refl (Some x) j x refl k).1, k)

  -- after the first call and those that gave xs, a call gave an item: it is the next one
  pub turn_after : (q : Option A) (j i : S) → steps s q j → i ≡ j → (xs : List A) (t : S) → Yields steps i xs t
      → (r : Option A) (u : S) (y : A) → r ≡ Some y → steps t r u → 0 < length all → YieldsList steps v s all
      → (length xs < length (drop 1 all)) × (v y ≡ get_or (drop 1 all) (length xs) (v y))
  turn_after q j i k same xs t ys r u y is st h e =
      let first = first_given q j k h e in
      let given : Yields steps s (first.0 ∷ xs) t = (j, first.3, subst (λ (w : S). Yields steps w xs t) same ys) in
      let w = YieldsList-turn e (first.0 ∷ xs) t given r u y is st in
      let at : get_or (drop 1 all) (length xs) (v y) ≡ get_or all (suc (length xs)) (v y) =
      get_or-drop 1 all (length xs) (v y) ∙ ap (λ (n : ℕ). get_or all n (v y)) (omega arith) in
      (omega (arith, w.0, length-drop 1 all), w.1 ∙ sym at)

  -- that call gave no item: there were no more
  pub end_after : (q : Option A) (j i : S) → steps s q j → i ≡ j → (xs : List A) (t : S) → Yields steps i xs t
      → (r : Option A) (u : S) → r ≡ None → steps t r u → 0 < length all → YieldsList steps v s all
      → length xs ≡ length (drop 1 all)
  end_after q j i k same xs t ys r u is st h e =
      let first = first_given q j k h e in
      let given : Yields steps s (first.0 ∷ xs) t = (j, first.3, subst (λ (w : S). Yields steps w xs t) same ys) in
      let w = YieldsList-end e (first.0 ∷ xs) t given r u is st in
      omega (arith, w.1, length-drop 1 all)
