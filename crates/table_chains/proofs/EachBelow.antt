-- What `all` says of the numbers below n, where it goes through them from the first to the last, and where it goes from
-- the last to the first, as `rev` gives them. Assumes nothing.
use Prim.Native.Nat.{ℕ, zero, suc, ◌+◌, ◌-◌, ◌<◌}
use mathlib.Core.Path.{◌≡◌, refl, sym, ap, subst, ◌∙◌}
use mathlib.Core.Bool.{Bool, true, false}
use native.Mathlib.Omega.{arith}
use native.Mathlib.Nat.{zero-add}
use lib.ListN.{length, get_or}
use Rattle.std.specs.Prelude.{List, [], ◌∷◌}
use Rattle.std.specs.Bool.{MatchBool}
use Rattle.std.specs.List.{AllWithin, range_with_len}
use Rattle.std.specs.Iterator.Adapters.{rev_source, rev_steps}
use Rattle.std.specs.declared.iter.Rev.{Rev}
use Rattle.std.specs.declared.ops.Range.{Range}
use Rattle.std.proofs.iter.runs.Sources.{nat_range_steps_back}
use Rattle.std.proofs.lemmas.Iterator.{YieldsList}
use Rattle.std.proofs.lemmas.Iterator.Consumers.{YieldsList-from_shown}
use Rattle.std.proofs.lemmas.List.FromFn.{length-range_with_len, get_or-range_with_len}
use Rattle.words.proofs.BoolLaws.{true_is_not_false}

-- ---- rising

pub each_below : (n : ℕ) (P : ℕ → Type 0) (Q : Type 0) (r : Bool)
    → MatchBool r (AllWithin P (range_with_len 0 n) 0 (length (range_with_len 0 n))) Q → r ≡ true
    → (v : ℕ) → v < n → P v
each_below n P Q true h e v b =
    let within : v < length (range_with_len 0 n) = omega (arith, length-range_with_len 0 n) in
    subst P (get_or-range_with_len 0 n v 0 b ∙ zero-add v) (h v 0 (omega arith) within)
each_below n P Q false h e v b = true_is_not_false (sym e)

-- ---- falling

-- the n numbers from a on, the last one first
pub falling : ℕ → ℕ → List ℕ
falling a zero = []
falling a (suc n) = (a + n) ∷ falling a n

length_falling : (a n : ℕ) → length (falling a n) ≡ n
unfolding falling
length_falling a zero = refl
length_falling a (suc n) = ap suc (length_falling a n)

read_falling : (a n i : ℕ) → i < n → get_or (falling a n) i 0 ≡ a + (n - 1 - i)
unfolding falling
read_falling a zero i b = absurd (omega arith)
read_falling a (suc n) zero b = ap (λ (m : ℕ). a + m) (omega arith)
read_falling a (suc n) (suc i) b = read_falling a n i (omega arith) ∙ ap (λ (m : ℕ). a + m) (omega arith)

counted_down : (a n b m x : ℕ) → n ≡ suc m → x ≡ a + m → b ≡ a → falling a n ≡ x ∷ falling b m
unfolding falling
counted_down a n b m x e f g =
    ap (falling a) e ∙ ap {B = List ℕ} (λ w. w ∷ falling a m) (sym f) ∙ ap {B = List ℕ} (λ w. x ∷ falling w m) (sym g)

abbrev shown : Range ℕ → List ℕ
shown r = falling r.start (r.end - r.start)

road : (s : Rev (Range ℕ)) → YieldsList (rev_steps nat_range_steps_back) (λ x. x) s (shown (rev_source s))
road = YieldsList-from_shown (rev_steps nat_range_steps_back) (λ x. x) (λ u. shown (rev_source u))
    (λ u t p. length_falling _ _ ∙ p.1.0) (λ u x t p. counted_down _ _ _ _ x (omega (arith, p.0, p.1.0, p.1.1, p.1.2))
    (omega (arith, p.0, p.1.0, p.1.1, p.1.2)) p.0)

pub road_down : {s : Rev (Range ℕ)} (n : ℕ) → rev_source s ≡ record { start = 0; end = n }
    → YieldsList (rev_steps nat_range_steps_back) (λ x. x) s (falling 0 n)
road_down {s} n e =
    let f : shown (rev_source s) ≡ falling 0 n = ap (λ (r : Range ℕ). shown r) e ∙ ap (falling 0) (omega arith) in
    subst (λ (l : List ℕ). YieldsList (rev_steps nat_range_steps_back) (λ x. x) s l) f (road s)

pub each_below_down : (n : ℕ) (P : ℕ → Type 0) (Q : Type 0) (r : Bool)
    → MatchBool r (AllWithin P (falling 0 n) 0 (length (falling 0 n))) Q → r ≡ true → (v : ℕ) → v < n → P v
each_below_down n P Q true h e v b =
    let within : n - 1 - v < length (falling 0 n) = omega (arith, length_falling 0 n) in
    subst P (read_falling 0 n (n - 1 - v) (omega arith) ∙ omega arith) (h (n - 1 - v) 0 (omega arith) within)
each_below_down n P Q false h e v b = true_is_not_false (sym e)
