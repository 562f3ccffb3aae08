-- Laws of `pairs`: one pair of those that are left, and the two stores of a pair. Assumes nothing.
use Prim.Native.Nat.{ℕ, zero, suc, ◌+◌, ◌-◌, ◌≤◌, ◌<◌}
use mathlib.Core.Path.{◌≡◌, refl}
use mathlib.Core.List.{List, [], ◌∷◌}
use native.Mathlib.Omega.{arith}
use native.Mathlib.Numerals.{add-one}
use lib.ListN.{set}
use lib.Seq.{sets}
use Rattle.rules.specs.Chains.{View, awaited_by, owner_of}
use Rattle.rules.specs.Steps.{pairs}

module _ (s : View) where
  pub pairs_step : (n t p : ℕ) → 0 < n
      → pairs n s t p ≡ t ∷ p ∷ pairs (n - 1) s (owner_of s p) (awaited_by s (owner_of s p))
  unfolding pairs
  pairs_step zero t p h = absurd (omega arith)
  pairs_step (suc n) t p h = let e : suc n - 1 ≡ n = omega arith in rw e

  pub pairs_end : (n t p : ℕ) → n ≤ 0 → pairs n s t p ≡ []
  unfolding pairs
  pairs_end zero t p h = refl
  pairs_end (suc n) t p h = absurd (omega arith)

pub sets_pair : (ws : List ℕ) (i t p : ℕ) (rest : List ℕ)
    → sets ws i (t ∷ p ∷ rest) ≡ sets (set (set ws i t) (i + 1) p) (i + 2) rest
sets_pair ws i t p rest = let e : i + 2 ≡ suc (suc i) = omega arith in rw (add-one, e)
