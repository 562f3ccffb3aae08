-- Laws of `comes` as a walk wants them: what is left at each way out of a turn. Assumes nothing.
use Prim.Native.Nat.{ℕ, suc, ◌-◌, ◌≤◌, ◌<◌}
use mathlib.Core.Path.{◌≡◌, sym, ap, ◌∙◌}
use mathlib.Core.Bool.{true, false}
use native.Mathlib.Omega.{arith}
use Rattle.rules.specs.Chains.{View}
use Rattle.rules.specs.Sound.{ready, lost, to, hop, comes}

-- n is the fuel that is left
module _ (T : ℕ) (s : View) (v n : ℕ) where
  pub comes_zero : n ≤ 0 → comes n T s v ≡ false
  unfolding comes
  comes_zero h = let e : n ≡ 0 = omega arith in rw e

  pub comes_ready : 0 < n → hop T s v ≡ ready → comes n T s v ≡ true
  unfolding comes
  comes_ready h f = let e : n ≡ suc (n - 1) = omega arith in rw (e, f)

  pub comes_lost : 0 < n → hop T s v ≡ lost → comes n T s v ≡ false
  unfolding comes
  comes_lost h f = let e : n ≡ suc (n - 1) = omega arith in rw (e, f)

  pub comes_on : (u : ℕ) → 0 < n → hop T s v ≡ to u → comes n T s v ≡ comes (n - 1) T s u
  unfolding comes
  comes_on u h f = let e : suc (n - 1) ≡ n = omega arith in ap (λ (m : ℕ). comes m T s v) (sym e) ∙ rw f
