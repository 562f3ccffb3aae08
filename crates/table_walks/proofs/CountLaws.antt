-- The owners that a trail counts are at most the bound of its walk. Assumes nothing.
use Prim.Native.Nat.{ℕ, ◌≤◌}
use mathlib.Core.Path.{◌≡◌, sym, ap, ◌∙◌}
use native.Mathlib.Omega.{arith}
use Rattle.rules.specs.Chains.{View}
use Rattle.rules.specs.Steps.{walk}
use Rattle.rules.proofs.Counts.{reached, walk_reached}
use Rattle.table_walks.specs.Trails.{found_read}
use Rattle.table_walks.specs.declared.Trail.{Trail}

-- the count of a trail r, where the first owner was counted as 1
pub trail_most : (n T : ℕ) (s : View) (t u : ℕ) {q r : Trail} → found_read q ≡ walk n T s t u 1 → q ≡ r
    → reached (found_read r) ≤ n
trail_most n T s t u e h = omega (arith, ap reached (sym (ap found_read h) ∙ e), walk_reached n T s t u 1 (omega arith))
