-- `table_walks::follow` meets its contract. The loop keeps: the walk from here, with the fuel that is left, finds
-- what the whole walk finds. Assumes nothing.
use Prim.Native.Nat.{suc, ◌-◌}
use mathlib.Core.Path.{◌≡◌}
use lib.ListN.{length}
use Rattle.rules.specs.Steps.{walk}
use Rattle.rules.specs.Chains.{view_of}
use Rattle.table_walks.proofs.follow.Given as goal

abbrev pub invariant-loop-k : goal.invariant-loop-k
invariant-loop-k l =
    walk (suc (length l.tasks) - l.k) (length l.tasks) (view_of l.tasks l.promises) l.t l.u l.k
    ≡ walk (length l.tasks) (length l.tasks) (view_of l.tasks l.promises) l.t l.from 1
