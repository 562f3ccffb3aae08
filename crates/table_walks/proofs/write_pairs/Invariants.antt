-- `table_walks::write_pairs` meets its contract. The loop keeps: storing the pairs that are left makes the report
-- that storing all of them makes. Assumes nothing.
use Prim.Native.Nat.{◌-◌, ◌*◌}
use mathlib.Core.Path.{◌≡◌}
use lib.Seq.{sets}
use Rattle.rules.specs.Steps.{pairs}
use Rattle.rules.specs.Chains.{view_of}
use Rattle.table_walks.proofs.write_pairs.Given as goal

abbrev pub invariant-loop-i : goal.invariant-loop-i
invariant-loop-i l =
    sets l.initial.report 0 (pairs l.k (view_of l.tasks l.promises) l.t l.p)
    ≡ sets l.report (2 * l.i) (pairs (l.k - l.i) (view_of l.tasks l.promises) l.a l.q)
