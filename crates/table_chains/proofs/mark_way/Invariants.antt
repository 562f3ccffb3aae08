-- `table_chains::mark_way` meets its contract: each way out of a turn is one law of the walk. Assumes nothing.
use Prim.Native.Nat.{◌-◌}
use lib.ListN.{length}
use Rattle.rules.specs.Tables.{tables}
use Rattle.table_chains.proofs.MarkLaws.{Walking}
use Rattle.table_chains.proofs.mark_way.Given as goal

abbrev pub invariant-loop : goal.invariant-loop
invariant-loop l =
    Walking (tables l.tasks l.promises) l.v l.me l.initial.marks l.marks l.u (length l.tasks - l.counter)
