-- `table_chains::chains_marked` meets its contract. The loop keeps: the tasks from v on pass, and the marks say what is
-- known. Assumes nothing.
use lib.ListN.{length}
use Rattle.words.proofs.LoopLaws.{TestedFrom}
use Rattle.rules.specs.Tables.{tables}
use Rattle.table_chains.specs.Marks.{MarksFor, chain_passes}
use Rattle.table_chains.proofs.chains_marked.Given as goal

abbrev pub invariant-loop-v : goal.invariant-loop-v
invariant-loop-v l =
    TestedFrom (chain_passes (tables l.tasks l.promises)) (length l.tasks) l.v
    × MarksFor (tables l.tasks l.promises) l.marks
