-- `step_async::check_entries` meets its contract: up to each turn the marks are at the promises that the entries so
-- far name, and the first bad place of the list is that of its rest (`Judged`). Assumes nothing.
use lib.ListN.{length}
use Rattle.words.specs.Words.{small}
use Rattle.step_async.proofs.SeenLaws.{Judged}
use Rattle.step_async.proofs.check_entries.Given as goal

abbrev pub invariant-loop-place : goal.invariant-loop-place
invariant-loop-place l = Judged small.base l.promises l.t l.list (length l.initial.seen) l.seen l.place
