-- `batch::batch` meets its contract: the records still to take, from the tables as they are, make what all of them
-- make of the tables lent (`Going`), and the same slices are lent. Assumes nothing.
use Rattle.words.specs.Words.{small}
use Rattle.rules.proofs.Promises.{small_apart}
use Rattle.steps.specs.Lending.{tables_lent, SameLoan}
use Rattle.batch.proofs.BatchLaws.{Going}
use Rattle.batch.proofs.batch.Given as goal

abbrev pub invariant-loop-i : goal.invariant-loop-i
invariant-loop-i g l = record {
  loan : SameLoan l.initial.lent l.lent;
  going : Going small small_apart l.list (g.R.Records.listed l.records) (tables_lent l.initial.lent)
      l.initial.lent.report.now l.initial.answers l.i l.at (tables_lent l.lent) l.lent.report.now l.answers;
}
