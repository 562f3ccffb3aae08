-- `batch::batch` meets its contract: the records still to take, from the tables as they are, make what all of them
-- make of the tables lent (`Going`). Assumes nothing.
use mathlib.Core.Path.{refl, sym, ◌∙◌}
use Rattle.words.specs.Words.{small}
use Rattle.rules.proofs.Promises.{small_apart}
use Rattle.steps.specs.Lending.{tables_lent}
use Rattle.batch.proofs.BatchLaws.{going_start, going_asks, going_turn, going_end, call_refused}
use Rattle.std.proofs.lemmas.Result.{err_from_is_err_and}
use Rattle.batch.proofs.batch.Goals as goal

pub returns-in_err-check-clause-batched : goal.returns-in_err-check-clause-batched
returns-in_err-check-clause-batched g c =
    let asked = rw c.count-count.ensures at c.in_err-check.ensures in
    let p = err_from_is_err_and c.from_residual.result c.from_residual.ensures.1 in
    let refused = call_refused small small_apart c.args.list.now (g.R.Records.listed c.args.records.now)
    (tables_lent c.args.lent.now) c.args.lent.now.report.now c.args.answers.now asked in
    rw (p.1, p.2) refused

pub loop-i-init : goal.loop-i-init
loop-i-init g c =
    let asked = rw c.count-count.ensures at c.in_ok-check.ensures in
    record {
      loan = record { tasks = refl; promises = refl; report = refl };
      going = going_start _ _ _ _ _ _ _ (sym asked);
    }

pub turn-at-requires : goal.turn-at-requires
turn-at-requires g c =
    going_asks _ _ _ _ _ _ _ c.loop-i.invariant.going (rw c.count-count.ensures at c.loop-i-test.true)

pub loop-i-preserved : goal.loop-i-preserved
loop-i-preserved g c =
    let same = c.turn-at.ensures.same_loan in
    let was = c.loop-i.invariant.loan in
    record {
      loan = record {
        tasks = same.tasks ∙ was.tasks;
        promises = same.promises ∙ was.promises;
        report = same.report ∙ was.report;
      };
      going = going_turn _ _ _ _ _ _ _ c.loop-i.invariant.going (rw c.count-count.ensures at c.loop-i-test.true) _
          c.record_at.ensures c.turn-at.ensures.turned;
    }

pub returns-clause-batched : goal.returns-clause-batched
returns-clause-batched g c =
    let asked = rw c.count-count.ensures at c.in_ok-check.ensures in
    going_end _ _ _ _ _ _ _ (sym asked) c.loop-i.invariant.going
    (rw c.count-count.ensures at c.loop-i-test.false)
