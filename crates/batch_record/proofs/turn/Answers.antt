-- `batch_record::turn` meets its contract: what the step and `tell` do to the rests of the report and the answers
-- (`turned`).
-- Assumes nothing.
use Rattle.words.specs.Words.{small}
use Rattle.rules.specs.Tables.{tables}
use Rattle.batch_record.proofs.RecordLaws.{next_within, turned}
use native.Mathlib.Omega.{arith}
use Rattle.batch_record.proofs.turn.Goals as goal

pub overflow_add-result : goal.overflow_add-result
overflow_add-result c =
    let a = c.args in
    let s = tables a.lent.now.tasks.now a.lent.now.promises.now in
    let h = next_within small a.list.now s a.asked a.at a.lent.now.report.now c.requires.0 c.raw_record-answer.ensures
    c.word_count.ensures c.requires.1 in
    omega (arith, h)

pub returns-clause-turned : goal.returns-clause-turned
returns-clause-turned c =
    let a = c.args in
    let s = tables a.lent.now.tasks.now a.lent.now.promises.now in
    turned small a.list.now s a.asked a.at a.i a.lent.now.report.now a.answers.now c.requires.0 c.requires.1
    c.requires.2 c.raw_record-answer.ensures c.tell.ensures.1 c.word_count.ensures
