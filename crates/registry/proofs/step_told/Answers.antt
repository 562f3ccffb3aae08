-- `registry::step_told` meets its contract: too few words for the answer, or the step and its answer told.
-- Assumes nothing.
use borrow.Author.Rules.{rules}
use Rattle.rules.specs.Tables.{tables}
use Rattle.registry.proofs.ExportLaws.{exports_short, exports_step}
use Rattle.registry.proofs.step_told.Goals as goal

pub returns-then-answer-lt4 : goal.returns-then-answer-lt4
returns-then-answer-lt4 c = rw c.number.ensures (exports_short _ _ _ _ c.if-answer-lt4.true)

pub returns : goal.returns
returns c =
    let a = c.args in
    let told = exports_step (tables a.tasks.now a.promises.now) a.answer.now c.if-answer-lt4.false c.take.ensures.taken
    c.tell.ensures.0 c.tell.ensures.1 in
    search rules
