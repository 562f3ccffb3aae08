-- The call by words, by what the call by records ensures. Assumes nothing.
use mathlib.Core.Path.{sym, ◌∙◌}
use Rattle.words.specs.Words.{small}
use Rattle.steps.specs.Lending.{tables_lent}
use Rattle.batch_words.proofs.FlatLaws.{flat_refused, flat_batches}
use Rattle.batch_words.proofs.batch_words.Goals as goal

pub returns-then-not-is_flat-clause-called : goal.returns-then-not-is_flat-clause-called
returns-then-not-is_flat-clause-called c =
    let a = c.args in
    flat_refused small a.list.now (tables_lent a.lent.now) a.words.now a.lent.now.report.now
    a.answers.now (sym c.is_flat.ensures ∙ c.if-not-is_flat.true)

pub returns-clause-called : goal.returns-clause-called
returns-clause-called c =
    let a = c.args in
    flat_batches small a.list.now (tables_lent a.lent.now) a.words.now a.lent.now.report.now
    a.answers.now (sym c.is_flat.ensures ∙ c.if-not-is_flat.false) c.batch.ensures.batched
