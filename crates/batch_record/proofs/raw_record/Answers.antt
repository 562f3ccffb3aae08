-- `batch_record::raw_record` meets its contract: refusal 16, or the step that the record names. Assumes nothing.
use Rattle.words.specs.Words.{small}
use Rattle.std.proofs.Common.{rules}
use Rattle.rules.specs.Tables.{tables}
use Rattle.batch_record.proofs.RecordLaws.{record_refused, record_taken}
use Rattle.batch_record.proofs.raw_record.Goals as goal

pub returns : goal.returns
returns c =
    let a = c.args in
    let named = c.in-Some.ensures in
    let taken = record_taken small (tables a.tasks.now a.promises.now) a.list.now a.asked named.0 named.1
    c.take_raw.ensures.taken in
    search rules

pub returns-in_default : goal.returns-in_default
returns-in_default c =
    let a = c.args in
    rw c.from.ensures
    (record_refused small (tables a.tasks.now a.promises.now) a.list.now a.asked _ c.in_default.ensures)
