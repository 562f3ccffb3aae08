-- `text_records::record_of` meets its contract: the line goes by its word (`record_of_by`), and each way out is the
-- clause of `after_word` for that word. Assumes nothing.
use Rattle.std.proofs.Common.{rules, ◌≡◌, ◌∙◌, sym, ap, length, Ok, Err}
use Rattle.text_fields.specs.Fields.{field_at, next_start}
use Rattle.text_keywords.specs.Keywords.{keyword_of}
use Rattle.text_keywords.specs.declared.Keyword.TheVariants.{Open, Step}
use Rattle.text_records.specs.declared.LineRecord.TheVariants as R
use Rattle.text_records.specs.Records.{of_pair, last_pair, pair_at, after_word}
use Rattle.text_records.proofs.RecordLaws.{record_of_by}
use Rattle.text_records.proofs.record_of.Goals as goal

pub returns-in_err-keyword_of : goal.returns-in_err-keyword_of
unfolding after_word
returns-in_err-keyword_of c =
    let bytes : c.field-word.result.now ≡ field_at c.args.line.now 0 = search rules in
    let next : c.after-next.result.at ≡ next_start c.args.line.now (length c.field-word.result.now) = search rules in
    let word = c.in_err-keyword_of.field-0.0 in
    let w : Err word ≡ keyword_of c.field-word.result.now = search rules in
    let r : c.from_residual.result ≡ Err word = search rules in
    r ∙ sym (record_of_by _ _ _ _ bytes next w)

pub returns-in_err-tasks-in-Open : goal.returns-in_err-tasks-in-Open
unfolding after_word of_pair
returns-in_err-tasks-in-Open c =
    let bytes : c.field-word.result.now ≡ field_at c.args.line.now 0 = search rules in
    let next : c.after-next.result.at ≡ next_start c.args.line.now (length c.field-word.result.now) = search rules in
    let bad = c.in_err-tasks-in-Open.field-0.0 in
    let w : Ok Open ≡ keyword_of c.field-word.result.now = search rules in
    let l : last_pair c.args.line.now (pair_at c.args.line.now c.after-next.result.at) ≡ Err bad = search rules in
    let r : c.from_residual-in_err-tasks-in-Open.result ≡ Err bad = search rules in
    r ∙ sym (record_of_by _ _ _ _ bytes next w ∙ ap (of_pair R.Open) l)

pub returns-in_ok-tasks-in-Open : goal.returns-in_ok-tasks-in-Open
unfolding after_word of_pair
returns-in_ok-tasks-in-Open c =
    let bytes : c.field-word.result.now ≡ field_at c.args.line.now 0 = search rules in
    let next : c.after-next.result.at ≡ next_start c.args.line.now (length c.field-word.result.now) = search rules in
    let t = c.in_ok-tasks-in-Open in
    let w : Ok Open ≡ keyword_of c.field-word.result.now = search rules in
    let l : last_pair c.args.line.now (pair_at c.args.line.now c.after-next.result.at) ≡ Ok (t.tasks, t.promises) =
    search rules in
    sym (record_of_by _ _ _ _ bytes next w ∙ ap (of_pair R.Open) l)

pub returns-in-Step : goal.returns-in-Step
unfolding after_word
returns-in-Step c =
    let bytes : c.field-word.result.now ≡ field_at c.args.line.now 0 = search rules in
    let next : c.after-next.result.at ≡ next_start c.args.line.now (length c.field-word.result.now) = search rules in
    let w : Ok (Step c.in-Step.kind) ≡ keyword_of c.field-word.result.now = search rules in
    c.step_after.ensures ∙ sym (record_of_by _ _ _ _ bytes next w)
