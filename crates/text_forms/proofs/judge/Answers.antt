-- `text_forms::judge` meets its contract: a line that is too long is bad at its limit, and any other goes by its
-- record.
-- Assumes nothing.
use Rattle.std.proofs.Common.{◌≡◌, ◌∙◌, refl, sym, rules, Ok, Err, Result}
use Rattle.text_fields.specs.declared.BadByte.{BadByte}
use Rattle.text_records.specs.Records.{record_of}
use Rattle.text_records.specs.declared.LineRecord.{LineRecord}
use Rattle.text_records.specs.declared.LineRecord.TheVariants as R
use Rattle.text_forms.specs.Judging.{at_column, of_record, entries_in, Judged}
use Rattle.text_forms.proofs.JudgingLaws.{judged_long, judged_list, judged_plain, record_in_line, list_in_line}
use Rattle.text_forms.proofs.judge.Goals as goal

pub returns-then-line-gt-LINE : goal.returns-then-line-gt-LINE
returns-then-line-gt-LINE c = judged_long _ _ c.if-line-gt-LINE.true

pub map_err-requires : goal.map_err-requires
unfolding of_record
map_err-requires c = λ e q.
    record_in_line _ _ c.if-line-gt-LINE.false (sym c.record_of.ensures ∙ q) _ refl

pub returns-in_err-tasks : goal.returns-in_err-tasks
unfolding of_record entries_in
returns-in_err-tasks c = go c.record_of.result refl
  where
    told : c.from_residual.result ≡ Err c.in_err-tasks.field-0.0
    told = search rules

    go : (r : Result LineRecord BadByte) → c.record_of.result ≡ r
        → Judged c.args.line.now c.args.list.now c.args.list.now c.from_residual.result
    go (Ok v) e = absurd (search rules)
    go (Err b) e =
        let h = rw e at c.map_err.ensures.cases in
        let m : c.map_err.result ≡ Err (at_column b.place) = search rules in
        let w : c.map_err.result ≡ Err c.in_err-tasks.field-0.0 = search rules in
        let x : c.in_err-tasks.field-0.0 ≡ at_column b.place = cc (m, w) in
        rw (told, x) (judged_plain _ _ _ c.if-line-gt-LINE.false (sym c.record_of.ensures ∙ e) refl)

pub with_list-requires : goal.with_list-requires
with_list-requires c =
    let i = c.in-Listing in
    let r : record_of c.args.line.now ≡ Ok (R.Listing i.kind i.t i.c i.at) = search rules in
    list_in_line _ _ _ _ _ c.if-line-gt-LINE.false r

pub returns-in-Open : goal.returns-in-Open
unfolding of_record entries_in
returns-in-Open c =
    let r : record_of c.args.line.now ≡ Ok (R.Open c.in-Open.tasks c.in-Open.promises) = search rules in
    judged_plain _ _ _ c.if-line-gt-LINE.false r refl

pub returns-in-Plain : goal.returns-in-Plain
unfolding of_record entries_in
returns-in-Plain c =
    let r : record_of c.args.line.now ≡ Ok (R.Plain c.in-Plain.kind c.in-Plain.t c.in-Plain.p) = search rules in
    judged_plain _ _ _ c.if-line-gt-LINE.false r refl

pub returns-in-Listing : goal.returns-in-Listing
unfolding of_record entries_in
returns-in-Listing c =
    let i = c.in-Listing in
    let r : record_of c.args.line.now ≡ Ok (R.Listing i.kind i.t i.c i.at) = search rules in
    let w = c.with_list.ensures in
    judged_list _ _ _ c.if-line-gt-LINE.false r w.value w.list_after
