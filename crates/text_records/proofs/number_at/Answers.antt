-- `text_records::number_at` meets its contract: each way out of reading the field is one law of `number_at`.
-- Assumes nothing.
use Rattle.std.proofs.Common.{sym, refl, ap, rules, ◌≡◌, ◌∙◌, ◌+◌, ℕ, length, Ok, Err, Result}
use Rattle.text_fields.specs.Fields.{field_at, next_start, bad_byte}
use Rattle.text_fields.specs.declared.BadByte.{BadByte}
use Rattle.text_numbers.specs.Numbers.{number_in}
use Rattle.text_fields.proofs.FieldLaws.{next_start_end}
use Rattle.text_records.specs.Records.{number_at}
use Rattle.text_records.proofs.RecordLaws.{number_at_end, number_at_is, number_at_bad, bad_within}
use Rattle.text_records.proofs.number_at.Goals as goal

pub returns-then-line-at : goal.returns-then-line-at
returns-then-line-at c = sym (number_at_end _ _ c.if-line-at.true)

pub map_err-requires : goal.map_err-requires
map_err-requires c = λ e q.
    let bytes : c.field-field.result.now ≡ field_at c.args.line.now c.args.at = search rules in
    let h = bad_within _ _ _ c.if-line-at.false bytes e (sym c.number.ensures ∙ q) in search rules

pub returns-in_err-number : goal.returns-in_err-number
returns-in_err-number c = go c.number.result refl
  where
    bytes : c.field-field.result.now ≡ field_at c.args.line.now c.args.at
    bytes = search rules

    told : c.from_residual.result ≡ Err c.in_err-number.field-0.0
    told = search rules

    go : (r : Result ℕ BadByte) → c.number.result ≡ r → c.from_residual.result ≡ number_at c.args.line.now c.args.at
    go (Ok v) e = absurd (search rules)
    go (Err b) e =
        let h = rw e at c.map_err.ensures.cases in
        let m : c.map_err.result ≡ Err (bad_byte (c.args.at + b.place)) = search rules in
        let w : c.map_err.result ≡ Err c.in_err-number.field-0.0 = search rules in
        let x : c.in_err-number.field-0.0 ≡ bad_byte (c.args.at + b.place) = cc (m, w) in
        told ∙ ap Err x ∙ sym (number_at_bad _ _ _ c.if-line-at.false bytes b (sym c.number.ensures ∙ e))

pub returns : goal.returns
returns c =
    let bytes : c.field-field.result.now ≡ field_at c.args.line.now c.args.at = search rules in
    let number : number_in c.field-field.result.now ≡ Ok c.in_ok-number.number = search rules in
    let next : c.after.result.at ≡ next_start c.args.line.now (c.args.at + length c.field-field.result.now) =
    search rules in
    sym (number_at_is _ _ _ c.if-line-at.false bytes _ _ (next_start_end _ _ c.if-line-at.false bytes next) number)
