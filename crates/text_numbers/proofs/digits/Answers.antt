-- `text_numbers::digits` meets its contract: each way out of a turn is one law of `digits_from`. Assumes nothing.
use Rattle.std.proofs.Common.{rules, sym, ◌∙◌, ◌≡◌, Some, None, Err}
use Rattle.text_fields.specs.Fields.{bad_byte}
use Rattle.text_numbers.proofs.NumberLaws.{digits_from_end, digits_from_some, digits_from_none}
use Rattle.text_numbers.proofs.digits.Goals as goal

pub returns-in_err-number : goal.returns-in_err-number
returns-in_err-number c =
    let e : c.with_digit.result ≡ None = search rules in
    let r : c.from_residual.result ≡ Err (bad_byte c.loop-place.place) = search rules in
    r ∙ sym (digits_from_none _ _ _ _ c.loop-place-test.true _ c.with_digit.ensures e) ∙ c.loop-place.invariant

pub loop-place-preserved : goal.loop-place-preserved
loop-place-preserved c =
    let e : c.with_digit.result ≡ Some c.in_ok-number.number = search rules in
    sym (digits_from_some _ _ _ _ c.loop-place-test.true _ c.with_digit.ensures _ e) ∙ c.loop-place.invariant

pub returns : goal.returns
returns c = sym (digits_from_end _ _ _ _ c.loop-place-test.false) ∙ c.loop-place.invariant
