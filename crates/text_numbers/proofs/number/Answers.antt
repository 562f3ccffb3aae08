-- `text_numbers::number` meets its contract: each of its arms is one law of `number_in`. Assumes nothing.
use Rattle.std.proofs.Common.{rules, sym, ◌∙◌, ◌≡◌, arith, get_or, length}
use Rattle.text_numbers.proofs.NumberLaws.{number_in_empty, number_in_zero, number_in_zero_more, number_in_start}
use Rattle.text_numbers.proofs.number.Goals as goal
use Rattle.text_numbers.proofs.number.Goals.{in_default-via-then-field-lt2+in_default-1}
use Rattle.text_numbers.proofs.number.Goals.{in_default-via-else-field-lt2+in_default-1}

pub returns-in-empty : goal.returns-in-empty
returns-in-empty c = sym (number_in_empty _ (omega arith))

pub returns-in-48 : goal.returns-in-48
returns-in-48 c =
    let e : get_or c.args.field.now 0 0 ≡ 48 = search rules in
    sym (number_in_zero _ e (omega arith))

pub returns-in-48-2 : goal.returns-in-48-2
returns-in-48-2 c =
    let e : get_or c.args.field.now 0 0 ≡ 48 = search rules in
    sym (number_in_zero_more _ e (omega arith))

pub returns-in_default : goal.returns-in_default
returns-in_default c =
    let e : get_or c.args.field.now 0 0 ≡ 48 → ⊥ = elim c.in_default.branch [
      | in_default-via-then-field-lt2+in_default-1 w ↦ search rules
      | in_default-via-else-field-lt2+in_default-1 w ↦ search rules
    ] in
    let l : length c.args.field.now ≡ 0 → ⊥ = search rules in
    c.digits.ensures ∙ sym (number_in_start _ l e)
