-- `text_numbers::digits` meets its contract. The invariant: what is left of the field, with the number and the count
-- of the digits before it, still gives the answer.
-- Assumes nothing.
use Rattle.std.proofs.Common.{◌≡◌, drop}
use Rattle.text_numbers.specs.Numbers.{digits_from}
use Rattle.text_numbers.proofs.digits.Given as goal

abbrev pub invariant-loop-place : goal.invariant-loop-place
invariant-loop-place l = digits_from l.number l.place (drop l.place l.field) ≡ digits_from 0 0 l.field
