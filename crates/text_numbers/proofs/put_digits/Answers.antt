-- `text_numbers::put_digits` meets its contract: the digits of the millions, and then three by three the others
-- (`digits_thousands`). Assumes nothing.
use mathlib.Core.Path.{refl}
use Rattle.text_numbers.proofs.PrintLaws.{digits_thousands}
use native.Mathlib.Omega.{arith}
use borrow.Author.Rules.{rules}
use Rattle.text_numbers.proofs.put_digits.Goals as goal

pub returns : goal.returns
returns c =
    let thousands = digits_thousands _ _ (omega arith) (omega arith) (omega arith) c.put_some-j.ensures
    c.add_three-k.ensures in
    digits_thousands _ _ refl (omega arith) (search rules) thousands c.add_three.ensures
