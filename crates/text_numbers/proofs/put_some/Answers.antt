-- `text_numbers::put_some` meets its contract: the digits of the thousands, and then the last three
-- (`digits_thousands`). Assumes nothing.
use mathlib.Core.Path.{refl}
use Rattle.text_numbers.proofs.PrintLaws.{digits_thousands}
use native.Mathlib.Omega.{arith}
use Rattle.text_numbers.proofs.put_some.Goals as goal

pub returns : goal.returns
returns c =
    digits_thousands _ _ refl c.if-n-lt1000.false (omega (arith, c.requires)) c.put_few-k.ensures
    c.add_three.ensures
