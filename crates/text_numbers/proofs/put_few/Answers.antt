-- `text_numbers::put_few` meets its contract: how many digits there are is what the tests say. Assumes nothing.
use Rattle.text_numbers.proofs.PrintLaws.{digits_one, digits_two, digits_three}
use Rattle.text_numbers.proofs.put_few.Goals as goal

pub returns-then-n-lt10 : goal.returns-then-n-lt10
returns-then-n-lt10 c =
    digits_one _ c.if-n-lt10.true c.add_digit.ensures

pub returns-then-n-lt100 : goal.returns-then-n-lt100
returns-then-n-lt100 c =
    digits_two _ c.if-n-lt10.false c.if-n-lt100.true c.add_digit-k.ensures
    c.add_digit-then-n-lt100.ensures

pub returns : goal.returns
returns c =
    digits_three _ c.if-n-lt100.false c.requires c.add_three.ensures
