-- `text_numbers::add_three` meets its contract: the three digits follow each other. Assumes nothing.
use Rattle.text_numbers.proofs.PrintLaws.{added_three}
use Rattle.text_numbers.proofs.add_three.Goals as goal

pub returns : goal.returns
returns c =
    added_three _ c.add_digit-j.ensures c.add_digit-k.ensures c.add_digit.ensures
