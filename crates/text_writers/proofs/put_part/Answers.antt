-- `text_writers::put_part` meets its contract: the part of the words is a slice of them (`stretch_of_slice`), and past
-- them it is empty.
-- Assumes nothing.
use Rattle.text_writers.proofs.WriterLaws.{stretch_of_none, stretch_of_slice, fields_none}
use native.Mathlib.Omega.{arith}
use Rattle.text_writers.proofs.put_part.Goals as goal

pub returns-then-words-from : goal.returns-then-words-from
returns-then-words-from c =
    let a = c.args in
    rw (stretch_of_none a.words.now a.from a.count (omega arith)) (fields_none _)

pub returns : goal.returns
returns c =
    let a = c.args in
    rw (stretch_of_slice a.words.now a.from a.count _ c.part_end-end.ensures) at
    c.put_numbers.ensures
