-- `text_writers::put_numbers` meets its contract. The invariant: the first words' fields were written, each turn one
-- more (`fields_more`).
-- Assumes nothing.
use lib.Seq.{take_all}
use Rattle.text_buffers.proofs.BufferLaws.{wrote_length}
use Rattle.text_writers.proofs.WriterLaws.{fields_more, fields_none}
use Rattle.text_writers.proofs.put_numbers.Goals as goal

pub loop-word-init : goal.loop-word-init
loop-word-init c = fields_none _

pub loop-word-preserved : goal.loop-word-preserved
loop-word-preserved c =
    fields_more _ _ c.loop-word-test.true c.loop-word.invariant (rw c.from.ensures at c.add_number-at.ensures)

pub shape_of-out : goal.shape_of-out
shape_of-out c = wrote_length c.loop-word.invariant

pub returns : goal.returns
returns c = rw (take_all _ _ c.loop-word-test.false) at c.loop-word.invariant
