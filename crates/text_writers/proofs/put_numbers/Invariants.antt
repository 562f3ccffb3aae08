-- `text_writers::put_numbers` meets its contract. The invariant: the first words' fields were written, each turn one
-- more (`fields_more`).
-- Assumes nothing.
use lib.ListN.{take}
use Rattle.text_buffers.specs.Buffers.{Wrote}
use Rattle.text_writers.specs.Texts.{fields_text}
use Rattle.text_writers.proofs.put_numbers.Given as goal

abbrev pub invariant-loop-word : goal.invariant-loop-word
invariant-loop-word l = Wrote (fields_text (take l.word-index l.words)) l.initial.out l.out l.at
