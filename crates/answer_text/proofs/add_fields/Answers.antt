-- `answer_text::add_fields` meets its contract: the fields of each part follow those before it (`added_added`).
-- Assumes nothing.
use Rattle.answer_text.specs.AnswerText.{fields_in}
use Rattle.text_buffers.proofs.BufferLaws.{added_added}
use Rattle.answer_text.proofs.AnswerLaws.{fields_text_append}
use Rattle.answer_text.proofs.add_fields.Goals as goal

pub returns : goal.returns
unfolding fields_in
returns c =
    rw (fields_text_append, fields_text_append, fields_text_append, ← c.words_of-second.ensures, ← c.words_of.ensures)
    (added_added (added_added (added_added c.add_refusal-n.ensures c.add_part-v.ensures)
    c.add_part-w.ensures) c.add_part.ensures)
