-- `answer_text::add_list` meets its contract: the words of the report follow the count (`added_added`).
-- Assumes nothing.
use mathlib.Core.List.{[], ◌∷◌}
use Rattle.text_buffers.proofs.BufferLaws.{added_added}
use Rattle.answer_text.proofs.AnswerLaws.{fields_text_append}
use Rattle.answer_text.proofs.add_list.Goals as goal

pub returns : goal.returns
returns c =
    rw (fields_text_append (c.args.count ∷ []))
    (added_added c.add_field-e.ensures c.add_part.ensures)
