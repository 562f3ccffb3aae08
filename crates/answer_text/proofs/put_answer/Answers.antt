-- `answer_text::put_answer` meets its contract: the five parts of the line follow each other (`answer_wrote`).
-- Assumes nothing.
use Rattle.answer_text.proofs.AnswerLaws.{answer_wrote}
use Rattle.answer_text.proofs.put_answer.Goals as goal

pub returns : goal.returns
returns c =
    answer_wrote _ _ _ c.layout-l.ensures c.put_digits-digits.ensures c.add_byte-tab.ensures
    (rw c.word_of.ensures at c.add_bytes-word.ensures) c.add_fields-fields.ensures c.add_byte.ensures
