-- `answer_text::add_field` meets its contract: the text of one field is the writer's own (`fields_text_one`).
-- Assumes nothing.
use Rattle.answer_text.proofs.AnswerLaws.{fields_text_one}
use Rattle.answer_text.proofs.add_field.Goals as goal

pub returns : goal.returns
returns c = rw (fields_text_one, ← c.from.ensures) c.add_number.ensures
