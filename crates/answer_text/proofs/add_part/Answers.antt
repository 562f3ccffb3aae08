-- `answer_text::add_part` meets its contract: where there is no value, nothing is shown (`added_none`). Assumes nothing.
use Rattle.answer_text.proofs.AnswerLaws.{fields_text_none, added_none}
use Rattle.answer_text.proofs.add_part.Goals as goal

pub returns-in-None : goal.returns-in-None
returns-in-None c = rw (c.in-None.is, fields_text_none) (added_none _ _)
