-- `answer_text::add_refusal` meets its contract: a refusal shows its number, any other answer none (`added_none`).
-- Assumes nothing.
use Rattle.answer_text.proofs.AnswerLaws.{fields_text_none, added_none}
use Rattle.answer_text.proofs.add_refusal.Goals as goal

pub returns-then-refuses : goal.returns-then-refuses
returns-then-refuses c =
    rw c.if-refuses.true c.add_field.ensures

pub returns : goal.returns
returns c = rw (c.if-refuses.false, fields_text_none) (added_none _ _)
