-- `text_fields::field_end` meets its contract: a field is a run up to a tab.
-- Assumes nothing.
use Rattle.text_fields.specs.Fields.{field_end}
use Rattle.text_fields.proofs.field_end.Goals as goal

pub returns : goal.returns
unfolding field_end
returns c = c.run_end.ensures
