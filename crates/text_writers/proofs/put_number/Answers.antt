-- `text_writers::put_number` meets its contract: the tab, and then the digits (`wrote_added`).
-- Assumes nothing.
use Rattle.text_buffers.proofs.BufferLaws.{wrote_none, wrote_added}
use Rattle.text_writers.proofs.put_number.Goals as goal

pub returns : goal.returns
returns c =
    wrote_added (wrote_added (wrote_none _) c.add_byte-at.ensures) c.add_digits.ensures
