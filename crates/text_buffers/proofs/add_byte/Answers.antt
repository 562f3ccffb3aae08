-- `text_buffers::add_byte` meets its contract: past the end nothing is written (`added_past`), before it one byte is
-- (`added_byte`).
-- Assumes nothing.
use Rattle.text_buffers.proofs.BufferLaws.{added_byte, added_past}
use Rattle.text_buffers.proofs.add_byte.Goals as goal

pub returns-then-out-at : goal.returns-then-out-at
returns-then-out-at c = added_past _ _ _ c.if-out-at.true

pub returns : goal.returns
returns c = added_byte _ _ _ c.if-out-at.false
