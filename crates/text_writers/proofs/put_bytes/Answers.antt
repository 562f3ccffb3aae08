-- `text_writers::put_bytes` meets its contract: as much is written as there is room for (`wrote_front`).
-- Assumes nothing.
use Rattle.text_buffers.proofs.BufferLaws.{wrote_front}
use Rattle.text_writers.proofs.put_bytes.Goals as goal

pub returns : goal.returns
returns c = rw c.copy_from_slice.ensures.after (wrote_front _ _ _ c.min-count.ensures)
