-- `line_gather::gather` meets its contract: the piece up to the line's end is a part of the block, and is added to the
-- buffer.
-- Assumes nothing.
use native.Mathlib.Omega.{arith}
use Rattle.line_gather.proofs.GatherLaws.{gathered_line, gathered_more}
use Rattle.line_gather.proofs.gather.Goals as goal

pub returns-then-end-block : goal.returns-then-end-block
returns-then-end-block c =
    gathered_line _ _ _ _ _ _ _ _ _ (omega arith) c.run_end-end.ensures (omega arith) c.add_bytes.ensures
    c.if-end-block.true

pub returns-else-end-block : goal.returns-else-end-block
returns-else-end-block c =
    gathered_more _ _ _ _ _ _ _ _ _ (omega arith) c.run_end-end.ensures (omega arith) c.add_bytes.ensures
    c.if-end-block.false
