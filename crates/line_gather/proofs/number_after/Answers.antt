-- `line_gather::number_after` meets its contract: its test is that of `number_after`.
-- Assumes nothing.
use borrow.Author.Tests.{lt-ltb, le-ltb}
use Rattle.line_gather.specs.Gather.{number_after}
use Rattle.line_gather.proofs.number_after.Goals as goal

pub returns-then-n-lt-LINES : goal.returns-then-n-lt-LINES
unfolding number_after
returns-then-n-lt-LINES c = rw (lt-ltb _ _ c.if-n-lt-LINES.true)

pub returns-else-n-lt-LINES : goal.returns-else-n-lt-LINES
unfolding number_after
returns-else-n-lt-LINES c = rw (le-ltb _ _ c.if-n-lt-LINES.false)
