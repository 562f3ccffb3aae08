-- `line_gather::is_last` meets its contract: its test is that of `is_last`.
-- Assumes nothing.
use Rattle.std.proofs.Common.{rules}
use Rattle.line_gather.specs.Gather.{is_last}
use Rattle.line_gather.proofs.is_last.Goals as goal

pub returns : goal.returns
unfolding is_last
returns c = search rules
