-- `text_records::pair_at` meets its contract: the two numbers are read in the order of `with_first` and `with_second`.
-- Assumes nothing.
use Rattle.std.proofs.Common.{rules}
use Rattle.text_records.specs.Records.{with_second, with_first, pair_at}
use Rattle.text_records.proofs.pair_at.Goals as goal

pub returns-in_err-first : goal.returns-in_err-first
unfolding pair_at with_first with_second
returns-in_err-first c = search rules

pub returns-in_err-second : goal.returns-in_err-second
unfolding pair_at with_first with_second
returns-in_err-second c = search rules

pub returns : goal.returns
unfolding pair_at with_first with_second
returns c = search rules
