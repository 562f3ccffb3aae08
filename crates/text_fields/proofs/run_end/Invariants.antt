-- `text_fields::run_end` meets its contract. The invariant: the place reached, and the run from there on, still give
-- the run's end.
-- Assumes nothing.
use Rattle.std.proofs.Common.{◌≡◌, ◌+◌, drop}
use Rattle.text_fields.specs.Fields.{run_to, end_from}
use Rattle.text_fields.proofs.run_end.Given as goal

abbrev pub invariant-loop-end : goal.invariant-loop-end
invariant-loop-end l = l.end + run_to l.stop (drop l.end l.bytes) ≡ end_from l.stop l.bytes l.at
