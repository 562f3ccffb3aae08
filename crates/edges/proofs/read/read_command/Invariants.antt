-- The words so far are those of the fields so far.
use Rattle.std.proofs.Common.{◌≡◌, length, take, Some}
use Rattle.edges.specs.Commands.{fields_in, all_words}
use Rattle.edges.proofs.read.read_command.Given as goal

abbrev pub invariant-loop-field : goal.invariant-loop-field
invariant-loop-field l =
    all_words (take (length l.yielded) (fields_in l.text)) ≡ Some (take l.values.length l.values.words)
