-- `table_words::note` meets its contract. The loop keeps: of each task so far it is noted whether its word passes.
-- Assumes nothing.
use Rattle.std.proofs.Common.{ℕ, Bool}
use Rattle.words.specs.Lists.{Decides}
use Rattle.table_words.proofs.AllowedLaws.{Noting}
use Rattle.table_words.proofs.note.Given as goal

abbrev pub invariant-loop-t : goal.invariant-loop-t
invariant-loop-t g l =
    (t : ℕ → Bool) → Decides (goal.F-post g l.test) t → Noting t l.tasks l.from l.initial.may l.may l.t
