-- `table_words::every_word` meets its contract. The loop keeps: `good` says whether every word so far passes. Assumes
-- nothing.
use Rattle.std.proofs.Common.{ℕ, Bool, length, get_or}
use Rattle.words.specs.Lists.{Decides}
use Rattle.words.proofs.LoopLaws.{Tested}
use Rattle.table_words.proofs.every_word.Given as goal

abbrev pub invariant-loop-w : goal.invariant-loop-w
invariant-loop-w g l =
    (t : ℕ → Bool) → Decides (goal.F-post g l.test) t
    → Tested (λ k. t (get_or l.table k 0)) (length l.table) l.good l.w-index
