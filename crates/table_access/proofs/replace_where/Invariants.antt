-- `table_access::replace_where` meets its contract: after i turns the first i words are rewritten. Assumes nothing.
use Rattle.std.proofs.Common.{ℕ, Bool}
use Rattle.words.specs.Lists.{Decides, changed}
use Rattle.words.proofs.LoopLaws.{Rewritten}
use Rattle.table_access.proofs.replace_where.Given as goal

abbrev pub invariant-loop-w : goal.invariant-loop-w
invariant-loop-w g l =
    (t : ℕ → Bool) → Decides (goal.F-post g l.test) t → Rewritten (changed t l.x) l.initial.table l.table l.w-index
