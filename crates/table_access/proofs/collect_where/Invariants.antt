-- `table_access::collect_where` meets its contract: after each turn the places found so far are written, and the rest
-- is still to be read. Assumes nothing.
use Rattle.std.proofs.Common.{ℕ, Bool, ◌≤◌, ◌+◌}
use Rattle.words.specs.Lists.{Decides}
use Rattle.words.proofs.LoopLaws.{Collected}
use Rattle.table_access.proofs.collect_where.Given as goal

abbrev pub invariant-loop-i : goal.invariant-loop-i
invariant-loop-i g l = (l.n ≤ l.from + l.i)
    × ((t : ℕ → Bool) → Decides (goal.F-post g l.test) t → Collected t l.table l.initial.out l.from l.out l.i l.n)
