-- `table_chains::chain_passes` meets its contract: only a task that waits has a chain to follow. Assumes nothing.
use mathlib.Core.Path.{sym, ◌∙◌}
use borrow.Author.Tests.{lt-ltb}
use Rattle.table_chains.proofs.MarkLaws.{idle_passes, waiting_passes}
use Rattle.table_chains.proofs.chain_passes.Goals as goal

pub returns-then-tasks-v-lt-FIRST_WAIT : goal.returns-then-tasks-v-lt-FIRST_WAIT
returns-then-tasks-v-lt-FIRST_WAIT c =
    let idle = c.if-tasks-v-lt-FIRST_WAIT.true in
    (lt-ltb _ _ idle ∙ sym (idle_passes _ _ idle), λ z. c.requires.1.marked)

pub returns-else-tasks-v-lt-FIRST_WAIT : goal.returns-else-tasks-v-lt-FIRST_WAIT
returns-else-tasks-v-lt-FIRST_WAIT c =
    (c.mark_way.ensures.0 ∙ sym (waiting_passes _ _ c.if-tasks-v-lt-FIRST_WAIT.false), c.mark_way.ensures.1)
