-- `words::sizes_in_bounds` meets its contract: its three tests are those of the definition. Assumes nothing.
use borrow.Author.Rules.{rules}
use Rattle.words.specs.Words.{sizes_in_bounds}
use Rattle.words.proofs.Tests.{tests}
use Rattle.words.proofs.sizes_in_bounds.Goals as goal

pub returns-then-tasks-le-TASKS : goal.returns-then-tasks-le-TASKS
unfolding sizes_in_bounds
returns-then-tasks-le-TASKS c = search (rules, tests)

pub returns-else-tasks-le-TASKS : goal.returns-else-tasks-le-TASKS
unfolding sizes_in_bounds
returns-else-tasks-le-TASKS c = search (rules, tests)
