-- `step_end::awaits_word` meets its contract: a word below the first wait waits on nothing, and any other names the
-- promise that is read. Assumes nothing.
use Rattle.rules.specs.Steps.{awaits}
use Rattle.words.proofs.Tests.{tests}
use borrow.Author.Rules.{rules}
use Rattle.step_end.proofs.awaits_word.Goals as goal

pub returns-then-w-ge-FIRST_WAIT : goal.returns-then-w-ge-FIRST_WAIT
unfolding awaits
returns-then-w-ge-FIRST_WAIT c = search (rules, tests)

pub returns-else-w-ge-FIRST_WAIT : goal.returns-else-w-ge-FIRST_WAIT
unfolding awaits
returns-else-w-ge-FIRST_WAIT c = search (rules, tests)
