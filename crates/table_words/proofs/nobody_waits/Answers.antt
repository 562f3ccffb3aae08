-- `table_words::nobody_waits` meets its contract: a word below the first wait is idle. Assumes nothing.
use borrow.Author.Rules.{rules}
use Rattle.table_words.specs.Allowed.{idle}
use Rattle.table_words.proofs.nobody_waits.Goals as goal

pub returns : goal.returns
unfolding idle
returns c = c.every_word.ensures idle (λ w a h e. search rules)
