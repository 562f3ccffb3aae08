-- `table_words::task_words_pass` meets its contract: the test by ranges is the test word by word. Assumes nothing.
use borrow.Author.Rules.{rules}
use Rattle.table_words.specs.Allowed.{task_word_passes}
use Rattle.table_words.proofs.task_words_pass.Goals as goal

pub returns : goal.returns
unfolding task_word_passes
returns c = c.every_word.ensures (task_word_passes c.args.promises) (λ w a h e. search rules)
