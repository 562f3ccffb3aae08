-- `table_words::look_up` meets its contract: each word that is looked up stands within the table. Assumes nothing.
use borrow.Author.Rules.{rules}
use native.Mathlib.Omega.{arith}
use lib.ListN.{length}
use Rattle.table_words.specs.Allowed.{allowed}
use Rattle.table_words.proofs.AllowedLaws.{every_word_below_at}
use Rattle.table_words.proofs.look_up.Goals as goal

pub every_word-requires : goal.every_word-requires
every_word-requires c = λ k h.
    let below = every_word_below_at (length c.args.may.now) c.args.promises.now k c.requires h in
    λ κs place shape ranges sizes u from fit. omega (arith, below, from.ensures)

pub returns : goal.returns
unfolding allowed
returns c = c.every_word.ensures (allowed c.args.may.now) (λ w a h e. search rules)
