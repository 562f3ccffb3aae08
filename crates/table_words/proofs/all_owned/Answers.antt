-- `table_words::all_owned` meets its contract: a no says nothing, and a yes that every owner is live. Assumes nothing.
use mathlib.Core.Path.{sym, ◌∙◌}
use native.Mathlib.Omega.{arith}
use borrow.Author.Rules.{rules}
use Rattle.rules.specs.Tables.{live}
use Rattle.table_words.specs.Allowed.{not_between}
use Rattle.table_words.proofs.AllowedLaws.{only_owners}
use Rattle.table_words.proofs.all_owned.Goals as goal

pub returns-then-every_word : goal.returns-then-every_word
unfolding not_between
returns-then-every_word c = λ yes.
    let found = c.in-Some.ensures.lookup.0 in
    let n = c.owners_up_to.ensures in
    let lives = sym (c.every_word.ensures live (λ w a h e. search rules)) ∙ c.if-every_word.true in
    let apart = c.every_word-then-every_word.ensures not_between (λ w a h e. search rules) in
    only_owners c.args.tasks.now c.args.promises.now _ c.requires (rw (found.2, n) at lives) (omega (arith, n, found.1))
    (sym apart ∙ yes)
