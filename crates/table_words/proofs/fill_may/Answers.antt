-- `table_words::fill_may` meets its contract: what it notes of each word is what the rules ask of it. Assumes nothing.
use borrow.Author.Rules.{rules}
use Rattle.words.specs.Words.{ended_word}
use Rattle.words.specs.Lists.{is}
use Rattle.rules.specs.Tables.{live}
use Rattle.table_words.proofs.AllowedLaws.{fills}
use Rattle.table_words.proofs.fill_may.Goals as goal

pub returns : goal.returns
unfolding is
returns c =
    let noted = c.note.ensures live (λ w a h e. search rules) in
    let owned = rw (c.from.ensures, c.from-2.ensures, c.from-3.ensures) at noted in
    let ended = rw c.from-4.ensures at (c.note-2.ensures (is ended_word) (λ w a h e. search rules)) in
    fills _ c.args.tasks.now c.args.may.now c.note.new.may c.note-2.new.may c.requires owned ended
