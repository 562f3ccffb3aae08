-- `table_words::promises_pass` meets its contract: within the bounds every word has room in the table. Assumes nothing.
use mathlib.Core.Path.{refl}
use native.Mathlib.Omega.{arith}
use Rattle.words.specs.Words.{small}
use Rattle.rules.specs.Tables.{tables}
use Rattle.rules.proofs.BoundsLaws.{sizes_fit_true}
use Rattle.table_words.proofs.promises_pass.Goals as goal

pub promises_may-requires : goal.promises_may-requires
promises_may-requires c =
    let lent = tables c.args.tasks.now c.args.promises.now in
    let fit = sizes_fit_true small lent c.requires in
    record { apart = omega (arith, fit.tasks); room = omega (arith, fit.tasks); fits = omega arith; empty = refl }
