-- `table_chains::marked_pass` meets its contract: no task is marked at first. Assumes nothing.
use native.Mathlib.Omega.{arith}
use Rattle.words.specs.Words.{small}
use Rattle.rules.specs.Tables.{tables}
use Rattle.rules.proofs.BoundsLaws.{sizes_fit_true}
use Rattle.table_chains.proofs.MarkLaws.{marked_none}
use Rattle.table_chains.proofs.marked_pass.Goals as goal

pub chains_marked-requires : goal.chains_marked-requires
chains_marked-requires c =
    let lent = tables c.args.tasks.now c.args.promises.now in
    let fit = sizes_fit_true small lent c.requires in
    record { room = fit.tasks; fits = omega (arith, fit.tasks); marked = marked_none lent small.most_tasks }
