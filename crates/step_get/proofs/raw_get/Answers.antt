-- `step_get::raw_get` meets its contract: a refusal, or what `get_made` gives. Assumes nothing.
use mathlib.Core.Path.{refl, sym}
use native.Mathlib.Omega.{arith}
use Rattle.words.specs.Words.{small}
use Rattle.rules.proofs.BoundsLaws.{in_bounds_true}
use Rattle.rules.proofs.GivesLaws.{gives_refused, gives_passed}
use Rattle.rules.proofs.RefusalLaws.{actor_rows_none, get_rows_none, number_not_0}
use Rattle.rules.specs.Refusals.{get_rows}
use Rattle.step_get.proofs.raw_get.Goals as goal

pub returns-in-Err : goal.returns-in-Err
returns-in-Err c = rw c.into.ensures (gives_refused _ _ _ _ c.in-Err.ensures (number_not_0 _))

pub get_made-requires : goal.get_made-requires
get_made-requires c =
    let a = c.args in
    let b = in_bounds_true small _ _ c.requires in
    let f = actor_rows_none a.tasks.now a.t (get_rows a.promises.now a.p) (sym c.in_default.ensures) in
    (b.tasks, omega (arith, b.room), omega (arith, b.promises, (get_rows_none a.promises.now a.p f.1).0))

pub returns : goal.returns
returns c = gives_passed _ _ c.in_default.ensures refl c.get_made.ensures
