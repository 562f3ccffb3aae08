-- `step_new::raw_new` meets its contract: a refusal leaves all as it was, and otherwise the one store is that of the
-- rules. Assumes nothing.
use mathlib.Core.Path.{refl, sym, ap}
use Rattle.words.specs.Words.{small}
use Rattle.words.proofs.ListLaws.{over_none}
use Rattle.rules.specs.Tables.{tables, with_promises}
use Rattle.rules.specs.Refusals.{new_rows}
use Rattle.rules.proofs.BoundsLaws.{sizes_fit_true}
use Rattle.rules.proofs.RefusalLaws.{actor_rows_none, number_not_0}
use Rattle.rules.proofs.GivesLaws.{gives_refused, gives_passed}
use native.Mathlib.Omega.{arith}
use Rattle.step_new.proofs.raw_new.Goals as goal

pub returns-in-Err : goal.returns-in-Err
returns-in-Err c rs = rw c.into.ensures (gives_refused _ _ _ rs c.in-Err.ensures (number_not_0 _))

pub owned_by-requires : goal.owned_by-requires
owned_by-requires c =
    let a = c.args in
    let b = sizes_fit_true small (tables a.tasks.now a.promises.now) c.requires in
    let f = actor_rows_none a.tasks.now a.t (new_rows a.promises.now a.p) (sym c.in_default.ensures) in
    omega (arith, b.tasks, f.0.below)

pub returns : goal.returns
returns c rs =
    let s = tables c.args.tasks.now c.args.promises.now in
    gives_passed _ _ c.in_default.ensures refl
    (record {
      answer = refl;
      after = ap (with_promises s) (rw (c.put.ensures, c.owned_by.ensures, c.from.ensures));
      report = sym (over_none rs);
    })
