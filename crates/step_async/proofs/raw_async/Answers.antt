-- `step_async::raw_async` meets its contract: the first bad place decides between a refusal, which leaves all as it
-- was, and the stores of the rules; it is at most the number of promises, so it fits. Assumes nothing.
use mathlib.Core.Path.{refl, sym, ap₂}
use lib.ListN.{length}
use borrow.Author.Tests.{lt-ltb, le-ltb}
use Rattle.words.specs.Words.{small}
use Rattle.words.proofs.ListLaws.{over_none}
use Rattle.rules.specs.Tables.{tables, with_words}
use Rattle.rules.specs.Refusals.{child_rows}
use Rattle.rules.specs.Steps.{started}
use Rattle.rules.proofs.BoundsLaws.{sizes_fit_true}
use Rattle.rules.proofs.RefusalLaws.{actor_rows_none, child_rows_none}
use Rattle.rules.proofs.PlaceLaws.{first_bad_place}
use Rattle.rules.proofs.GivesLaws.{gives_refused, gives_passed}
use Rattle.rules.proofs.RefusalLaws.{number_not_0}
use native.Mathlib.Omega.{arith}
use Rattle.step_async.proofs.raw_async.Goals as goal

pub returns-in-Err : goal.returns-in-Err
returns-in-Err c rs = rw c.into.ensures (gives_refused _ _ _ rs c.in-Err.ensures (number_not_0 _))

pub check_list-requires : goal.check_list-requires
check_list-requires c = (sizes_fit_true small _ c.requires).promises

pub refused_entry-requires : goal.refused_entry-requires
refused_entry-requires c =
    let a = c.args in
    let most = first_bad_place small.base a.promises.now a.t a.list.now (length a.list.now) in
    let bad = c.in-Err-check_list.ensures in
    (bad.within, omega (arith, (sizes_fit_true small _ c.requires).promises, bad.place, most))

pub returns-in-Err-check_list : goal.returns-in-Err-check_list
unfolding started
returns-in-Err-check_list c rs =
    let bad = c.in-Err-check_list.ensures in
    gives_passed _ _ c.in_default.ensures refl
    (rw (← bad.place, lt-ltb _ (length c.args.list.now) bad.within, ← bad.refusal)
    (record { answer = c.refused_entry.ensures; after = refl; report = sym (over_none rs) }))

pub owned_by-requires : goal.owned_by-requires
owned_by-requires c =
    let a = c.args in
    let f = actor_rows_none a.tasks.now a.t (child_rows a.tasks.now a.c) (sym c.in_default.ensures) in
    omega (arith, (sizes_fit_true small _ c.requires).tasks, (child_rows_none a.tasks.now a.c f.1).0)

pub returns : goal.returns
unfolding started
returns c rs =
    let s = tables c.args.tasks.now c.args.promises.now in
    let n = length c.args.list.now in
    gives_passed _ _ c.in_default.ensures refl
    (rw (← c.in_default-check_list.ensures, le-ltb n n (omega arith))
    (record {
      answer = refl;
      after = ap₂ (with_words s) (rw (c.put.ensures, c.from.ensures)) (rw (← c.owned_by.ensures) c.give.ensures);
      report = sym (over_none rs);
    }))
