-- `step_set::raw_set` meets its contract: the bounds give the promise a word and the report its room, and each loop
-- and store is the part of the outcome that has its name. Assumes nothing.
use mathlib.Core.List.{[]}
use Prim.Native.Nat.{◌≤◌}
use mathlib.Core.Path.{refl, sym, ap, ap₂, ◌∙◌}
use lib.ListN.{length}
use Rattle.words.specs.Words.{small}
use Rattle.words.specs.Lists.{is, places}
use Rattle.words.proofs.ListLaws.{over_sets, places_length}
use Rattle.rules.specs.Tables.{tables, with_words}
use Rattle.rules.specs.Refusals.{own_rows}
use Rattle.rules.specs.declared.Answer.TheVariants.{Set}
use Rattle.rules.proofs.BoundsLaws.{in_bounds_true}
use Rattle.rules.proofs.RefusalLaws.{actor_rows_none, own_rows_none, number_not_0}
use Rattle.rules.proofs.GivesLaws.{gives_refused, gives_passed}
use Rattle.words.proofs.Tests.{tests}
use borrow.Author.Rules.{rules}
use native.Mathlib.Omega.{arith}
use Rattle.step_set.proofs.raw_set.Goals as goal

pub returns-in-Err : goal.returns-in-Err
returns-in-Err c = rw c.refused.ensures (gives_refused _ _ _ _ c.in-Err.ensures (number_not_0 _))

pub waits_on-w-requires : goal.waits_on-w-requires
waits_on-w-requires c =
    let a = c.args in
    let b = in_bounds_true small _ _ c.requires in
    let own = own_rows small.base a.promises.now a.t a.p in
    let f = actor_rows_none a.tasks.now a.t own (sym c.in_default.ensures) in
    omega (arith, b.promises, (own_rows_none small.base a.promises.now a.t a.p [] f.1).0)

pub collect_where-n-requires-clause-room : goal.collect_where-n-requires-clause-room
collect_where-n-requires-clause-room c =
    let b = in_bounds_true small _ _ c.requires in
    (omega (arith, b.room), omega (arith, b.tasks))

pub overflow_cast-woken : goal.overflow_cast-woken
unfolding is
overflow_cast-woken c =
    let waits = is c.waits_on-w.result in
    let l = places_length waits 0 c.args.tasks.now in
    let found = c.collect_where-n.ensures waits (λ w a h e. search (rules, tests)) in
    omega (arith, (in_bounds_true small _ _ c.requires).tasks, found.0, l)

pub returns : goal.returns
unfolding is
returns c =
    let a = c.args in
    let waits = is c.waits_on-w.result in
    let woken = places waits 0 a.tasks.now in
    let l = places_length waits 0 a.tasks.now in
    let found = c.collect_where-n.ensures waits (λ w b h e. search (rules, tests)) in
    let woke = c.replace_where.ensures waits (λ w b h e. search (rules, tests)) in
    let room : length woken ≤ length a.report.now = omega (arith, (in_bounds_true small _ _ c.requires).room, l) in
    gives_passed _ _ c.in_default.ensures refl
    (rw (← c.waits_on-w.ensures)
    (record {
      answer = ap Set (omega (arith, found.0));
      after = ap₂ (with_words (tables c.args.tasks.now c.args.promises.now)) woke (rw (← c.from.ensures) c.put.ensures);
      report = found.1 ∙ sym (over_sets woken a.report.now room);
    }))
