-- `step_end::raw_end` meets its contract: who waits is found while the promises are still owned; the two parts of the
-- report stand after each other, and the bounds give them room. Assumes nothing.
use Prim.Native.Nat.{ℕ, ◌+◌, ◌≤◌, ◌<◌}
use mathlib.Core.List.{List, []}
use mathlib.Core.Path.{◌≡◌, refl, sym, ap₂}
use lib.ListN.{length}
use Rattle.words.specs.Words.{small}
use Rattle.words.specs.Lists.{is, places}
use Rattle.words.proofs.ListLaws.{places_length}
use mathlib.Core.Bool.{true}
use Rattle.rules.specs.Refusals.{first, actor_rows}
use Rattle.rules.specs.Tables.{in_bounds, tables, with_words}
use Rattle.rules.specs.Steps.{awaits}
use Rattle.rules.specs.declared.Answer.TheVariants.{Ended}
use Rattle.rules.proofs.BoundsLaws.{in_bounds_true}
use Rattle.rules.proofs.RefusalLaws.{actor_rows_none, number_not_0}
use Rattle.rules.proofs.GivesLaws.{gives_refused, gives_passed}
use Rattle.step_end.proofs.ReportLaws.{over_append}
use Rattle.words.proofs.Tests.{tests}
use borrow.Author.Rules.{rules}
use native.Mathlib.Omega.{arith}
use Rattle.step_end.proofs.raw_end.Goals as goal

-- task t has a number of its own
below : (promises tasks : List ℕ) (t k : ℕ) → in_bounds small k (tables tasks promises) ≡ true
    → 0 ≡ first (actor_rows tasks t) → t < small.most_tasks
below promises tasks t k bounds none =
    let b = in_bounds_true small _ _ bounds in
    let f = actor_rows_none tasks t [] (sym none) in
    omega (arith, b.tasks, f.0.below)

pub returns-in-Err : goal.returns-in-Err
returns-in-Err c = rw c.into.ensures (gives_refused _ _ _ _ c.in-Err.ensures (number_not_0 _))

pub owned_by-v-requires : goal.owned_by-v-requires
owned_by-v-requires c = omega (arith, below _ _ _ _ c.requires c.in_default.ensures)

pub collect_where-m-requires : goal.collect_where-m-requires
collect_where-m-requires c =
    let b = in_bounds_true small _ _ c.requires in
    record { callable = search rules; room = (omega (arith, b.room), omega (arith, b.promises)) }

pub collect_where-e-requires : goal.collect_where-e-requires
unfolding is
collect_where-e-requires c =
    let b = in_bounds_true small _ _ c.requires in
    let m = c.collect_where-m in
    let owned = is c.owned_by-v.result in
    let found = m.ensures owned (λ w a h e. search (rules, tests)) in
    let l = places_length owned 0 c.args.promises.now in
    record { callable = search rules; room = (omega (arith, b.room, l, found.0, m.auto.out), omega (arith, b.tasks)) }

pub overflow_sub-woken : goal.overflow_sub-woken
overflow_sub-woken c =
    let waits = awaits c.args.promises.now c.owned_by-v.result in
    omega (arith, (c.collect_where-e.ensures waits (λ w a h e. search rules)).0)

pub blamed_on-requires : goal.blamed_on-requires
blamed_on-requires c = omega (arith, below _ _ _ _ c.requires c.in_default.ensures)

pub overflow_cast-omitted : goal.overflow_cast-omitted
unfolding is
overflow_cast-omitted c =
    let owned = is c.owned_by-v.result in
    let found = c.collect_where-m.ensures owned (λ w a h e. search (rules, tests)) in
    let l = places_length owned 0 c.args.promises.now in
    omega (arith, (in_bounds_true small _ _ c.requires).promises, found.0, l)

pub overflow_cast-woken : goal.overflow_cast-woken
overflow_cast-woken c =
    let waits = awaits c.args.promises.now c.owned_by-v.result in
    let found = c.collect_where-e.ensures waits (λ w a h e. search rules) in
    let l = places_length waits 0 c.args.tasks.now in
    omega (arith, (in_bounds_true small _ _ c.requires).tasks, found.0, l)

pub returns : goal.returns
unfolding is
returns c =
    let a = c.args in
    let owned = is c.owned_by-v.result in
    let waits = awaits a.promises.now c.owned_by-v.result in
    let w = c.collect_where-m.ensures owned (λ w b h e. search (rules, tests)) in
    let x = c.collect_where-e.ensures waits (λ w b h e. search rules) in
    let woke = c.replace_where.ensures waits (λ w b h e. search rules) in
    let blamed = c.replace_where-2.ensures owned (λ w b h e. search (rules, tests)) in
    let b = in_bounds_true small _ _ c.requires in
    let omitted = places owned 0 a.promises.now in
    let woken = places waits 0 a.tasks.now in
    let l = places_length owned 0 a.promises.now in
    let m = places_length waits 0 a.tasks.now in
    let room : length omitted + length woken ≤ length a.report.now =
    omega (arith, b.room, l, m) in
    gives_passed _ _ c.in_default.ensures refl
    (rw (← c.owned_by-v.ensures)
    (record {
      answer = ap₂ Ended (omega (arith, w.0)) (omega (arith, w.0, x.0));
      after =
          ap₂ (with_words (tables c.args.tasks.now c.args.promises.now)) (rw (← woke, ← c.from.ensures) c.put.ensures)
          (rw (← c.blamed_on.ensures) blamed);
      report = over_append omitted woken a.report.now room w.0 w.1 x.1;
    }))
