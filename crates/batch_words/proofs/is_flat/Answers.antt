-- The words that are left are records if all are. Assumes nothing.
use mathlib.Core.Path.{sym, ◌∙◌}
use native.Mathlib.Omega.{arith}
use borrow.Author.Rules.{rules}
use Rattle.batch_words.proofs.FlatLaws.{flat_next, flat_end}
use Rattle.batch_words.proofs.is_flat.Goals as goal

pub returns-then-not-is_record : goal.returns-then-not-is_record
returns-then-not-is_record c =
    let (first, fit, more) = c.in-Some.ensures.steps.1 in
    let here = flat_next _ _ _ _ c.loop-five.invariant.fives first fit more in
    let bad = rw (← c.is_record.ensures, c.if-not-is_record.true) at here in
    sym bad ∙ c.loop-five.invariant.rest

pub loop-five-preserved : goal.loop-five-preserved
loop-five-preserved c =
    let (first, fit, more) = c.in-Some.ensures.steps.1 in
    let here = flat_next _ _ _ _ c.loop-five.invariant.fives first fit more in
    let good = rw (← c.is_record.ensures, c.if-not-is_record.false) at here in
    record {
      can_next = omega (arith, c.in-Some.ensures.steps.0);
      ends = search rules;
      fives = c.in-Some.ensures.steps.0 ∙ c.loop-five.invariant.fives;
      rest = sym good ∙ c.loop-five.invariant.rest;
    }

pub returns : goal.returns
returns c = sym (flat_end _ c.in-None.ensures.steps.1.0) ∙ c.loop-five.invariant.rest
