-- `text_lists::list` meets its contract. The invariant is `At`: the entries seen are in the lent words, and what is
-- left of the list still gives the answer; each way on is one law of `At`.
-- Assumes nothing.
use Rattle.std.proofs.Common.{◌≡◌, Ok, Err, rules, arith}
use Rattle.text_records.specs.Records.{number_at}
use Rattle.text_records.proofs.RecordLaws.{number_at_next}
use Rattle.text_lists.proofs.ListLaws.{at_start, at_bad, at_is, at_end}
use Rattle.text_lists.proofs.list.Goals as goal

pub loop-at-init : goal.loop-at-init
loop-at-init c = at_start _ _

pub overflow_add-count : goal.overflow_add-count
overflow_add-count c =
    let h = c.loop-at.invariant.half in
    let l = c.loop-at-test.true in
    search rules

pub loop-at-smaller : goal.loop-at-smaller
loop-at-smaller c =
    let l = c.loop-at-test.true in
    let e : number_at c.args.rest.now c.loop-at.at ≡ Ok (c.in_ok-entry.entry, c.in_ok-entry.next) = search rules in
    let p = number_at_next _ _ _ _ e in
    omega (arith, p.past, p.within)

pub loop-at-preserved : goal.loop-at-preserved
loop-at-preserved c =
    let e : number_at c.args.rest.now c.loop-at.at ≡ Ok (c.in_ok-entry.entry, c.in_ok-entry.next) = search rules in
    rw c.put.ensures (at_is _ _ _ _ _ c.loop-at-test.true _ _ c.loop-at.invariant e)

pub returns : goal.returns
returns c = at_end _ _ _ _ _ c.loop-at-test.false c.loop-at.invariant

pub returns-in_err-entry : goal.returns-in_err-entry
returns-in_err-entry c =
    let e : number_at c.args.rest.now c.loop-at.at ≡ Err c.in_err-entry.field-0.0 = search rules in
    let r : c.from_residual.result ≡ Err c.in_err-entry.field-0.0 = search rules in
    rw r (at_bad _ _ _ _ _ c.loop-at-test.true _ c.loop-at.invariant e)
