-- `batch_record::step_of` meets its contract: the part passes the end of the list where it begins behind the end or has
-- more entries than follow. Assumes nothing.
use mathlib.Core.Path.{◌≡◌, sym, ◌∙◌}
use native.Mathlib.Omega.{arith}
use Rattle.std.specs.Prelude.{◌≤◌, ◌<◌, ◌+◌, ◌-◌, length, drop}
use Rattle.std.proofs.lemmas.List.{take_rest}
use Rattle.batch_record.proofs.RecordLaws.{names_plain, names_part, part_given}
use Rattle.batch_record.proofs.step_of.Goals as goal

pub returns-then-not-takes_list : goal.returns-then-not-takes_list
returns-then-not-takes_list c =
    names_plain c.args.list.now c.args.asked _ _ (sym c.takes_list.ensures ∙ c.if-not-takes_list.true) c.step_by.ensures

pub returns-in_err-get : goal.returns-in_err-get
returns-in_err-get c =
    let a = c.args in
    let passes : length a.list.now < a.asked.start + a.asked.length = omega (arith, c.in_err-get.ensures.lookup.0) in
    rw c.from_residual.ensures
    (part_given a.list.now a.asked (sym c.takes_list.ensures ∙ c.if-not-takes_list.false) passes)

pub returns-in_err-part : goal.returns-in_err-part
returns-in_err-part c =
    let a = c.args in
    let passes : length a.list.now < a.asked.start + a.asked.length = omega
    (arith, c.in_err-part.ensures.lookup.0, c.in_ok-get.ensures.lookup.0) in
    rw c.from_residual-in_err-part.ensures
    (part_given a.list.now a.asked (sym c.takes_list.ensures ∙ c.if-not-takes_list.false) passes)

pub returns : goal.returns
returns c =
    let a = c.args in
    let rest = c.in_ok-get.ensures.lookup.0 in
    let part = c.in_ok-part.ensures.lookup.0 in
    let within : a.asked.start + a.asked.length ≤ length a.list.now = omega (arith, rest, part) in
    let e : c.in_ok-get.field-0.now ≡ drop a.asked.start a.list.now = rest.2 ∙ take_rest a.list.now a.asked.start in
    let whole : a.asked.length - 0 ≡ a.asked.length = omega arith in
    names_part a.list.now a.asked _ _ within (rw (e, whole) at part.2) c.step_by-2.ensures
