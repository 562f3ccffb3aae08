-- `line_entry::reply` meets its contract: where all was lent as it must be, the answer line of what is done fits into
-- what was lent for it, and is the entry's; otherwise nothing was written. Assumes nothing.
use mathlib.Core.Path.{refl, sym, ◌∙◌}
use lib.ListN.{length}
use native.Mathlib.Omega.{arith}
use Rattle.rules.specs.Tables.{tables}
use Rattle.line_entry.specs.Lines.{held_line, line_deed, entry_of, told_of}
use Rattle.line_entry.proofs.LineLaws.{lent_well_true, line_fits, enters_of}
use Rattle.line_entry.proofs.reply.Goals as goal

pub returns-then-not-lent_well : goal.returns-then-not-lent_well
unfolding entry_of told_of
returns-then-not-lent_well c =
    rw (← c.lent_well.ensures, c.if-not-lent_well.true)
    (record { told = refl; after = refl; report = refl; answer = refl })

pub act_held-done-requires : goal.act_held-done-requires
act_held-done-requires c =
    let w = lent_well_true _ _ _ _ _ (sym c.lent_well.ensures ∙ c.if-not-lent_well.false) in
    (w.session_is, w.tasks_are, w.promises_are)

pub returns : goal.returns
unfolding entry_of
returns c =
    let a = c.args in
    let well = sym c.lent_well.ensures ∙ c.if-not-lent_well.false in
    let w = lent_well_true _ _ _ _ _ well in
    let held = held_line a.line.now a.have in
    let lent = tables a.tasks.now a.promises.now in
    let fit = line_fits held a.session lent a.report.now a.number w.most in
    let deed = line_deed held a.session lent (length a.report.now) in
    rw well
    (enters_of a.number a.report.now a.answer.now {d = deed} c.act_held-done.ensures (omega (arith, fit, w.room))
    c.put_answer-bytes.ensures refl)
