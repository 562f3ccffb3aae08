-- `line_entry::judge_held` meets its contract: a line that is too long has one form, and any other is there, whole.
-- Assumes nothing.
use Rattle.text_forms.proofs.JudgingLaws.{judged_long}
use Rattle.line_entry.specs.Lines.{held_line}
use Rattle.line_entry.proofs.LineLaws.{held_line_long, judged_held}
use native.Mathlib.Omega.{arith}
use Rattle.line_entry.proofs.judge_held.Goals as goal

pub returns-then-line-have : goal.returns-then-line-have
returns-then-line-have c =
    let a = c.args in
    let long = held_line_long a.line.now a.have c.if-line-have.true in
    judged_long (held_line a.line.now a.have) a.list.now long

pub returns : goal.returns
returns c =
    let a = c.args in
    judged_held a.line.now a.have (omega (arith, c.if-line-have.false)) c.judge.ensures
