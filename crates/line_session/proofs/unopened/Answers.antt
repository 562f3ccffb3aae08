-- `line_session::unopened` meets its contract: each form of a line is one case of `unopened_deed`. Assumes nothing.
use Rattle.std.proofs.Common.{◌∙◌, ◌≡◌, rules, Ok}
use Rattle.text_forms.specs.declared.LineForm.TheVariants as F
use Rattle.rules.specs.declared.Answer.TheVariants.{Refused}
use Rattle.line_session.specs.declared.Session.TheVariants.{Unopened}
use Rattle.line_session.specs.Sessions.{refused_at_column, unopened_deed}
use Rattle.line_session.proofs.SessionLaws.{does_refused}
use Rattle.line_session.proofs.unopened.Goals as goal

pub returns-in-Ok-Open : goal.returns-in-Ok-Open
unfolding unopened_deed
returns-in-Ok-Open c =
    let e : c.args.form ≡ Ok (F.Open c.in-Ok-Open.t c.in-Ok-Open.p) = search rules in
    rw e c.open_session.ensures

pub returns-in-Ok-Step : goal.returns-in-Ok-Step
unfolding unopened_deed
returns-in-Ok-Step c =
    let i = c.in-Ok-Step in
    let e : c.args.form ≡ Ok (F.Step i.field-0-0 i.field-0-1 i.field-0-2 i.field-0-3) = search rules in
    let u = c.refused_unopened.ensures in
    does_refused _ Unopened (Refused 15) (rw e) (u.0 ∙ c.into.ensures) u.1

pub returns-in-Err : goal.returns-in-Err
unfolding unopened_deed
returns-in-Err c =
    let e = c.refused_unopened-in-Err.ensures in
    does_refused _ Unopened (refused_at_column _) (rw c.in-Err.is)
    (e.0 ∙ c.refused_at_column.ensures) e.1
