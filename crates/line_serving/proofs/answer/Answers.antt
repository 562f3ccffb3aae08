-- `line_serving::answer` meets its contract: what was entered is what was answered. Assumes nothing.
use mathlib.Core.Path.{refl, ap, ◌∙◌}
use Rattle.std.specs.Result.{result_unwrap_or}
use Rattle.rules.specs.Tables.{tables}
use Rattle.line_entry.specs.declared.Entered.{Entered}
use Rattle.line_entry.specs.Lines.{held_line}
use Rattle.line_entry.proofs.LineLaws.{told_or}
use Rattle.line_serving.proofs.ServingLaws.{serves_entered}
use Rattle.line_serving.proofs.answer.Goals as goal

pub returns : goal.returns
returns c =
    let a = c.args in
    let line = held_line a.line.now a.have in
    let told =
    c.unwrap_or-entered.ensures
    ∙ ap (λ r. result_unwrap_or r (record { session = a.session; bytes = 0 })) c.reply.ensures.told
    ∙ told_or line a.number a.session (tables a.tasks.now a.promises.now) a.report.now a.out.now in
    serves_entered a.line.now a.number a.next c.reply.ensures refl refl refl (ap (λ (e : Entered). e.session) told)
    (ap (λ (e : Entered). e.bytes) told) refl
