-- `line_session::in_open` meets its contract: each form of a line is one case of `open_outcome`. Assumes nothing.
use Rattle.std.proofs.Common.{refl, sym, rules, ◌≡◌, Ok}
use Rattle.std.proofs.lemmas.List.{length-take-le}
use Rattle.words.proofs.ListLaws.{over_none}
use Rattle.text_forms.specs.declared.LineForm.TheVariants as F
use Rattle.text_forms.specs.Judging.{entry_count}
use Rattle.line_session.specs.Sessions.{open_outcome}
use Rattle.line_session.proofs.in_open.Goals as goal

pub slice_bounds-step_by-end : goal.slice_bounds-step_by-end
unfolding entry_count
slice_bounds-step_by-end c =
    let i = c.in-Ok-Step in
    let e : c.args.form ≡ Ok (F.Step i.kind i.t i.p i.n) = search rules in
    sym (length-take-le i.n c.args.list.now (rw e at c.requires))

pub returns-in-Ok-Open : goal.returns-in-Ok-Open
unfolding open_outcome
returns-in-Ok-Open c =
    let i = c.in-Ok-Open in
    let e : c.args.form ≡ Ok (F.Open i.field-0-0 i.field-0-1) = search rules in
    rw e (record { answer = c.into.ensures; after = refl; report = sym (over_none _) })

pub returns-in-Ok-Step : goal.returns-in-Ok-Step
unfolding open_outcome entry_count
returns-in-Ok-Step c =
    let i = c.in-Ok-Step in
    let e : c.args.form ≡ Ok (F.Step i.kind i.t i.p i.n) = search rules in
    let taken = rw c.step_by.ensures at c.take.ensures.taken in
    rw e (search rules)

pub returns-in-Err : goal.returns-in-Err
unfolding open_outcome
returns-in-Err c =
    rw c.in-Err.is
    (record { answer = c.refused_at_column.ensures; after = refl; report = sym (over_none _) })
