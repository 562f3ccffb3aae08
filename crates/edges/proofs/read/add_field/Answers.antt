-- Where there is no room, the words would be too many.
use Rattle.std.proofs.Common.{◌+◌, ◌≤◌, arith}
use Rattle.std.proofs.lemmas.Grind.{common_steps}
use Rattle.edges.proofs.Reading.{on_err, too_much}
use Rattle.edges.proofs.read.add_field.Goals as goal

pub returns-clause-err : goal.returns-clause-err
returns-clause-err c =
    on_err _ c.push_times.ensures.room
    (λ h. let full : c.args.values.now.length + c.from.result ≤ 388 → ⊥ = h in
    too_much c.args.field.now _ c.in_ok-word.word c.in_ok-word.times _ (grind arith) (grind (arith, common_steps)))
