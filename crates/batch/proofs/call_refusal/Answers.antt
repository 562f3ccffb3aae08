-- `batch::call_refusal` meets its contract: each return knows which of the two rows applies. Assumes nothing.
use Rattle.rules.specs.Refusals.{first}
use mathlib.Core.Path.{sym, ◌∙◌}
use Rattle.words.specs.Words.{small}
use Rattle.rules.specs.Tables.{tables}
use Rattle.rules.proofs.BoundsLaws.{sizes_fit_of}
use Rattle.batch.proofs.BatchLaws.{has_room_true}
use Rattle.batch.proofs.call_refusal.Goals as goal

pub returns-then-not-has_room : goal.returns-then-not-has_room
unfolding first
returns-then-not-has_room c = rw (← c.has_room.ensures, c.if-not-has_room.true)

pub tables_pass-requires : goal.tables_pass-requires
tables_pass-requires c =
    sizes_fit_of small (tables c.args.tasks.now c.args.promises.now)
    (has_room_true small _ _ _ _ _ (sym c.has_room.ensures ∙ c.if-not-has_room.false)).sizes

pub returns-then-not-tables_pass : goal.returns-then-not-tables_pass
unfolding first
returns-then-not-tables_pass c =
    rw (← c.has_room.ensures, c.if-not-has_room.false, ← c.tables_pass.ensures, c.if-not-tables_pass.true)

pub returns : goal.returns
unfolding first
returns c =
    rw (← c.has_room.ensures, c.if-not-has_room.false, ← c.tables_pass.ensures, c.if-not-tables_pass.false)
