-- `steps::Lent::take` meets its contract: refusal 1 or 2, or what `take_raw` gives within the bounds. Assumes nothing.
use mathlib.Core.Path.{refl}
use Rattle.words.specs.Words.{small}
use Rattle.rules.proofs.RefusalLaws.{number_not_0}
use Rattle.rules.proofs.GivesLaws.{gives_refused, gives_passed, bounds_given}
use Rattle.steps.proofs.Lent.take.Goals as goal

pub returns-in-Err-clause-taken : goal.returns-in-Err-clause-taken
returns-in-Err-clause-taken c = rw c.into.ensures (gives_refused _ _ _ _ c.in-Err.ensures (number_not_0 _))

pub take_raw-requires : goal.take_raw-requires
take_raw-requires c = bounds_given small _ _ c.in_default.ensures refl

pub returns-clause-taken : goal.returns-clause-taken
returns-clause-taken c = gives_passed _ _ c.in_default.ensures refl c.take_raw.ensures.taken
