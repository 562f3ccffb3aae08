-- `registry::registry_batch` meets its contract: the answer to the call, as a number. Assumes nothing.
use mathlib.Core.Path.{refl}
use borrow.Author.Rules.{rules}
use Rattle.batch_words.proofs.FlatLaws.{flat_number}
use Rattle.registry.proofs.registry_batch.Goals as goal

pub returns-in-Ok : goal.returns-in-Ok
returns-in-Ok c = let told = flat_number c.in-Ok.ensures.called refl in search rules

pub returns-in-Err : goal.returns-in-Err
returns-in-Err c = let told = flat_number c.in-Err.ensures.called c.number.ensures in search rules
