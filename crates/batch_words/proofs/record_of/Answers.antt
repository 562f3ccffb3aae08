-- The record, by its five words. Assumes nothing.
use Rattle.batch_words.specs.Flat.{record_in}
use Rattle.batch_words.proofs.record_of.Goals as goal

pub returns : goal.returns
unfolding record_in
returns c = rw c.kind_of.ensures
