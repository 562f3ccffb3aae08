-- `steps::Lent::take_raw` meets its contract: each step goes to the function of its own. Assumes nothing.
use Rattle.words.specs.Words.{small}
use Rattle.rules.proofs.BoundsLaws.{in_bounds_sizes}
use Rattle.steps.proofs.Lent.take_raw.Goals as goal

pub raw_new-requires : goal.raw_new-requires
raw_new-requires c = in_bounds_sizes small _ _ c.requires

pub raw_async-requires : goal.raw_async-requires
raw_async-requires c = in_bounds_sizes small _ _ c.requires

pub returns-in-New-clause-taken : goal.returns-in-New-clause-taken
returns-in-New-clause-taken c = rw c.in-New.is (c.raw_new.ensures _)

pub returns-in-Async-clause-taken : goal.returns-in-Async-clause-taken
returns-in-Async-clause-taken c = rw c.in-Async.is (c.raw_async.ensures _)
