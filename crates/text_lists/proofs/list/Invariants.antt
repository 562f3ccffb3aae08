-- `text_lists::list` meets its contract. The invariant is `At`: the entries seen are in the lent words, and what is
-- left of the list still gives the answer; each way on is one law of `At`.
-- Assumes nothing.
use Prim.Native.Nat.{◌+◌, ◌-◌}
use lib.ListN.{length}
use Rattle.text_lists.proofs.ListLaws.{At}
use Rattle.text_lists.proofs.list.Given as goal

abbrev pub invariant-loop-at : goal.invariant-loop-at
invariant-loop-at l = At l.rest l.initial.out l.out l.count l.at

abbrev pub decreases-loop-at : goal.decreases-loop-at
decreases-loop-at l = length l.rest + 1 - l.at
