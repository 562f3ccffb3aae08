-- `step_async::give` meets its contract: after each turn the rest of the list is still to be handed out.
-- Assumes nothing.
use Rattle.step_async.proofs.GivenLaws.{HandedOut}
use Rattle.step_async.proofs.give.Given as goal

abbrev pub invariant-loop-q : goal.invariant-loop-q
invariant-loop-q l = HandedOut l.w l.list l.initial.promises l.promises l.q-index
