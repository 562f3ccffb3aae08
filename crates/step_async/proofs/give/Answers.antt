-- `step_async::give` meets its contract: after each turn the rest of the list is still to be handed out.
-- Assumes nothing.
use Rattle.step_async.proofs.GivenLaws.{handed_out_turn, handed_out_end}
use Rattle.step_async.proofs.give.Goals as goal

pub loop-q-preserved : goal.loop-q-preserved
loop-q-preserved c = rw (c.put.ensures, c.from.ensures) (handed_out_turn c.loop-q.invariant c.loop-q-test.true)

pub returns : goal.returns
returns c = handed_out_end c.loop-q.invariant c.loop-q-test.false
