-- `table_chains::mark_way` meets its contract: each way out of a turn is one law of the walk. Assumes nothing.
use Prim.Native.Nat.{◌+◌, ◌-◌, ◌<◌}
use mathlib.Core.Path.{◌≡◌, sym, ap, ◌∙◌}
use native.Mathlib.Omega.{arith}
use lib.ListN.{length}
use Rattle.words.proofs.BoolLaws.{true_is_not_false}
use Rattle.table_hops.specs.Hops.{hop_read}
use Rattle.table_chains.proofs.MarkLaws.{walking_ready, walking_lost, walking_on, walking_out}
use Rattle.table_chains.proofs.mark_way.Goals as goal

pub returns-in-Ready : goal.returns-in-Ready
returns-in-Ready c = walking_ready c.loop.invariant (sym c.hop.ensures ∙ ap hop_read c.in-Ready.is)

pub returns-in-Lost : goal.returns-in-Lost
returns-in-Lost c =
    let some : 0 < length c.args.tasks.now - c.loop.counter = omega (arith, c.loop-test.true) in
    (walking_lost c.loop.invariant some (sym c.hop.ensures ∙ ap hop_read c.in-Lost.is), λ z. true_is_not_false (sym z))

pub loop-preserved : goal.loop-preserved
loop-preserved c =
    let some : 0 < length c.args.tasks.now - c.loop.counter = omega (arith, c.loop-test.true) in
    let next : length c.args.tasks.now - c.loop.counter - 1 ≡ length c.args.tasks.now - (c.loop.counter + 1) =
    omega arith in
    rw next at (walking_on c.loop.invariant _ some (sym c.hop.ensures ∙ ap hop_read c.in-To.is))

pub returns : goal.returns
returns c = (walking_out c.loop.invariant (omega (arith, c.loop-test.false)), λ z. true_is_not_false (sym z))
