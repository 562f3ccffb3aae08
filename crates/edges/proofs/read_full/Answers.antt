-- What a read brought follows what was read before it.
use Rattle.std.proofs.Common.{rules}
use Rattle.edges.proofs.ReadLaws.{consumes_on}
use Rattle.edges.proofs.read_full.Goals as goal

pub loop-done-preserved : goal.loop-done-preserved
loop-done-preserved g c =
    let w = c.loop-done.invariant in
    (search rules, consumes_on _ _ _ _ _ c.loop-done.done c.in-Ok.n w.0 w.1 c.in-Ok.ensures.bytes.0)
