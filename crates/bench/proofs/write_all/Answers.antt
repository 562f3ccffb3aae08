-- What a write took of the rest follows what was taken before it.
use Rattle.std.proofs.Common.{rules}
use Rattle.bench.proofs.BenchLaws.{appends_on}
use Rattle.bench.proofs.write_all.Goals as goal

pub loop-done-preserved : goal.loop-done-preserved
loop-done-preserved g c =
    (search rules, appends_on _ _ _ _ c.loop-done.done c.in_ok-n.n c.loop-done.invariant.1 c.in_ok-n.ensures.bytes)
