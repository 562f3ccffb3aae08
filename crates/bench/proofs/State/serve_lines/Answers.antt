-- Each turn goes on in the block from where the turns before it led, to the block's end or to that of what is taken.
use Rattle.std.proofs.Common.{◌∙◌}
use Rattle.bench.proofs.BenchLaws.{fed_more, fed_all, fed_full}
use Rattle.bench.proofs.State.serve_lines.Goals as goal

pub loop-self-preserved : goal.loop-self-preserved
loop-self-preserved g c =
    let l = c.loop-self in
    let w = c.in_ok-from.ensures in (
      w.same ∙ l.invariant.0,
      λ d held h. let f = l.invariant.1 d held h in fed_more f (w.fed f.desk held c.loop-self-test.true f.at),
    )

pub returns-else-from-block-clause-at : goal.returns-else-from-block-clause-at
returns-else-from-block-clause-at g c =
    let l = c.loop-self in
    λ d held h. fed_all d c.args.block.now l.from l.self held _ (l.invariant.1 d held h) c.if-from-block.false

pub returns-after-loop-self-clause-at : goal.returns-after-loop-self-clause-at
returns-after-loop-self-clause-at g c =
    let l = c.loop-self in
    λ d held h. fed_full d c.args.block.now l.from l.self held _ (l.invariant.1 d held h) c.loop-self-test.false
