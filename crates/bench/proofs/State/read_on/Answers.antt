-- What a read brought was served, and what waited was put out.
use Rattle.std.proofs.Common.{arith, ◌∙◌}
use Rattle.bench.proofs.BenchLaws.{reached_block, on_ok_true}
use Rattle.bench.proofs.State.read_on.Goals as goal

pub returns-in-Ok-clause-ran_to : goal.returns-in-Ok-clause-ran_to
returns-in-Ok-clause-ran_to g c =
    let w = c.serve_block.ensures in
    let b = c.in-Ok.ensures in
    λ had held reads h.
    reached_block reads _ c.args.self.now _ had _ _ held _ _ c.requires.1 h w.none_waits _
    (let z = c.in-Ok.n-test.1 in omega (arith, b.bound.1)) b.bytes.0 (w.same ∙ c.requires.1)
    (λ d a. on_ok_true c.serve_block.result (w.at d held a))
