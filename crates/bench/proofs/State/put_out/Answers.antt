-- What waited was handed to write, and an output that took it holds it.
use Rattle.std.proofs.Common.{refl, arith}
use Rattle.std.proofs.lemmas.Result.{on_ok_weaker}
use Rattle.bench.proofs.BenchLaws.{at_put_out}
use Rattle.bench.proofs.State.put_out.Goals as goal

pub returns-clause-at : goal.returns-clause-at
returns-clause-at g c =
    λ d held h.
    on_ok_weaker c.write_all-taken.result
    (λ t.
    at_put_out d c.args.self.now _ held _ _ (omega arith) (refl, refl, refl, refl, refl, refl, refl, refl) refl
    refl t h)
    c.write_all-taken.ensures
