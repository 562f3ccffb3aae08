-- The LF that the last line lacks is a block of its own.
use Rattle.std.proofs.Common.{◌∙◌, sym, refl}
use Rattle.std.proofs.lemmas.Result.{on_ok_weaker}
use Rattle.bench.proofs.BenchLaws.{at_same, ended_line, ended_none}
use Rattle.bench.proofs.State.finish.Goals as goal

pub returns-then-is_last-clause-at : goal.returns-then-is_last-clause-at
returns-then-is_last-clause-at g c =
    λ d held h.
    let there = at_same d _ _ held _ (refl, refl, refl, refl, refl, refl, refl, refl) (refl, refl, refl) h in
    on_ok_weaker c.serve_block.result
    (ended_line d c.args.self.now held _ h _ _ (sym c.is_last.ensures ∙ c.if-is_last.true))
    (c.serve_block.ensures.at d held there)

pub returns-clause-at : goal.returns-clause-at
returns-clause-at g c =
    λ d held h.
    ended_none d _ held _
    (at_same d _ _ held _ (refl, refl, refl, refl, refl, refl, refl, refl) (refl, refl, refl) h)
    (sym c.is_last.ensures ∙ c.if-is_last.false)
