-- `table_access::collect_where` meets its contract: after each turn the places found so far are written, and the rest
-- is still to be read. Assumes nothing.
use mathlib.Core.Path.{sym, ◌∙◌}
use native.Mathlib.Omega.{arith}
use Rattle.words.proofs.LoopLaws.{collected_hit, collected_miss, collected_end}
use Rattle.table_access.proofs.collect_where.Goals as goal
use Rattle.table_access.proofs.collect_where.Goals.{then-test, else-test}

pub loop-i-preserved : goal.loop-i-preserved
loop-i-preserved g c =
    let kept = c.loop-i.invariant in
    let more = c.loop-i-test.true in
    let said = c.test.ensures in
    elim c.if-test.branch [
      | then-test v ↦ rw (v.out-is, v.n-is) (
        omega (arith, kept.0),
        λ t d. collected_hit _ (kept.1 t d) more (sym (d _ _ (omega arith) said) ∙ v.if-test.true),
      )
      | else-test v ↦ rw (v.out-is, v.n-is) (
        omega (arith, kept.0),
        λ t d. collected_miss _ (kept.1 t d) more (sym (d _ _ (omega arith) said) ∙ v.if-test.false),
      )
    ]

pub returns : goal.returns
returns g c = λ t d. collected_end _ (c.loop-i.invariant.1 t d) c.loop-i-test.false
