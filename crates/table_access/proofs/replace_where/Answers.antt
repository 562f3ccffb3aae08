-- `table_access::replace_where` meets its contract: after i turns the first i words are rewritten. Assumes nothing.
use mathlib.Core.Path.{sym, ◌∙◌}
use native.Mathlib.Omega.{arith}
use Rattle.words.proofs.ListLaws.{changed_hit, changed_miss}
use Rattle.words.proofs.LoopLaws.{rewritten_start, rewritten_turn, rewritten_end}
use Rattle.table_access.proofs.replace_where.Goals as goal
use Rattle.table_access.proofs.replace_where.Goals.{then-test, else-test}

pub loop-w-init : goal.loop-w-init
loop-w-init g c = λ t d. rewritten_start _ _

pub loop-w-preserved : goal.loop-w-preserved
loop-w-preserved g c = λ t d.
    let kept = c.loop-w.invariant t d in
    let said = d _ _ (omega arith) c.test.ensures in
    let more = c.loop-w-test.true in
    elim c.if-test.branch [
      | then-test v ↦ rewritten_turn _ kept more (v.w-is ∙ sym (changed_hit t _ _ (sym said ∙ v.if-test.true)))
      | else-test v ↦ rewritten_turn _ kept more (v.w-is ∙ sym (changed_miss t _ _ (sym said ∙ v.if-test.false)))
    ]

pub returns : goal.returns
returns g c = λ t d.
    let kept = c.loop-w.invariant t d in
    rewritten_end _ kept (omega (arith, kept.same))
