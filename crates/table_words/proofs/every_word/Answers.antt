-- `table_words::every_word` meets its contract. The loop keeps: `good` says whether every word so far passes. Assumes
-- nothing.
use native.Mathlib.Omega.{arith}
use Rattle.words.proofs.LoopLaws.{tested_start, tested_turn, tested_end}
use Rattle.table_words.proofs.every_word.Goals as goal

pub loop-w-init : goal.loop-w-init
loop-w-init g c = λ t d. tested_start _ _

pub loop-w-preserved : goal.loop-w-preserved
loop-w-preserved g c = λ t d.
    tested_turn _ _ (c.loop-w.invariant t d) c.loop-w-test.true (d _ _ (omega arith) c.test-good.ensures)

pub returns : goal.returns
returns g c = λ t d. tested_end _ _ (c.loop-w.invariant t d) c.loop-w-test.false
