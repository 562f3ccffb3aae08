-- `table_words::note` meets its contract. The loop keeps: of each task so far it is noted whether its word passes.
-- Assumes nothing.
use native.Mathlib.Omega.{arith}
use Rattle.table_words.proofs.AllowedLaws.{noting_start, noting_turn, noting_end}
use Rattle.table_words.proofs.note.Goals as goal

pub loop-t-init : goal.loop-t-init
loop-t-init g c = λ t d. noting_start _ _ _ _

pub loop-t-preserved : goal.loop-t-preserved
loop-t-preserved g c = λ t d.
    noting_turn _ _ _ (c.loop-t.invariant t d) c.loop-t-test.true c.requires.room (d _ _ (omega arith) c.test.ensures)

pub returns : goal.returns
returns g c = λ t d. noting_end _ _ _ (c.loop-t.invariant t d) c.loop-t-test.false
