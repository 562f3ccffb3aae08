-- `step_async::check_entries` meets its contract: up to each turn the marks are at the promises that the entries so
-- far name, and the first bad place of the list is that of its rest (`Judged`). Assumes nothing.
use mathlib.Core.Path.{refl}
use Rattle.step_async.proofs.SeenLaws.{judged_start, judged_bad, judged_turn, judged_end}
use Rattle.step_async.proofs.check_entries.Goals as goal

pub loop-place-init : goal.loop-place-init
loop-place-init c = judged_start _ _ _ _ _ c.requires.1

pub returns : goal.returns
returns c = judged_end _ _ _ _ c.loop-place.invariant c.loop-place-test.false

pub returns-in-Err : goal.returns-in-Err
returns-in-Err c =
    judged_bad _ _ _ _ c.loop-place.invariant c.loop-place-test.true refl c.in-Err.ensures.refused _ refl

pub loop-place-preserved : goal.loop-place-preserved
loop-place-preserved c =
    let e = c.in_default.ensures in
    rw e.marked (judged_turn _ _ _ _ c.loop-place.invariant c.loop-place-test.true refl e.refused c.requires.0 refl)
