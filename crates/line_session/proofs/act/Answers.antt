-- `line_session::act` meets its contract: the session value says which of its parts does the whole. Assumes nothing.
use mathlib.Core.Path.{refl}
use Rattle.line_session.proofs.SessionLaws.{in_session_open, does_unopened, does_open}
use native.Mathlib.Omega.{arith}
use Rattle.line_session.proofs.act.Goals as goal

pub in_part-answer-requires : goal.in_part-answer-requires
in_part-answer-requires c =
    let pre = c.requires in
    let h = in_session_open c.in-Open.t c.in-Open.p (rw c.in-Open.is at pre.1) in
    (pre.0, omega (arith, h.0, pre.2), omega (arith, h.1, pre.3))

pub returns-in-Unopened : goal.returns-in-Unopened
returns-in-Unopened c =
    rw c.in-Unopened.is (does_unopened _ _ _ _ _ c.unopened.ensures)

pub returns-in-Open : goal.returns-in-Open
returns-in-Open c =
    rw c.in-Open.is (does_open _ _ _ _ _ _ _ c.in_part-answer.ensures refl refl)
