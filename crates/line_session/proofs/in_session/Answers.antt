-- `line_session::in_session` meets its contract: each session value is one case of `in_session`. Assumes nothing.
use Rattle.line_session.specs.Sessions.{in_session}
use Rattle.line_session.proofs.in_session.Goals as goal

pub returns-in-Unopened : goal.returns-in-Unopened
unfolding in_session
returns-in-Unopened c = rw c.in-Unopened.is

pub returns-in-Open : goal.returns-in-Open
unfolding in_session
returns-in-Open c = rw c.in-Open.is c.sizes_in_bounds.ensures
