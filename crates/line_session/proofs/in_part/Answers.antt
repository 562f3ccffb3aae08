-- `line_session::in_part` meets its contract: what was done to the parts that were lent was done to the first words of
-- the tables. Assumes nothing.
use native.Mathlib.Nat.{sub-zero}
use Rattle.rules.specs.Tables.{tables}
use Rattle.line_session.proofs.SessionLaws.{in_part_of}
use Rattle.line_session.proofs.in_part.Goals as goal

pub returns : goal.returns
returns c =
    let a = c.args in
    rw (sub-zero a.t, sub-zero a.p)
    (in_part_of a.t a.p (tables c.args.tasks.now c.args.promises.now)
    (rw (sub-zero a.t, sub-zero a.p) at c.in_open.ensures))
