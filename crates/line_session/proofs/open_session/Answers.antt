-- `line_session::open_session` meets its contract: where the sizes are not refused, the parts are within the lent
-- tables and are made fresh. Assumes nothing.
use mathlib.Core.Path.{refl, sym}
use Prim.Native.Nat.{ℕ, ◌≤◌}
use mathlib.Core.Path.{◌≡◌}
use Rattle.words.specs.Words.{of_lines}
use Rattle.rules.specs.Refusals.{fresh_refusal}
use native.Mathlib.Nat.{sub-zero}
use Rattle.rules.specs.Tables.{tables}
use Rattle.rules.proofs.RefusalLaws.{number_not_0}
use Rattle.line_session.specs.declared.Session.TheVariants.{Unopened}
use Rattle.line_session.proofs.SessionLaws.{fresh_refusal_none, does_refused, does_opened, open_deed_refused}
use native.Mathlib.Omega.{arith}
use Rattle.line_session.proofs.open_session.Goals as goal

fits : (t p lt lp : ℕ) → 0 ≡ fresh_refusal of_lines t p → lt ≡ of_lines.most_tasks → lp ≡ of_lines.most_promises
    → (t ≤ lt) × (p ≤ lp)
fits t p lt lp e h k = let b = fresh_refusal_none t p (sym e) in (omega (arith, b.0, h), omega (arith, b.1, k))

pub returns-in-Err : goal.returns-in-Err
returns-in-Err c =
    let refused = open_deed_refused _ _ _ _ c.in-Err.ensures (number_not_0 _) in
    does_refused _ Unopened _ refused c.into.ensures refl

pub slice_bounds-fresh-end : goal.slice_bounds-fresh-end
slice_bounds-fresh-end c =
    let f = fits _ _ _ _ c.in_default.ensures c.requires.0 c.requires.1 in
    omega (arith, f.0)

pub slice_bounds-fresh-end-2 : goal.slice_bounds-fresh-end-2
slice_bounds-fresh-end-2 c =
    let f = fits _ _ _ _ c.in_default.ensures c.requires.0 c.requires.1 in
    omega (arith, f.1)

pub returns : goal.returns
returns c =
    let a = c.args in
    let f = fits _ _ _ _ c.in_default.ensures c.requires.0 c.requires.1 in
    let e = sym c.in_default.ensures in
    rw (sub-zero a.t, sub-zero a.p)
    (does_opened a.t a.p (tables c.args.tasks.now c.args.promises.now) f.0 f.1 e
    (rw (sub-zero a.t, sub-zero a.p) at c.fresh.ensures) refl refl)
