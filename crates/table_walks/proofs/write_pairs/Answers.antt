-- `table_walks::write_pairs` meets its contract. The loop keeps: storing the pairs that are left makes the report
-- that storing all of them makes. Assumes nothing.
use Prim.Native.Nat.{◌+◌, ◌-◌, ◌*◌, ◌<◌, ◌≤◌}
use mathlib.Core.Path.{◌≡◌, sym, ap, ◌∙◌}
use native.Mathlib.Omega.{arith}
use lib.Seq.{sets}
use Rattle.table_walks.proofs.PairLaws.{pairs_step, pairs_end, sets_pair}
use Rattle.table_walks.proofs.write_pairs.Goals as goal

pub loop-i-preserved : goal.loop-i-preserved
loop-i-preserved c =
    let l = c.loop-i in
    let owner = c.number_at-a.ensures in
    let awaited = c.number_at-q.ensures in
    let more : 0 < c.args.k - l.i = omega (arith, c.from-i-end.ensures, c.loop-i-test.true) in
    let next : c.args.k - l.i - 1 ≡ c.args.k - (l.i + 1) = omega arith in
    let place : 2 * l.i + 2 ≡ 2 * (l.i + 1) = omega arith in
    rw (
      l.invariant,
      pairs_step _ _ _ _ more,
      sets_pair,
      next,
      place,
      c.put-in-loop-i.ensures,
      c.put.ensures,
      awaited,
      owner,
    )

pub returns : goal.returns
returns c =
    let none : c.args.k - c.loop-i.i ≤ 0 = omega (arith, c.from-i-end.ensures, c.loop-i-test.false) in
    sym (c.loop-i.invariant ∙ ap (sets _ _) (pairs_end _ _ _ _ none))
