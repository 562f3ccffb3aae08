-- `table_walks::follow` meets its contract. The loop keeps: the walk from here, with the fuel that is left, finds
-- what the whole walk finds. Assumes nothing.
use Prim.Native.Nat.{ℕ, suc, ◌+◌, ◌-◌, ◌<◌, ◌≤◌}
use mathlib.Core.Path.{◌≡◌, sym, ap, ◌∙◌}
use native.Mathlib.Omega.{arith}
use lib.ListN.{length}
use Rattle.rules.proofs.WalkLaws.{walk_zero, walk_here, walk_ready, walk_lost, walk_on}
use Rattle.table_hops.specs.Hops.{hop_read}
use Rattle.table_walks.proofs.follow.Goals as goal

-- there is fuel left for the k-th of n owners
some_left : (n k : ℕ) → k ≤ n → 0 < suc n - k
some_left n k h = omega arith

pub returns-then-u-t : goal.returns-then-u-t
returns-then-u-t c =
    let some = some_left (length c.args.tasks.now) c.loop-k.k (omega arith) in
    sym (walk_here _ _ _ _ _ _ some c.if-u-t.true) ∙ c.loop-k.invariant

pub returns-in-Ready : goal.returns-in-Ready
returns-in-Ready c =
    let some = some_left (length c.args.tasks.now) c.loop-k.k (omega arith) in
    let h = sym c.hop.ensures ∙ ap hop_read c.in-Ready.is in
    sym (walk_ready _ _ _ _ _ _ some c.if-u-t.false h) ∙ c.loop-k.invariant

pub returns-in-Lost : goal.returns-in-Lost
returns-in-Lost c =
    let some = some_left (length c.args.tasks.now) c.loop-k.k (omega arith) in
    let h = sym c.hop.ensures ∙ ap hop_read c.in-Lost.is in
    sym (walk_lost _ _ _ _ _ _ some c.if-u-t.false h) ∙ c.loop-k.invariant

pub loop-k-preserved : goal.loop-k-preserved
loop-k-preserved c =
    let some = some_left (length c.args.tasks.now) c.loop-k.k (omega arith) in
    let h = sym c.hop.ensures ∙ ap hop_read c.in-To.is in
    let e : suc (length c.args.tasks.now) - c.loop-k.k - 1 ≡ suc (length c.args.tasks.now) - (c.loop-k.k + 1) =
    omega arith in
    rw e at (sym (walk_on _ _ _ _ _ _ _ some c.if-u-t.false h) ∙ c.loop-k.invariant)

pub returns : goal.returns
returns c = sym (walk_zero _ _ _ _ _ _ (omega arith)) ∙ c.loop-k.invariant

pub returns-in-To : goal.returns-in-To
returns-in-To c =
    let some = some_left (length c.args.tasks.now) c.loop-k.k (omega arith) in
    let h = sym c.hop.ensures ∙ ap hop_read c.in-To.is in
    let none : suc (length c.args.tasks.now) - c.loop-k.k - 1 ≤ 0 = omega arith in
    sym (walk_zero _ _ _ _ _ _ none) ∙ sym (walk_on _ _ _ _ _ _ _ some c.if-u-t.false h) ∙ c.loop-k.invariant
