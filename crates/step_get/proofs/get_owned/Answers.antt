-- `step_get::get_owned` meets its contract: each arm is a law of `followed`, and a count is at most the number of
-- tasks, so it fits. Assumes nothing.
use native.Mathlib.Omega.{arith}
use Rattle.step_get.proofs.FollowedLaws.{followed_back, followed_free, followed_astray}
use Rattle.table_walks.proofs.CountLaws.{trail_most}
use Rattle.step_get.proofs.get_owned.Goals as goal

pub overflow_cast-n : goal.overflow_cast-n
overflow_cast-n c = omega (arith, trail_most _ _ _ _ _ c.follow.ensures c.in-Back.is)

pub overflow_cast-n-in-Free : goal.overflow_cast-n-in-Free
overflow_cast-n-in-Free c = omega (arith, trail_most _ _ _ _ _ c.follow.ensures c.in-Free.is)

pub returns-in-Back : goal.returns-in-Back
returns-in-Back c =
    let found = rw (c.from.ensures, c.from-2.ensures, c.number_at-from.ensures) at c.follow.ensures in
    let most = trail_most _ _ _ _ _ c.follow.ensures c.in-Back.is in
    followed_back _ _ _ found c.in-Back.is (omega (arith, most)) c.write_pairs.ensures

pub returns-in-Free : goal.returns-in-Free
returns-in-Free c =
    let found = rw (c.from.ensures, c.from-2.ensures, c.number_at-from.ensures) at c.follow.ensures in
    followed_free _ _ _ found c.in-Free.is c.wait_on.ensures

pub returns-in-Astray : goal.returns-in-Astray
returns-in-Astray c =
    let found = rw (c.from.ensures, c.from-2.ensures, c.number_at-from.ensures) at c.follow.ensures in
    followed_astray _ _ _ found c.in-Astray.is c.wait_on-in-Astray.ensures
