-- `step_get::get_made` meets its contract: each return is a law of `got`. Assumes nothing.
use Rattle.step_get.proofs.FollowedLaws.{got_set, got_blamed_on, got_open}
use Rattle.step_get.proofs.get_made.Goals as goal

pub returns-in-Set : goal.returns-in-Set
returns-in-Set c = rw (← c.from.ensures, ← c.at.ensures) (got_set _ _ _ _ _ c.in-Set.ensures)

pub returns-in-Blamed : goal.returns-in-Blamed
returns-in-Blamed c = rw (← c.from.ensures, ← c.at.ensures) (got_blamed_on _ _ _ _ c.in-Blamed.ensures)

pub returns-in_default : goal.returns-in_default
returns-in_default c =
    let at_p = rw c.from.ensures at c.at.ensures in
    let state = rw at_p at c.from-2.ensures in
    got_open _ _ _ _ _ state c.in_default.not-Set c.in_default.not-Blamed c.get_owned.ensures
