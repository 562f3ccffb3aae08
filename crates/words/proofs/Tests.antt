-- The tests that compute, from the facts that a branch of the code knows: `search (needs, tests)` closes a ladder of
-- returns. Assumes nothing.
use borrow.Author.Tests.{lt-ltb, le-ltb, le-leb, lt-leb, eq-eqb, ne_eqb}

pub ruleset tests = (lt-ltb, le-ltb, le-leb, lt-leb, eq-eqb, ne_eqb)
