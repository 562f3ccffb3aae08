-- The computed sets of later requests. Paper: 02, 3/13 and 4/13. Each is a table as that of specs/ProvedSet.antt, from
-- which it stands apart, and has a theorem of its own under its request. proofs/Cases.antt shows that the rules give
-- each row.
--
--   blamed_set        3/13: a blamed promise beside an owned and a set one, set and listed
--   ring_set          4/13: a ring that was entered, beside a ready task
--   taken_untested c  what the rules without the soundness test say of a row
-- Assumes nothing.
use Rattle.std.specs.Prelude.{List, [], ◌∷◌}
use Rattle.words.specs.Words.{small}
use Rattle.rules.specs.Tables.{Tables, tables}
use Rattle.rules.specs.Steps.{step_set, step_get, step_async, step_end, Outcome, untested}
use Rattle.rules.specs.ProvedSet.{Case, case}
use Rattle.rules.specs.declared.Answer.TheVariants.{Blamed, Waits, Cycle, Started, Ended, Refused, RefusedAt}
use Rattle.rules.specs.declared.Answer.TheVariants.{RefusedBlamed, RefusedBlamedAt}

-- ---- request 3

-- task 0 is ready and task 1 has ended; promise 0 is owned by 0, promise 1 blamed on 1, promise 2 set, promise 3 unmade
abbrev pub one_blamed : Tables
one_blamed = tables (1 ∷ 2 ∷ 0 ∷ []) (16 ∷ 81 ∷ 1 ∷ 0 ∷ [])

-- "17 with the blamed task (and for async the place before it), directly after 9; 9 is given for a set promise alone"
abbrev pub blamed_set : List Case
blamed_set =
    case one_blamed 10 (step_set 0 1) (RefusedBlamed 1) one_blamed []
    ∷ case one_blamed 10 (step_set 0 2) (Refused 9) one_blamed []
    ∷ case one_blamed 10 (step_set 0 3) (Refused 8) one_blamed []
    ∷ case one_blamed 10 (step_get 0 1) (Blamed 1) one_blamed []
    ∷ case one_blamed 10 (step_async 0 2 (1 ∷ [])) (RefusedBlamedAt 0 1) one_blamed []
    ∷ case one_blamed 10 (step_async 0 2 (0 ∷ 1 ∷ 2 ∷ [])) (RefusedBlamedAt 1 1) one_blamed []
    ∷ case one_blamed 10 (step_async 0 2 (0 ∷ 2 ∷ 1 ∷ [])) (RefusedAt 9 1) one_blamed []
    ∷ case one_blamed 10 (step_async 0 2 (0 ∷ 0 ∷ 1 ∷ [])) (RefusedAt 13 1) one_blamed []
    ∷ []

-- ---- request 4

abbrev pub taken_untested : Case → Outcome
taken_untested c = untested small c.room c.before c.does

-- tasks 0 and 2 are ready; promise i is owned by task i, and task 1 waits on promise 0
abbrev pub before_the_ring : Tables
before_the_ring = tables (1 ∷ 16 ∷ 1 ∷ 0 ∷ []) (16 ∷ 17 ∷ 18 ∷ [])

-- "had the alarmed wait been entered anyway"
abbrev pub the_ring : Tables
the_ring = tables (17 ∷ 16 ∷ 1 ∷ 0 ∷ []) (16 ∷ 17 ∷ 18 ∷ [])

-- the alarm, and what may follow the wait that it kept out
abbrev pub ring_set : List Case
ring_set =
    case before_the_ring 11 (step_get 0 1) (Cycle 2) before_the_ring (0 ∷ 1 ∷ 1 ∷ 0 ∷ [])
    -- its tasks wait, and nobody else owns its promises
    ∷ case the_ring 11 (step_set 0 0) (Refused 5) the_ring []
    ∷ case the_ring 11 (step_end 1) (Refused 5) the_ring []
    ∷ case the_ring 11 (step_set 2 1) (Refused 10) the_ring []
    ∷ case the_ring 11 (step_async 2 3 (2 ∷ 0 ∷ [])) (RefusedAt 10 1) the_ring []
    -- the others go on
    ∷ case the_ring 11 (step_get 2 2) (Cycle 1) the_ring (2 ∷ 2 ∷ [])
    ∷ case the_ring 11 (step_async 2 3 (2 ∷ [])) Started (tables (17 ∷ 16 ∷ 1 ∷ 1 ∷ []) (16 ∷ 17 ∷ 19 ∷ [])) []
    ∷ case the_ring 11 (step_end 2) (Ended 1 0) (tables (17 ∷ 16 ∷ 2 ∷ 0 ∷ []) (16 ∷ 17 ∷ 82 ∷ [])) (2 ∷ [])
    -- "An outsider's get whose chain runs into the ring counts as a wait entered."
    ∷ case the_ring 11 (step_get 2 1) (Waits 4) (tables (17 ∷ 16 ∷ 17 ∷ 0 ∷ []) (16 ∷ 17 ∷ 18 ∷ [])) []
    ∷ []
