-- The proved set. Paper: 01, "Either side of each edge": the eleven steps of the run, its open line left out, and the
-- four cases marked *. The third of these has two sides and so two rows. proofs/Cases.antt shows that the rules give
-- each row.
--
--   Case                 the tables before, the report's length and the step; then what is expected: the answer, the
--                        tables after, the report words
--   proved_set           the table
--   taken c, expected c  what the rules say of a row, and what the row says
-- Assumes nothing.
use Rattle.std.specs.Prelude.{ℕ, List, [], ◌∷◌}
use Rattle.words.specs.Words.{small}
use Rattle.rules.specs.Tables.{Tables, tables}
use Rattle.rules.specs.Steps.{Step, step_new, step_set, step_get, step_async, step_end, Outcome, outcome, step}
use Rattle.rules.specs.declared.Answer.{Answer}
use Rattle.rules.specs.declared.Answer.TheVariants.{Made, Set, Blamed, Waits, Cycle, Started, Ended, Refused}

pub record Case : Type 0 where
  pub before : Tables
  pub room : ℕ
  pub does : Step
  pub answer : Answer
  pub after : Tables
  pub words : List ℕ

abbrev pub case : Tables → ℕ → Step → Answer → Tables → List ℕ → Case
case s n x a s' ws = record { before = s; room = n; does = x; answer = a; after = s'; words = ws }

abbrev pub taken : Case → Outcome
taken c = step small c.room c.before c.does

abbrev pub expected : Case → Outcome
expected c = outcome c.answer c.after c.words

-- the tables after each line of the run that changes them
abbrev pub after1 : Tables
after1 = tables (1 ∷ 0 ∷ 0 ∷ []) (0 ∷ 0 ∷ 0 ∷ 0 ∷ [])

abbrev pub after2 : Tables
after2 = tables (1 ∷ 0 ∷ 0 ∷ []) (16 ∷ 0 ∷ 0 ∷ 0 ∷ [])

abbrev pub after3 : Tables
after3 = tables (1 ∷ 0 ∷ 0 ∷ []) (16 ∷ 16 ∷ 0 ∷ 0 ∷ [])

abbrev pub after4 : Tables
after4 = tables (1 ∷ 1 ∷ 0 ∷ []) (16 ∷ 17 ∷ 0 ∷ 0 ∷ [])

abbrev pub after5 : Tables
after5 = tables (1 ∷ 16 ∷ 0 ∷ []) (16 ∷ 17 ∷ 0 ∷ 0 ∷ [])

abbrev pub after7 : Tables
after7 = tables (1 ∷ 1 ∷ 0 ∷ []) (1 ∷ 17 ∷ 0 ∷ 0 ∷ [])

abbrev pub after9 : Tables
after9 = tables (1 ∷ 2 ∷ 0 ∷ []) (1 ∷ 81 ∷ 0 ∷ 0 ∷ [])

abbrev pub after11 : Tables
after11 = tables (2 ∷ 2 ∷ 0 ∷ []) (1 ∷ 81 ∷ 0 ∷ 0 ∷ [])

-- "T=3: promise word 18 with task 2 ready"
abbrev pub owned_by_two : Tables
owned_by_two = tables (1 ∷ 0 ∷ 1 ∷ []) (18 ∷ [])

-- "word 19"
abbrev pub owned_by_three : Tables
owned_by_three = tables (1 ∷ 0 ∷ 1 ∷ []) (19 ∷ [])

abbrev pub proved_set : List Case
proved_set =
    case after1 10 (step_new 0 0) Made after2 []
    ∷ case after2 10 (step_new 0 1) Made after3 []
    ∷ case after3 10 (step_async 0 1 (1 ∷ [])) Started after4 []
    ∷ case after4 10 (step_get 1 0) (Waits 1) after5 []
    ∷ case after5 10 (step_get 0 1) (Cycle 2) after5 (0 ∷ 1 ∷ 1 ∷ 0 ∷ [])
    ∷ case after5 10 (step_set 0 0) (Set 1) after7 (1 ∷ [])
    ∷ case after7 10 (step_set 0 0) (Refused 9) after7 []
    ∷ case after7 10 (step_end 1) (Ended 1 0) after9 (1 ∷ [])
    ∷ case after9 10 (step_get 0 1) (Blamed 1) after9 []
    ∷ case after9 10 (step_end 0) (Ended 0 0) after11 []
    ∷ case after11 10 (step_new 0 2) (Refused 4) after11 []
    -- "P=0 with T=1, fresh, and a report of 2: sound; new 0 0 gives 6"
    ∷ case (tables (1 ∷ []) []) 2 (step_new 0 0) (Refused 6) (tables (1 ∷ []) []) []
    -- "T=3: promise word 18 with task 2 ready is sound; word 19: 2"
    ∷ case owned_by_two 7 (step_get 0 0) (Waits 1) (tables (16 ∷ 0 ∷ 1 ∷ []) (18 ∷ [])) []
    ∷ case owned_by_three 7 (step_get 0 0) (Refused 2) owned_by_three []
    -- "Task 0 gets its own promise 0: cycle 1, report 0 0"
    ∷ case (tables (1 ∷ []) (16 ∷ [])) 3 (step_get 0 0) (Cycle 1) (tables (1 ∷ []) (16 ∷ [])) (0 ∷ 0 ∷ [])
    -- "Child equal to actor: 12"
    ∷ case (tables (1 ∷ 0 ∷ []) []) 4 (step_async 0 0 []) (Refused 12) (tables (1 ∷ 0 ∷ []) []) []
    ∷ []
