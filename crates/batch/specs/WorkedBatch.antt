-- The run of 01, "Either side of each edge", its open line left out, as one call, with two records between that are
-- refused by 16 and two that are refused by 17. proofs/Worked.antt shows that the definitions give it.
-- Assumes nothing.
use Rattle.std.specs.Prelude.{ℕ, List, [], ◌∷◌, Ok}
use Rattle.rules.specs.Tables.{tables}
use Rattle.step_kinds.specs.declared.Kind.{Kind}
use Rattle.step_kinds.specs.declared.Kind.TheVariants.{New, Set, Get, Async, End}
use Rattle.batch_record.specs.declared.Record.{Record}
use Rattle.batch.specs.Batches.{CallOutcome}

abbrev recorded : Kind → ℕ → ℕ → ℕ → ℕ → Record
recorded k t p start n = record { kind = k; task = t; other = p; start = start; length = n }

abbrev pub worked_list : List ℕ
worked_list = 7 ∷ 1 ∷ []

abbrev pub worked_records : List Record
worked_records =
    recorded New 0 0 0 0
    ∷ recorded New 0 1 0 0
    ∷ recorded Async 9 1 1 2  -- its part passes the list's end: 16, before 3
    ∷ recorded Async 0 1 1 1
    ∷ recorded Get 1 0 0 0
    ∷ recorded Get 0 1 0 0
    ∷ recorded Set 0 0 0 0
    ∷ recorded Set 0 0 0 0
    ∷ recorded Async 0 2 3 0  -- no entries, and still past the list's end
    ∷ recorded End 1 0 0 0
    ∷ recorded Get 0 1 0 0
    ∷ recorded Set 0 1 0 0  -- blamed on 1
    ∷ recorded Async 0 2 1 1
    ∷ recorded End 0 9 9 9
    ∷ recorded New 0 2 0 0
    ∷ []

abbrev pub worked_outcome : CallOutcome
worked_outcome = record {
  answer = Ok 6;
  after = tables (2 ∷ 2 ∷ 0 ∷ []) (1 ∷ 81 ∷ 0 ∷ 0 ∷ []);
  -- the ring, then who waited on promise 0, then the omitted promise
  words = 0 ∷ 1 ∷ 1 ∷ 0 ∷ 1 ∷ 1 ∷ [];
  answers =
      101 ∷ 0 ∷ 0 ∷ 0
      ∷ 101 ∷ 0 ∷ 0 ∷ 0
      ∷ 16 ∷ 0 ∷ 0 ∷ 0
      ∷ 107 ∷ 0 ∷ 0 ∷ 0
      ∷ 105 ∷ 1 ∷ 0 ∷ 0
      ∷ 106 ∷ 2 ∷ 0 ∷ 0
      ∷ 102 ∷ 1 ∷ 0 ∷ 0
      ∷ 9 ∷ 0 ∷ 0 ∷ 0
      ∷ 16 ∷ 0 ∷ 0 ∷ 0
      ∷ 108 ∷ 1 ∷ 0 ∷ 0
      ∷ 104 ∷ 1 ∷ 0 ∷ 0
      ∷ 17 ∷ 1 ∷ 0 ∷ 0
      ∷ 17 ∷ 0 ∷ 1 ∷ 0
      ∷ 108 ∷ 0 ∷ 0 ∷ 0
      ∷ 4 ∷ 0 ∷ 0 ∷ 0
      ∷ [];
}
