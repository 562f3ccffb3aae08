-- The tables that steps and calls come to. Demand 3 speaks of them: "From fresh tables, after any steps".
--
--   Reached F s  s are the tables after some steps, each with a report of its own, and some calls of a batch, from
--                fresh tables
-- Assumes nothing.
use Rattle.std.specs.Prelude.{ℕ, ◌≤◌, List}
use Rattle.words.specs.Words.{Form}
use Rattle.rules.specs.Tables.{Tables, fresh}
use Rattle.rules.specs.Steps.{Step, step}
use Rattle.batch_record.specs.declared.Record.{Record}
use Rattle.batch.specs.Batches.{batched}

pub data Reached (F : Form) : Tables → Type 0 where
  from_fresh : (T P : ℕ) → 1 ≤ T → T ≤ F.most_tasks → P ≤ F.most_promises → Reached F (fresh T P)
  by_step : {s : Tables} (n : ℕ) (x : Step) → Reached F s → Reached F (step F n s x).after
  by_call : {s : Tables} (list : List ℕ) (rs : List Record) (m k : ℕ) → Reached F s
      → Reached F (batched F list s rs m k).after
