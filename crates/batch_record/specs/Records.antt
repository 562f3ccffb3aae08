-- The step that a record of a batch names. Paper: 02, 2/13: "step records, .. each with its kind (one of the five),
-- numbers and, for async, a start and a length in one lent list of promises".
--
--   listed_part list r        the part of the list that the record r lists
--   step_of list r            the step
--   part_rows list r          refusal 16
--   record_rows F n list s r  all refusals of the record's step, in their order
--   raw_record F list s r     what the step answers, does and reports, without refusals 1 and 2: as `raw`
--   step_record F n list s r  and with them, n being the length of a report of its own: as `step`
--   Turns ..                  what the turn of a record leaves of the tables, the report and the answers
-- Assumes nothing.
use Rattle.std.specs.Prelude.{ℕ, ◌+◌, ◌*◌, ◌≡◌, List, [], ◌∷◌, ◌++◌, ◌&&◌, ltb, length, take, drop}
use Rattle.std.specs.Prelude.{Option, Some, None}
use Rattle.std.proofs.lemmas.List.Edits.{sets}
use Rattle.words.specs.Words.{Form}
use Rattle.rules.specs.Tables.{Tables}
use Rattle.rules.specs.Answers.{by_number}
use Rattle.rules.specs.Refusals.{Row, first, table_rows}
use Rattle.rules.specs.Steps.{Step, Outcome, guarded, rows, raw}
use Rattle.answer_words.specs.AnswerWords.{answer_words}
use Rattle.step_kinds.specs.Kinds.{shape_of, takes_list}
use Rattle.steps.specs.Named.{of_rules, step_by}
use Rattle.steps.specs.declared.Step as V
use Rattle.batch_record.specs.declared.Record.{Record}

abbrev pub listed_part : List ℕ → Record → List ℕ
listed_part list r = take r.length (drop r.start list)

abbrev pub step_of : List ℕ → Record → Step
step_of list r = step_by r.kind r.task r.other (listed_part list r)

-- "16, a list part whose start plus length passes the list's, stands for its step directly after 2"
abbrev pub part_rows : List ℕ → Record → List Row
part_rows list r = (16, takes_list (shape_of r.kind) && ltb (length list) (r.start + r.length)) ∷ []

-- the step that the record names was found, or its part passes the list's end
abbrev pub Names : List ℕ → Record → Option V.Step → Type 0
Names list r (Some v) = (of_rules v ≡ step_of list r) × (first (part_rows list r) ≡ 0)
Names list r None = first (part_rows list r) ≡ 16

abbrev pub record_rows : Form → ℕ → List ℕ → Tables → Record → List Row
record_rows F n list s r = table_rows F n s ++ (part_rows list r ++ rows F s (step_of list r))

abbrev pub raw_record : Form → List ℕ → Tables → Record → Outcome
raw_record F list s r = guarded by_number (first (part_rows list r)) s (raw F s (step_of list r))

abbrev pub step_record : Form → ℕ → List ℕ → Tables → Record → Outcome
step_record F n list s r = guarded by_number (first (table_rows F n s)) s (raw_record F list s r)

-- The words of the outcome o stand in the report from `at` on, its answer stands in the answers after those of i
-- records, and the next step's words begin at `next`.
pub record Turns (o : Outcome) (at i : ℕ) (rs ws : List ℕ) (next : ℕ) (s' : Tables) (rs' ws' : List ℕ) : Type 0 where
  pub after : s' ≡ o.after
  pub report : rs' ≡ sets rs at o.words
  pub answers : ws' ≡ sets ws (4 * i) (answer_words o.answer)
  pub next_at : next ≡ at + length o.words
