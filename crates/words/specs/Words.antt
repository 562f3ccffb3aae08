-- The words of the two tables, and the bounds of a session. Paper: 01, "Tables and words".
--
--   unused_word, ready_word, ended_word, waits_on p   the words of the task table
--   unmade_word, set_word, owned_by t,
--   blamed_on B t            the words of the promise table; B is where the blamed words begin
--   first_wait, first_owned  the word that waits on promise 0, the word owned by task 0
--   Form, small, large       where the blamed words begin, and the limits of a session
--   form_of n                the form that a name stands for
--   sizes_in_bounds F T P    T and P are within their bounds
--   room_for T P             the words of a report that has room for every answer
--   most_records             the most steps of a batch
--   last_line                the largest number of a line
--   of_lines                 the form that lines use
--   longest_line, longest_answer, line_report, most_entries   its limits
-- Assumes nothing.
use Rattle.std.specs.Prelude.{ℕ, ◌+◌, ◌*◌, ◌/◌, Bool, ◌&&◌, leb}
use Rattle.words.specs.declared.FormName.{FormName}
use Rattle.words.specs.declared.FormName.TheVariants.{Small, Large}

-- ---- "task word"

-- "0 never used"
abbrev pub unused_word : ℕ
unused_word = 0

-- "1 ready"
abbrev pub ready_word : ℕ
ready_word = 1

-- "2 ended"
abbrev pub ended_word : ℕ
ended_word = 2

-- "16+p waits on p"
abbrev pub first_wait : ℕ
first_wait = 16

abbrev pub waits_on : ℕ → ℕ
waits_on p = first_wait + p

-- ---- "promise word"

-- "0 never made"
abbrev pub unmade_word : ℕ
unmade_word = 0

-- "1 set"
abbrev pub set_word : ℕ
set_word = 1

-- "16+t owned by t"
abbrev pub first_owned : ℕ
first_owned = 16

abbrev pub owned_by : ℕ → ℕ
owned_by t = first_owned + t

-- "80+t blamed on t": the base, 80 here, is a parameter of every rule
abbrev pub blamed_on : ℕ → ℕ → ℕ
blamed_on B t = B + t

-- ---- the limits: all of them stand here, and as constants in src/

-- where the blamed words begin, the most tasks and the most promises of a session, and the longest line and answer line
pub record Form : Type 0 where
  pub base : ℕ
  pub most_tasks : ℕ
  pub most_promises : ℕ
  pub longest_line : ℕ
  pub longest_answer : ℕ

-- "T words (1 to 64)", "P words (0 to 256)", "longer than 2,048 bytes", "an answer line of at least 2,048 bytes"
abbrev pub small : Form
small = record { base = 80; most_tasks = 64; most_promises = 256; longest_line = 2048; longest_answer = 2048 }

-- 02, 7/13: "512 tasks and 2,048 promises", "blamed on t becomes 528+t", lines and answers "to 14,336 bytes". No
-- session has it yet.
abbrev pub large : Form
large = record { base = 528; most_tasks = 512; most_promises = 2048; longest_line = 14336; longest_answer = 14336 }

-- 02, 7/13: "The caller says which form it lends."
abbrev pub form_of : FormName → Form
form_of Small = small
form_of Large = large

-- "a task table of T words (1 to 64), a promise table of P words (0 to 256)"
unfoldable pub sizes_in_bounds : Form → ℕ → ℕ → Bool
sizes_in_bounds F T P = leb 1 T && leb T F.most_tasks && leb P F.most_promises

-- "and a report of at least P + 2T words"
abbrev pub room_for : ℕ → ℕ → ℕ
room_for T P = P + 2 * T

-- "a lent slice of step records, at most 256"
abbrev pub most_records : ℕ
most_records = 256

-- "a line number (1 to 999999)"
abbrev pub last_line : ℕ
last_line = 999999

-- ---- the limits of lines follow from the form that they use

abbrev pub of_lines : Form
of_lines = small

abbrev pub longest_line : ℕ
longest_line = of_lines.longest_line

abbrev pub longest_answer : ℕ
longest_answer = of_lines.longest_answer

-- "a report of exactly 384 words"
abbrev pub line_report : ℕ
line_report = room_for of_lines.most_tasks of_lines.most_promises

-- the entries of an async's list: each has at least two bytes
abbrev pub most_entries : ℕ
most_entries = longest_line / 2
