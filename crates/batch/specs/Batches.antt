-- A whole scan's steps in one call. Paper: 02, 2/13.
--
--   record_at rs i            the i-th record
--   one_by_one F n list s rs  what the steps of the records answer, do and report, taken one by one, each with a
--                             report of its own of n words
--   last_tables s os          the tables after them
--   all_answers os            their answers, four words each
--   all_words os              their report words, one after another
--   Taken F list s rs os      os are what the steps answer, do and report, one by one, each with a report of its own
--                             of any length that has room
--   has_room F T P n m k      n records are not too many, and have room in a report of m words and in k words for
--                             their answers
--   call_rows F s n m k       refusals 1 and 2 of the call
--   CallOutcome               the answer to the call, that is how many report words its steps gave or the number of its
--                             refusal, the tables after it, and what is written over the front of the report and of
--                             the answers
--   done s os, refused r s    all steps taken; refused by r
--   batched F list s rs m k   what a call with a report of m words and k words for the answers makes
--   numbered c                the answer c of the code, its refusal as a number
--   Batches ..                what a call leaves of the tables, the report and the answers
-- Assumes nothing.
use Rattle.std.specs.Prelude.{ℕ, ◌*◌, ◌≤◌, ◌≡◌, List, [], ◌∷◌, ◌++◌, Bool, cond, not, ◌&&◌, eqb, leb, length, get_or}
use Rattle.std.specs.Prelude.{Result, Ok, Err}
use Rattle.words.specs.Words.{Form, sizes_in_bounds, room_for, most_records}
use Rattle.words.specs.Lists.{over}
use Rattle.rules.specs.Tables.{Tables}
use Rattle.rules.specs.Sound.{sound_test}
use Rattle.rules.specs.Refusals.{Row, first, refusal_number}
use Rattle.rules.specs.Steps.{Outcome}
use Rattle.answer_words.specs.AnswerWords.{answer_words}
use Rattle.step_kinds.specs.declared.Kind.TheVariants.{End}
use Rattle.batch_record.specs.declared.Record.{Record}
use Rattle.batch_record.specs.Records.{step_record}
use Rattle.rules.specs.declared.Refusal.{Refusal}

-- past the last one there is none; something must stand there
abbrev pub no_record : Record
no_record = record { kind = End; task = 0; other = 0; start = 0; length = 0 }

abbrev pub record_at : List Record → ℕ → Record
record_at rs i = get_or rs i no_record

-- ---- "the same steps taken one by one, each with a report of its own"

unfoldable pub one_by_one : Form → ℕ → List ℕ → Tables → List Record → List Outcome
one_by_one F n list s [] = []
one_by_one F n list s (r ∷ rs) = step_record F n list s r ∷ one_by_one F n list (step_record F n list s r).after rs

unfoldable pub last_tables : Tables → List Outcome → Tables
last_tables s [] = s
last_tables s (o ∷ os) = last_tables o.after os

-- "Give one answer record per step"
unfoldable pub all_answers : List Outcome → List ℕ
all_answers [] = []
all_answers (o ∷ os) = answer_words o.answer ++ all_answers os

-- "and the steps' report words one after another"
unfoldable pub all_words : List Outcome → List ℕ
all_words [] = []
all_words (o ∷ os) = o.words ++ all_words os

pub data Taken (F : Form) (list : List ℕ) : Tables → List Record → List Outcome → Type 0 where
  none_left : {s : Tables} → Taken F list s [] []
  next : {s : Tables} {r : Record} {rs : List Record} {os : List Outcome} (n : ℕ)
      → room_for (length s.tasks) (length s.promises) ≤ n
      → Taken F list (step_record F n list s r).after rs os → Taken F list s (r ∷ rs) (step_record F n list s r ∷ os)

-- ---- the call

-- "T or P out of bounds, more than 256 records or too little room is 1 for the call": "The report must have room for
-- P + 2T words per record, and the answers for every record." An answer record is four words.
unfoldable pub has_room : Form → ℕ → ℕ → ℕ → ℕ → ℕ → Bool
has_room F T P n m k = sizes_in_bounds F T P && leb n most_records && leb (n * room_for T P) m && leb (4 * n) k

abbrev pub call_rows : Form → Tables → ℕ → ℕ → ℕ → List Row
call_rows F s n m k =
    (1, not (has_room F (length s.tasks) (length s.promises) n m k))
    ∷ (2, not (sound_test F.base s))  -- "damaged tables are 2 for the call"
    ∷ []

pub record CallOutcome : Type 0 where
  pub answer : Result ℕ ℕ
  pub after : Tables
  pub words : List ℕ
  pub answers : List ℕ

-- all steps taken
abbrev pub done : Tables → List Outcome → CallOutcome
done s os = record {
  answer = Ok (length (all_words os));
  after = last_tables s os;
  words = all_words os;
  answers =
      all_answers os;
}

-- refused, "with nothing written"
abbrev pub refused : ℕ → Tables → CallOutcome
refused r s = record { answer = Err r; after = s; words = []; answers = [] }

unfoldable pub called : ℕ → Tables → List Outcome → CallOutcome
called r s os = cond (eqb r 0) (done s os) (refused r s)

-- "Tables, answers and words must equal those of the same steps taken one by one, each with a report of its own."
abbrev pub batched : Form → List ℕ → Tables → List Record → ℕ → ℕ → CallOutcome
batched F list s rs m k = called (first (call_rows F s (length rs) m k)) s
    (one_by_one F (room_for (length s.tasks) (length s.promises)) list s rs)

-- the answer of the code, its refusal as a number
abbrev pub numbered : Result ℕ Refusal → Result ℕ ℕ
numbered (Ok n) = Ok n
numbered (Err r) = Err (refusal_number r)

-- "words or answers past the last one given stay as they were"
pub record Batches (o : CallOutcome) (rs ws : List ℕ) (c : Result ℕ Refusal) (s' : Tables) (rs' ws' : List ℕ) : Type 0
  where
    pub answer : numbered c ≡ o.answer
    pub after : s' ≡ o.after
    pub report : rs' ≡ over o.words rs
    pub answers : ws' ≡ over o.answers ws
