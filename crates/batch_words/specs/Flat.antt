-- The batch in flat words. Paper: 02, 2/13, for callers that know numbers alone.
--
--   kind_of k               the kind that the word k stands for
--   record_by k t o a n     the record of five words
--   record_in ws i          the record whose words begin at i
--   records_of ws           the records that the words stand for
--   is_record ws            the words are a record of one of the five kinds
--   is_flat ws              the words are whole records, each of one of the five kinds
--   called_number c         the answer to a call as a number: its refusal, or 0
--   flatly F list s ws m k  the outcome of a call by words: refused by 1 if they are no records, else that of the
--                           call by the records
--   Flats ..                what a call by words returns, and leaves of the tables, the report and the answers
-- Assumes nothing.
use Rattle.std.specs.Prelude.{ℕ, ◌+◌, ◌≡◌, List, [], ◌∷◌, Bool, true, false, cond, ◌&&◌, eqb, leb, get_or, length}
use Rattle.std.specs.Prelude.{Result, Ok, Err}
use Rattle.words.specs.Words.{Form}
use Rattle.words.specs.Lists.{over}
use Rattle.rules.specs.Tables.{Tables}
use Rattle.step_kinds.specs.declared.Kind.{Kind}
use Rattle.step_kinds.specs.declared.Kind.TheVariants.{New, Set, Get, Async, End}
use Rattle.batch_record.specs.declared.Record.{Record}
use Rattle.batch.specs.Batches.{CallOutcome, refused, batched}

-- in the order of the paper
unfoldable pub kind_of : ℕ → Kind
kind_of k = cond (eqb k 0) New (cond (eqb k 1) Set (cond (eqb k 2) Get (cond (eqb k 3) Async End)))

abbrev pub record_by : ℕ → ℕ → ℕ → ℕ → ℕ → Record
record_by k t o a n = record { kind = kind_of k; task = t; other = o; start = a; length = n }

unfoldable pub record_in : List ℕ → ℕ → Record
record_in ws i = record_by (get_or ws i 0) (get_or ws (i + 1) 0) (get_or ws (i + 2) 0) (get_or ws (i + 3) 0)
    (get_or ws (i + 4) 0)

-- five words each; too few words for a record stand for none
unfoldable pub records_of : List ℕ → List Record
records_of [] = []
records_of (k ∷ []) = []
records_of (k ∷ t ∷ []) = []
records_of (k ∷ t ∷ o ∷ []) = []
records_of (k ∷ t ∷ o ∷ a ∷ []) = []
records_of (k ∷ t ∷ o ∷ a ∷ n ∷ ws) = record_by k t o a n ∷ records_of ws

abbrev pub is_record : List ℕ → Bool
is_record ws = eqb (length ws) 5 && leb (get_or ws 0 0) 4

unfoldable pub is_flat : List ℕ → Bool
is_flat [] = true
is_flat (k ∷ []) = false
is_flat (k ∷ t ∷ []) = false
is_flat (k ∷ t ∷ o ∷ []) = false
is_flat (k ∷ t ∷ o ∷ a ∷ []) = false
is_flat (k ∷ t ∷ o ∷ a ∷ n ∷ ws) = leb k 4 && is_flat ws

-- ---- the call

unfoldable pub called_number : Result ℕ ℕ → ℕ
called_number (Ok n) = 0
called_number (Err r) = r

-- refused by 1 with nothing written, or the call by the records that the words stand for
unfoldable pub flatly : Form → List ℕ → Tables → List ℕ → ℕ → ℕ → CallOutcome
flatly F list s ws m k = cond (is_flat ws) (batched F list s (records_of ws) m k) (refused 1 s)

pub record Flats (o : CallOutcome) (rs ws : List ℕ) (r : ℕ) (s' : Tables) (rs' ws' : List ℕ) : Type 0 where
  pub number : r ≡ called_number o.answer
  pub after : s' ≡ o.after
  pub report : rs' ≡ over o.words rs
  pub answers : ws' ≡ over o.answers ws
