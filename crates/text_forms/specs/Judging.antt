-- The judgement of a line, as it is read. Paper: 01, "Lines", refusal 14, "the line has no such form, is empty, or is
-- longer than 2,048 bytes", and 02, request 1, "A line that is too long gives column 2,048".
--
--   keyword_in f     the word of the form f, and
--   numbers_in f vs  its numbers; vs are the entries of its list
--   entry_count r    how many entries the answer r says that the line's list has
--   at_column c      a line that goes bad at the column c
--   line_form s      the form of the line s, or the column where it goes bad
--   entries_of s     the entries of the line's list
--   may_list s       the line s starts as one with a list does
--   IsForm r         the answer r is one of the forms
--   InLine r         the answer r is one of them, or its column is at most the length limit
--   Judged s o x r   the line s was judged with the words o lent for its list: x is what they hold then, and r the
--                    answer
-- Theorems.antt: the form read is the form printed, and a bad line's column is the one of `BadAt`.
-- Assumes nothing.
use Rattle.std.specs.Prelude.{ℕ, ◌+◌, ◌≤◌, List, [], ◌∷◌, Bool, cond, ◌≡◌, length, drop, get_or, eqb, ltb}
use Rattle.std.specs.Prelude.{Result, Ok, Err}
use Rattle.words.specs.Words.{longest_line}
use Rattle.words.specs.Lists.{over}
use Rattle.text_buffers.specs.Buffers.{fitting}
use Rattle.step_kinds.specs.Kinds.{shape_of}
use Rattle.step_kinds.specs.declared.Kind.{Kind}
use Rattle.step_kinds.specs.declared.Kind.TheVariants.{Async}
use Rattle.step_kinds.specs.declared.Shape.{Shape}
use Rattle.step_kinds.specs.declared.Shape.TheVariants as H
use Rattle.text_keywords.specs.Keywords.{text_of}
use Rattle.text_keywords.specs.declared.Keyword.{Keyword}
use Rattle.text_keywords.specs.declared.Keyword.TheVariants as W
use Rattle.text_records.specs.Records.{record_of}
use Rattle.text_records.specs.declared.LineRecord.{LineRecord}
use Rattle.text_records.specs.declared.LineRecord.TheVariants as R
use Rattle.text_lists.specs.Lists.{list_entries, list_of}
use Rattle.text_fields.specs.declared.BadByte.{BadByte}
use Rattle.text_forms.specs.declared.LineForm.{LineForm}
use Rattle.text_forms.specs.declared.LineForm.TheVariants as F
use Rattle.text_forms.specs.declared.BadLine.{BadLine}

-- ---- what the answer says

unfoldable pub keyword_in : LineForm → Keyword
keyword_in (F.Open a b) = W.Open
keyword_in (F.Step k a b n) = W.Step k

-- of a step, by what its kind takes
unfoldable pub numbers_by : Shape → ℕ → ℕ → List ℕ → List ℕ
numbers_by H.One a b vs = a ∷ []
numbers_by H.Two a b vs = a ∷ b ∷ []
numbers_by H.List a b vs = a ∷ b ∷ vs

unfoldable pub numbers_in : LineForm → List ℕ → List ℕ
numbers_in (F.Open a b) vs = a ∷ b ∷ []
numbers_in (F.Step k a b n) vs = numbers_by (shape_of k) a b vs

unfoldable pub entry_count : Result LineForm BadLine → ℕ
entry_count (Ok (F.Open a b)) = 0
entry_count (Ok (F.Step k a b n)) = n
entry_count (Err c) = 0

-- ---- what is answered

-- the answer to a line that goes bad at the column c
abbrev pub at_column : ℕ → BadLine
at_column c = record { column = c }

-- a step with the rest of the line from e on: columns of the list become columns of the line
unfoldable pub with_list : Kind → ℕ → ℕ → ℕ → Result ℕ BadByte → Result LineForm BadLine
with_list k a b e (Ok n) = Ok (F.Step k a b n)
with_list k a b e (Err j) = Err (at_column (e + j.place))

unfoldable pub of_record : List ℕ → Result LineRecord BadByte → Result LineForm BadLine
of_record s (Ok (R.Open a b)) = Ok (F.Open a b)
of_record s (Ok (R.Plain k a b)) = Ok (F.Step k a b 0)
of_record s (Ok (R.Listing k a b e)) = with_list k a b e (list_of (drop e s))
of_record s (Err c) = Err (at_column c.place)

-- "A line that is too long gives column 2,048", whatever it holds
unfoldable pub line_form : List ℕ → Result LineForm BadLine
line_form s = cond (ltb longest_line (length s)) (Err (at_column longest_line)) (of_record s (record_of s))

unfoldable pub entries_in : List ℕ → Result LineRecord BadByte → List ℕ
entries_in s (Ok (R.Open a b)) = []
entries_in s (Ok (R.Plain k a b)) = []
entries_in s (Ok (R.Listing k a b e)) = list_entries (drop e s)
entries_in s (Err c) = []

unfoldable pub entries_of : List ℕ → List ℕ
entries_of s = cond (ltb longest_line (length s)) [] (entries_in s (record_of s))

-- "async t c p..": only the word of async takes a list, so only a line with that word's first byte has one
unfoldable pub may_list : List ℕ → Bool
may_list s = eqb (get_or s 0 0) (get_or (text_of (W.Step Async)) 0 0)

-- an answer that is one of the forms
abbrev pub IsForm : Result LineForm BadLine → Type 0
IsForm r = (c : ℕ) → r ≡ Err (at_column c) → ⊥

-- a column that a word has room for
abbrev pub InLine : Result LineForm BadLine → Type 0
InLine r = (c : ℕ) → r ≡ Err (at_column c) → c ≤ longest_line

-- the whole outcome of judging a line
pub record Judged (s o x : List ℕ) (r : Result LineForm BadLine) : Type 0 where
  pub form : r ≡ line_form s
  pub words : x ≡ over (fitting (entries_of s) o) o
