-- The promise fields of async. Paper: 01, "Lines", "The promise fields of async are read from the rest of the line
-- after the child", and "The five steps", "The list may have no entries". s is that rest: empty, or a tab and a field
-- for each entry.
--
--   list_entries s   the entries, up to the first bad one
--   list_of s        how many they are, or the first bad byte
--   Listing s o x r  the list s was read into the lent words o: x is what they hold then, and r the answer
-- Theorems.antt: with one word lent for two bytes of s nothing is cut.
-- Assumes nothing.
use Rattle.std.specs.Prelude.{ℕ, zero, suc, ◌+◌, List, [], ◌∷◌, cond, ◌≡◌, length, ltb, Result, Ok, Err}
use Rattle.words.specs.Lists.{over}
use Rattle.text_buffers.specs.Buffers.{fitting}
use Rattle.text_records.specs.Records.{number_at}
use Rattle.text_fields.specs.declared.BadByte.{BadByte}

-- an entry, and what `rest` makes of the place where the next one starts
unfoldable pub with_entry : (ℕ → List ℕ) → Result (ℕ × ℕ) BadByte → List ℕ
with_entry rest (Ok (v, n)) = v ∷ rest n
with_entry rest (Err b) = []

-- the entries from the one that starts at a on; f bounds how many there are
unfoldable pub values_from : ℕ → List ℕ → ℕ → List ℕ
values_from zero s a = []
values_from (suc f) s a = cond (ltb (length s) a) [] (with_entry (values_from f s) (number_at s a))

unfoldable pub past_entry : (ℕ → Result ℕ BadByte) → Result (ℕ × ℕ) BadByte → Result ℕ BadByte
past_entry rest (Ok (v, n)) = rest n
past_entry rest (Err b) = Err b

-- after n entries, from the one that starts at a on
unfoldable pub listed_from : ℕ → ℕ → List ℕ → ℕ → Result ℕ BadByte
listed_from zero n s a = Ok n
listed_from (suc f) n s a = cond (ltb (length s) a) (Ok n) (past_entry (listed_from f (n + 1) s) (number_at s a))

-- the first entry starts after the tab that s begins with; an entry has at least two bytes, so length s bounds them
unfoldable pub list_entries : List ℕ → List ℕ
list_entries s = values_from (length s) s 1

unfoldable pub list_of : List ℕ → Result ℕ BadByte
list_of s = listed_from (length s) 0 s 1

-- the whole outcome of reading a list
pub record Listing (s o x : List ℕ) (r : Result ℕ BadByte) : Type 0 where
  pub answer : r ≡ list_of s
  pub words : x ≡ over (fitting (list_entries s) o) o
