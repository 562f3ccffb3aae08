-- The record of a line, as it is read from the left. Paper: 01, "Lines", "One record a line, fields parted by a tab",
-- and "keeps where the next field starts"; every bad line has the column of its first bad byte (02, request 1). What is
-- carried from field to field is where the next field starts; a place past the line says that there is none.
--
--   end_before n   where the field before the one that starts at n ends
--   number_at s a  the number of the field that starts at a, and where the next field starts
--   pair_at s a    two numbers, one field after the other
--   ended s n      the line has to end before the field that starts at n
--   last_pair s p  two numbers, where the line has to end after the second
--   record_of s    the record of the line s; for a step with a list up to its numbers, with the place where the rest
--                  of the line starts
-- What a well-formed line is stands in `text_forms`, in the direction of printing; there it is proved that both agree.
-- Assumes nothing.
use Rattle.std.specs.Prelude.{ℕ, ◌+◌, ◌-◌, List, cond, length, ltb, Result, Ok, Err}
use Rattle.text_fields.specs.Fields.{field_at, next_start, bad_byte}
use Rattle.text_fields.specs.declared.BadByte.{BadByte}
use Rattle.text_numbers.specs.Numbers.{number_in}
use Rattle.step_kinds.specs.Kinds.{shape_of}
use Rattle.step_kinds.specs.declared.Kind.{Kind}
use Rattle.step_kinds.specs.declared.Shape.{Shape}
use Rattle.step_kinds.specs.declared.Shape.TheVariants as H
use Rattle.text_keywords.specs.Keywords.{keyword_of}
use Rattle.text_keywords.specs.declared.Keyword.{Keyword}
use Rattle.text_keywords.specs.declared.Keyword.TheVariants as W
use Rattle.text_records.specs.declared.LineRecord.{LineRecord}
use Rattle.text_records.specs.declared.LineRecord.TheVariants as R

-- where the field before the one that starts at n ends: at the tab before n, or at the line's end if none starts at n
abbrev pub end_before : ℕ → ℕ
end_before n = n - 1

-- what the field at a holds, with the next one at n: places in the field become columns of the line
unfoldable pub placed : ℕ → ℕ → Result ℕ BadByte → Result (ℕ × ℕ) BadByte
placed a n (Ok v) = Ok (v, n)
placed a n (Err b) = Err (bad_byte (a + b.place))

-- "keeps where the next field starts"; where none starts, the line came to its end too early
unfoldable pub number_at : List ℕ → ℕ → Result (ℕ × ℕ) BadByte
number_at s a =
    cond (ltb (length s) a) (Err (bad_byte (length s))) (placed a (next_start s a) (number_in (field_at s a)))

unfoldable pub with_second : ℕ → Result (ℕ × ℕ) BadByte → Result (ℕ × ℕ × ℕ) BadByte
with_second a (Ok (b, n)) = Ok (a, b, n)
with_second a (Err k) = Err k

unfoldable pub with_first : List ℕ → Result (ℕ × ℕ) BadByte → Result (ℕ × ℕ × ℕ) BadByte
with_first s (Ok (a, n)) = with_second a (number_at s n)
with_first s (Err k) = Err k

unfoldable pub pair_at : List ℕ → ℕ → Result (ℕ × ℕ × ℕ) BadByte
pair_at s a = with_first s (number_at s a)

-- no field may start at n: else the tab before it is bad
unfoldable pub ended : List ℕ → ℕ → Result (Unit {0}) BadByte
ended s n = cond (ltb (length s) n) (Ok tt) (Err (bad_byte (end_before n)))

unfoldable pub last_pair : List ℕ → Result (ℕ × ℕ × ℕ) BadByte → Result (ℕ × ℕ) BadByte
last_pair s (Ok (a, b, n)) = cond (ltb (length s) n) (Ok (a, b)) (Err (bad_byte (end_before n)))
last_pair s (Err k) = Err k

-- a record of two numbers
unfoldable pub of_pair : (ℕ → ℕ → LineRecord) → Result (ℕ × ℕ) BadByte → Result LineRecord BadByte
of_pair f (Ok (a, b)) = Ok (f a b)
of_pair f (Err k) = Err k

-- "async t c p..": "the rest of the line after the child" starts where the child's field ends
unfoldable pub of_list : Kind → Result (ℕ × ℕ × ℕ) BadByte → Result LineRecord BadByte
of_list k (Ok (a, b, n)) = Ok (R.Listing k a b (end_before n))
of_list k (Err j) = Err j

-- "end t"
unfoldable pub of_one : Kind → List ℕ → Result (ℕ × ℕ) BadByte → Result LineRecord BadByte
of_one k s (Ok (a, n)) = cond (ltb (length s) n) (Ok (R.Plain k a 0)) (Err (bad_byte (end_before n)))
of_one k s (Err j) = Err j

-- by what the kind takes
unfoldable pub after_kind : List ℕ → ℕ → Kind → Shape → Result LineRecord BadByte
after_kind s n k H.One = of_one k s (number_at s n)
after_kind s n k H.Two = of_pair (R.Plain k) (last_pair s (pair_at s n))
after_kind s n k H.List = of_list k (pair_at s n)

-- "open T P", and the steps; n is where the field after the word starts
unfoldable pub after_word : List ℕ → ℕ → Result Keyword BadByte → Result LineRecord BadByte
after_word s n (Ok W.Open) = of_pair R.Open (last_pair s (pair_at s n))
after_word s n (Ok (W.Step k)) = after_kind s n k (shape_of k)
after_word s n (Err b) = Err b

unfoldable pub record_of : List ℕ → Result LineRecord BadByte
record_of s = after_word s (next_start s 0) (keyword_of (field_at s 0))
