-- Lines out of blocks of input. Paper: 01, "Lines", "The program `bench` reads standard input with a line buffer of
-- 2,048 bytes, passes over the rest of a longer line (one refusal 14), takes a last line without LF if it isn't empty,
-- and prints one answer line each. At the millionth line it prints `full` and stops".
--
--   piece_of s from           the bytes of a block s from `from` on that belong to the line there
--   counted L n               how many bytes of a line are there, up to one more than a buffer of L holds: that says
--                             that it is too long
--   got_of L have s at        what a block brings to a line of which `have` bytes are there
--   gathered_in o have s at   what the buffer o holds then
--   Gathered o have s at x r  the block s was gathered from `at` on into the buffer o: x is what it holds then, and r
--                             the answer
--   Holds t o x n             the buffer, which held o, holds the line t so far: x is what it holds, and n its count
--   number_after n            the number of the line after line n; none after the last
-- Theorems.antt: block by block the buffer holds the whole line so far, or says that it is too long.
-- Assumes nothing.
use Rattle.std.specs.Prelude.{ℕ, ◌+◌, min, List, ◌++◌, Bool, true, false, cond, ◌≡◌, length, take, drop, ltb, eqb}
use Rattle.std.specs.Prelude.{Option, Some, None}
use Rattle.words.specs.Words.{last_line}
use Rattle.words.specs.Lists.{over}
use Rattle.text_buffers.specs.Buffers.{fitting}
use Rattle.text_fields.specs.Fields.{line_end, run_to, end_from}
use Rattle.line_gather.specs.declared.Got.{Got}

unfoldable pub piece_of : List ℕ → ℕ → List ℕ
piece_of s from = take (run_to line_end (drop from s)) (drop from s)

-- "passes over the rest of a longer line": the count goes no further
unfoldable pub counted : ℕ → ℕ → ℕ
counted L n = min n (L + 1)

-- a line that ends in this block has a place where the next one starts; one that goes on in the next block has none
unfoldable pub got_of : ℕ → ℕ → List ℕ → ℕ → Got
got_of L have s from = record {
  count = counted L (have + length (piece_of s from));
  next = cond (ltb (end_from line_end s from) (length s)) (Some (end_from line_end s from + 1)) None;
}

-- the bytes before `have` stay, the piece goes after them as far as there is room, and the bytes after it stay
abbrev pub gathered_in : List ℕ → ℕ → List ℕ → ℕ → List ℕ
gathered_in o have s from = take have o ++ over (fitting (piece_of s from) (drop have o)) (drop have o)

pub record Gathered (o : List ℕ) (have : ℕ) (s : List ℕ) (from : ℕ) (x : List ℕ) (r : Got) : Type 0 where
  pub answer : r ≡ got_of (length o) have s from
  pub bytes : x ≡ gathered_in o have s from

pub record Holds (t o x : List ℕ) (n : ℕ) : Type 0 where
  pub bytes : x ≡ over (fitting t o) o
  pub count : n ≡ counted (length o) (length t)

-- "takes a last line without LF if it isn't empty"
unfoldable pub is_last : ℕ → Bool
is_last have = cond (eqb have 0) false true

-- "a line number (1 to 999999)", "At the millionth line it prints `full` and stops"
unfoldable pub number_after : ℕ → Option ℕ
number_after n = cond (ltb n last_line) (Some (n + 1)) None
