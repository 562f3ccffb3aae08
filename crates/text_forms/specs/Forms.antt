-- The forms of a line, in the direction of printing: a line is made of a word and numbers, and nothing is said of how
-- it is read. Paper: 01, "Lines", "`open T P`, `new t p`, `set t p`, `get t p`, `async t c p..`, `end t`, with a tab
-- for each blank"; the column is that of 02, request 1.
--
--   takes w n     whether the word w takes n numbers
--   AllSmall ns   each number of ns is at most 65535
--   Line w ns s   s is the line of the word w and the numbers ns
--   Formed s      s is a well-formed line, its length limit aside
--   Start L s     s is the start of some line of L, for any language L of lines; NoStart L s: it is the start of none
--   BadAt L s c   c is the column where s stops being the start of a line of L
--   ColumnOf s c  c is the column of the line s, which is bad or too long
-- Assumes nothing.
use Rattle.std.specs.Prelude.{ℕ, suc, ◌≤◌, ◌<◌, List, ◌++◌, Bool, true, ◌≡◌, length, take, eqb, leb}
use Rattle.words.specs.Words.{longest_line}
use Rattle.text_numbers.specs.Numbers.{largest}
use Rattle.text_writers.specs.Texts.{fields_text, Every}
use Rattle.step_kinds.specs.Kinds.{shape_of}
use Rattle.step_kinds.specs.declared.Shape.{Shape}
use Rattle.step_kinds.specs.declared.Shape.TheVariants as H
use Rattle.text_keywords.specs.Keywords.{text_of}
use Rattle.text_keywords.specs.declared.Keyword.{Keyword}
use Rattle.text_keywords.specs.declared.Keyword.TheVariants as W

-- "p.." may stand for no number at all
unfoldable pub takes_shape : Shape → ℕ → Bool
takes_shape H.One n = eqb n 1
takes_shape H.Two n = eqb n 2
takes_shape H.List n = leb 2 n

unfoldable pub takes : Keyword → ℕ → Bool
takes W.Open n = eqb n 2
takes (W.Step k) n = takes_shape (shape_of k) n

-- "A number .. is at most 65535"
abbrev pub AllSmall : List ℕ → Type 0
AllSmall ns = Every (λ n. n ≤ largest) ns

-- "with a tab for each blank": `fields_text ns` is each number of ns after a tab and in its printed form
pub record Line (w : Keyword) (ns s : List ℕ) : Type 0 where
  pub taken : takes w (length ns) ≡ true
  pub small : AllSmall ns
  pub text : s ≡ text_of w ++ fields_text ns

-- a line "of such form": there are a word and numbers that it is the line of
abbrev pub Formed : List ℕ → Type 0
Formed s = (w : Keyword) × (ns : List ℕ) × Line w ns s

-- "the start of any well-formed line (its length limit aside)": something put after it makes it one; or nothing does
abbrev pub Start : (List ℕ → Type 0) → List ℕ → Type 0
Start L s = (x : List ℕ) × L (s ++ x)

abbrev pub NoStart : (List ℕ → Type 0) → List ℕ → Type 0
NoStart L s = (x : List ℕ) → L (s ++ x) → ⊥

-- "the column, counted from 0, of the first byte with which the line so far stops being the start of any well-formed
-- line .. or the line's length if only the end came too early"
pub record BadAt (L : List ℕ → Type 0) (s : List ℕ) (c : ℕ) : Type 0 where
  pub within : c ≤ length s
  pub start : Start L (take c s)
  pub stop : c < length s → NoStart L (take (suc c) s)
  pub not_one : L s → ⊥

-- "A line that is too long gives column 2,048."
pub data ColumnOf (s : List ℕ) : ℕ → Type 0 where
  too_long : longest_line < length s → ColumnOf s longest_line
  goes_bad : (c : ℕ) → length s ≤ longest_line → BadAt Formed s c → ColumnOf s c
