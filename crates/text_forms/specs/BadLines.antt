-- Bad lines and their columns. Paper: 02, request 1. `text_of` and `fields_text` print the good part of a line; what
-- follows spoils it. proofs/Columns.antt computes every row.
--
--   Bad        a bad line and its column
--   bad_lines  the table
-- Assumes nothing.
use Rattle.std.specs.Prelude.{ℕ, List, [], ◌∷◌, ◌++◌}
use Rattle.text_fields.specs.Fields.{tab}
use Rattle.text_numbers.specs.Numbers.{dec}
use Rattle.text_writers.specs.Texts.{fields_text}
use Rattle.step_kinds.specs.declared.Kind.TheVariants as K
use Rattle.text_keywords.specs.Keywords.{text_of}
use Rattle.text_keywords.specs.declared.Keyword.TheVariants as W

pub record Bad : Type 0 where
  pub line : List ℕ
  pub column : ℕ

abbrev pub bad : List ℕ → ℕ → Bad
bad s c = record { line = s; column = c }

-- the letter x
abbrev pub x : List ℕ
x = 120 ∷ []

abbrev pub tab_after : List ℕ
tab_after = tab ∷ []

abbrev pub bad_lines : List Bad
bad_lines =
    -- "the first byte with which the line so far stops being the start of any well-formed line"
    bad x 0
    ∷ bad (text_of (W.Step K.New) ++ x) 3
    ∷ bad (text_of (W.Step K.End) ++ fields_text (1 ∷ []) ++ tab_after) 5
    ∷ bad (text_of (W.Step K.New) ++ fields_text (0 ∷ 1 ∷ []) ++ tab_after) 7
    ∷ bad (text_of (W.Step K.New) ++ fields_text (0 ∷ []) ++ tab_after ++ tab_after ++ dec 1) 6
    ∷ bad (text_of (W.Step K.Async) ++ fields_text (0 ∷ 1 ∷ 2 ∷ []) ++ x) 11
    -- a digit that makes the number too large, or follows a 0
    ∷ bad (text_of (W.Step K.Get) ++ fields_text (0 ∷ 0 ∷ []) ++ dec 0) 7
    ∷ bad (text_of (W.Step K.Get) ++ fields_text (0 ∷ 6553 ∷ []) ++ dec 6) 10
    ∷ bad (text_of (W.Step K.Get) ++ fields_text (0 ∷ 7000 ∷ []) ++ dec 0) 10
    ∷ bad (text_of (W.Step K.Get) ++ fields_text (0 ∷ 65535 ∷ []) ++ dec 0) 11
    -- "or the line's length if only the end came too early"
    ∷ bad [] 0
    ∷ bad (text_of W.Open) 4
    ∷ bad (text_of (W.Step K.New) ++ fields_text (0 ∷ [])) 5
    ∷ bad (text_of (W.Step K.New) ++ fields_text (0 ∷ []) ++ tab_after) 6
    ∷ bad (text_of (W.Step K.Async) ++ fields_text (0 ∷ 1 ∷ []) ++ tab_after) 10
    ∷ []
