-- What a word and its numbers ask for.
--
--   takes_numbers h n  a step of the shape h takes n numbers, those of its list among them
--   asked_by w vs      the step that the keyword w, if it is one, and the numbers vs ask for
--   asks_for s vs      the step that the word s and the numbers vs ask for
-- Assumes nothing.
use Rattle.std.specs.Prelude.{ℕ, List, Bool, eqb, leb, length, get_or, drop, Option, Some, None, Result, Ok, Err}
use Rattle.std.specs.Prelude.{if◌then◌else◌}
use Rattle.step_kinds.specs.declared.Shape.{Shape}
use Rattle.step_kinds.specs.declared.Shape.TheVariants as S
use Rattle.step_kinds.specs.Kinds.{shape_of}
use Rattle.text_fields.specs.declared.BadByte.{BadByte}
use Rattle.text_keywords.specs.declared.Keyword.{Keyword}
use Rattle.text_keywords.specs.declared.Keyword.TheVariants as K
use Rattle.text_keywords.specs.Keywords.{keyword_of}
use Rattle.rules.specs.Steps.{Step}
use Rattle.steps.specs.Named.{step_by}

abbrev pub takes_numbers : Shape → ℕ → Bool
takes_numbers S.One n = eqb n 1
takes_numbers S.Two n = eqb n 2
takes_numbers S.List n = leb 2 n

-- a step of one number has 0 for the other; its list begins after the first two numbers
abbrev pub asked_by : Result Keyword BadByte → List ℕ → Option Step
asked_by (Ok K.Open) vs = None
asked_by (Ok (K.Step k)) vs =
    if takes_numbers (shape_of k) (length vs)
    then Some (step_by k (get_or vs 0 0) (get_or vs 1 0) (drop 2 vs))
    else None
asked_by (Err b) vs = None

abbrev pub asks_for : List ℕ → List ℕ → Option Step
asks_for s vs = asked_by (keyword_of s) vs
