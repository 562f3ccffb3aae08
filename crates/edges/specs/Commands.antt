-- The words of a command: its own, and those that its fields stand for.
--
--   number_of f     the number that the field f holds, if it holds one
--   once n          the word n, once
--   repeat_in f     the word and the times of the field f: a number once, or with a star and a number after it as often
--                   as that says
--   words_in f      the words that the field f stands for
--   joined ws vs    the words ws and then vs, if there are both
--   all_words fs    the words that the fields fs stand for, one after another
--   word_in c       the word of the command c: the first of its parts between blanks
--   fields_in c     its fields: the parts after its word
--   IsTooMuch n ws  ws are no words, or more than n
-- Assumes nothing.
use Rattle.std.specs.Prelude.{ℕ, ◌+◌, ◌≡◌, ◌<◌, List, [], ◌∷◌, ◌++◌, Option, Some, None, length, take, drop}
use Rattle.std.specs.Prelude.{replicate, position, slice_index_or}
use Rattle.std.specs.List.{slice_split}
use Rattle.std.specs.Option.{option_map, option_map_or, option_zip}
use Rattle.std.specs.Result.{result_ok}
use Rattle.text_numbers.specs.Numbers.{number_in}
use Rattle.edges.specs.Lines.{is_blank, is_star}

abbrev pub number_of : List ℕ → Option ℕ
number_of f = result_ok (number_in f)

abbrev pub once : ℕ → ℕ × ℕ
once n = (n, 1)

abbrev pub repeat_in : List ℕ → Option (ℕ × ℕ)
repeat_in f =
    option_map_or (λ k. option_zip (number_of (take k f)) (number_of (drop (k + 1) f))) (position is_star f)
    (option_map once (number_of f))

abbrev pub words_in : List ℕ → Option (List ℕ)
words_in f = option_map (λ r. replicate r.1 r.0) (repeat_in f)

abbrev pub joined : Option (List ℕ) → Option (List ℕ) → Option (List ℕ)
joined None vs = None
joined (Some ws) None = None
joined (Some ws) (Some vs) = Some (ws ++ vs)

abbrev pub all_words : List (List ℕ) → Option (List ℕ)
all_words [] = Some []
all_words (f ∷ fs) = joined (words_in f) (all_words fs)

abbrev pub word_in : List ℕ → List ℕ
word_in c = slice_index_or (slice_split is_blank c) 0 []

abbrev pub fields_in : List ℕ → List (List ℕ)
fields_in c = drop 1 (slice_split is_blank c)

abbrev pub IsTooMuch : ℕ → Option (List ℕ) → Type 0
IsTooMuch n ws = (vs : List ℕ) → ws ≡ Some vs → n < length vs
