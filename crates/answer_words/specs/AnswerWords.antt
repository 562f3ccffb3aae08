-- An answer as four words, for callers that know numbers alone.
--
--   answer_words a  the answer's number, then its values, three in all: 0 where it has none
-- Assumes nothing.
use Rattle.std.specs.Prelude.{ℕ, List, [], ◌∷◌}
use Rattle.rules.specs.Answers.{laid, value_of}
use Rattle.rules.specs.declared.Answer.{Answer}

unfoldable pub answer_words : Answer → List ℕ
answer_words a =
    (laid a).number ∷ value_of (laid a).first ∷ value_of (laid a).second ∷ value_of (laid a).third ∷ []
