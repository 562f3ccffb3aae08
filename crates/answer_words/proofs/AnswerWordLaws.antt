-- Laws of specs/AnswerWords.antt. Assumes nothing.
use mathlib.Core.Path.{◌≡◌, refl}
use lib.ListN.{length}
use Rattle.rules.specs.declared.Answer.{Answer}
use Rattle.answer_words.specs.AnswerWords.{answer_words}

pub answer_words_length : (a : Answer) → length (answer_words a) ≡ 4
unfolding answer_words
answer_words_length a = refl
