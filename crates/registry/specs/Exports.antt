-- What the exported functions return and write: the answer of a step as a number and four lent words.
--
--   Exported                            the returned number, the tables, the report and the answer words after a call
--   exported s rs ws o                  those of the outcome o of a step on the tables s with the report rs, and the
--                                       words ws lent for the answer; with fewer than four words lent for it the call
--                                       is refused by 1, and nothing is written
--   Exports e r s' rs ws                a call returned r and left these
--   ExportsStep x s rs ws r s' rs' ws'  they are those of the step x on the tables s, the report rs and the words ws
-- Assumes nothing.
use Rattle.std.specs.Prelude.{ℕ, ◌≡◌, List, cond, ltb, length}
use Rattle.words.specs.Words.{small}
use Rattle.words.specs.Lists.{over}
use Rattle.rules.specs.Tables.{Tables}
use Rattle.rules.specs.Answers.{number_of}
use Rattle.rules.specs.Steps.{Step, Outcome, step}
use Rattle.answer_words.specs.AnswerWords.{answer_words}

pub record Exported : Type 0 where
  pub number : ℕ
  pub after : Tables
  pub report : List ℕ
  pub answer : List ℕ

unfoldable pub exported : Tables → List ℕ → List ℕ → Outcome → Exported
exported s rs ws o =
    cond (ltb (length ws) 4) (record { number = 1; after = s; report = rs; answer = ws })
    (record {
      number = number_of o.answer;
      after = o.after;
      report = over o.words rs;
      answer = over (answer_words o.answer) ws;
    })

pub record Exports (e : Exported) (r : ℕ) (s' : Tables) (rs ws : List ℕ) : Type 0 where
  pub number : r ≡ e.number
  pub after : s' ≡ e.after
  pub report : rs ≡ e.report
  pub answer : ws ≡ e.answer

abbrev pub ExportsStep : Step → Tables → List ℕ → List ℕ → ℕ → Tables → List ℕ → List ℕ → Type 0
ExportsStep x s rs ws r s' rs' ws' = Exports (exported s rs ws (step small (length rs) s x)) r s' rs' ws'
