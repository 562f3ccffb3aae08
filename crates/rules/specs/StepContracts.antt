-- What the functions promise of the tables and the report that they were lent.
-- Paper: 01, "How much each contract must say".
--
--   Gives o rs a s' rs'      the answer a, the tables s' and the report rs' are those of the outcome o; rs is the
--                            report before
--   Takes F x s rs a s' rs'  they are those of the step x on the tables s
--   TakesRaw F x s rs a s' rs' the same, without refusals 1 and 2
--   TakesQuietly F x s a s'  the same, without refusals 1 and 2, for a step that writes no report: any report stays
--   freshened F s            the tables s, made fresh unless that is refused
--   Freshens F s r s'        the number r and the tables s' are those of making s fresh
-- Assumes nothing.
use Rattle.std.specs.Prelude.{ℕ, ◌≡◌, List, cond, eqb, length}
use Rattle.words.specs.Words.{Form}
use Rattle.words.specs.Lists.{over}
use Rattle.rules.specs.Tables.{Tables, fresh}
use Rattle.rules.specs.Refusals.{fresh_refusal}
use Rattle.rules.specs.Steps.{Step, Outcome, raw, step}
use Rattle.rules.specs.declared.Answer.{Answer}

pub record Gives (o : Outcome) (rs : List ℕ) (a : Answer) (s' : Tables) (rs' : List ℕ) : Type 0 where
  pub answer : a ≡ o.answer
  pub after : s' ≡ o.after
  pub report : rs' ≡ over o.words rs

abbrev pub Takes : Form → Step → Tables → List ℕ → Answer → Tables → List ℕ → Type 0
Takes F x s rs a s' rs' = Gives (step F (length rs) s x) rs a s' rs'

abbrev pub TakesRaw : Form → Step → Tables → List ℕ → Answer → Tables → List ℕ → Type 0
TakesRaw F x s rs a s' rs' = Gives (raw F s x) rs a s' rs'

abbrev pub TakesQuietly : Form → Step → Tables → Answer → Tables → Type 0
TakesQuietly F x s a s' = (rs : List ℕ) → TakesRaw F x s rs a s' rs

-- "An accepted open doesn't test the old words; it writes fresh tables"
unfoldable pub freshened : Form → Tables → Tables
freshened F s =
    cond (eqb (fresh_refusal F (length s.tasks) (length s.promises)) 0)
    (fresh (length s.tasks) (length s.promises))
    s

pub record Freshens (F : Form) (s : Tables) (r : ℕ) (s' : Tables) : Type 0 where
  pub number : r ≡ fresh_refusal F (length s.tasks) (length s.promises)
  pub after : s' ≡ freshened F s
