-- What a line does in a session. Paper: 01, "Lines".
--
--   in_session session                          the session value is one that a session may have
--   Deed                                        what a line does: its answer, the session value, the tables and the
--                                               report words
--   refused_at_column column                    the answer to a line that goes bad at the column
--   unopened_deed f s                           what a line does before a session is opened
--   open_outcome f vs n s                       its outcome in an open session, on the tables s
--   in_part T P s o, part_outcome f vs n T P s  an outcome on the first T and P words of the tables s
--   deed_of f vs session s n                    what it does
--   Does ..                                     a call answered and left these
--   OnlyAnswers d session s                     the deed d has an answer and leaves the session value, the tables s
--                                               and the report
-- Assumes nothing.
use Rattle.std.specs.Prelude.{ℕ, ◌≡◌, List, [], Bool, true, cond, eqb}
use Rattle.words.specs.Words.{of_lines, sizes_in_bounds}
use Rattle.words.specs.Lists.{over}
use Rattle.rules.specs.Tables.{Tables, part_of, put_back, fresh}
use Rattle.rules.specs.Refusals.{fresh_refusal}
use Rattle.rules.specs.Steps.{Outcome, outcome, step}
use Rattle.steps.specs.Named.{step_by}
use Rattle.rules.specs.declared.Answer.{Answer}
use Rattle.rules.specs.declared.Answer.TheVariants.{Opened, Refused, RefusedAt}
use Rattle.text_forms.specs.declared.LineForm.{LineForm}
use Rattle.text_forms.specs.declared.LineForm.TheVariants as F
use Rattle.text_forms.specs.declared.BadLine.{BadLine}
use Rattle.std.specs.Prelude.{Result, Ok, Err}
use Rattle.line_session.specs.declared.Session.{Session}
use Rattle.line_session.specs.declared.Session.TheVariants.{Unopened, Open}
use Rattle.line_session.specs.declared.Done.{Done}

-- "a session value (unopened, or a T of 1 to 64 and a P of 0 to 256)"
unfoldable pub in_session : Session → Bool
in_session Unopened = true
in_session (Open T P) = sizes_in_bounds of_lines T P

-- ---- what a line may do

pub record Deed : Type 0 where
  pub answer : Answer
  pub session : Session
  pub after : Tables
  pub words : List ℕ

-- 02, request 1: "Refusal 14 should carry the column"
abbrev pub refused_at_column : ℕ → Answer
refused_at_column column = RefusedAt 14 column

-- 14, 15 and the refusal of an open "change no table and no report"
abbrev pub refused_by : Answer → Session → Tables → Deed
refused_by a session s = record { answer = a; session = session; after = s; words = [] }

-- "An accepted open doesn't test the old words; it writes fresh tables into the first T and first P words."
abbrev pub opened : ℕ → ℕ → Tables → Deed
opened T P s = record { answer = Opened; session = Open T P; after = put_back T P s (fresh T P); words = [] }

-- "a session uses the first T and first P words"
abbrev pub in_part : ℕ → ℕ → Tables → Outcome → Outcome
in_part T P s o = outcome o.answer (put_back T P s o.after) o.words

abbrev pub stepped : ℕ → ℕ → Outcome → Deed
stepped T P o = record { answer = o.answer; session = Open T P; after = o.after; words = o.words }

-- ---- before a session is opened

-- "Refusal 15: well formed but out of place, a step before open"; "a refused open (T not 1 to 64, P above 256: refusal
-- 1) .. leaves the session unopened"
unfoldable pub open_deed : Tables → ℕ → ℕ → Deed
open_deed s T P =
    cond (eqb (fresh_refusal of_lines T P) 0)
    (opened T P s)
    (refused_by (Refused (fresh_refusal of_lines T P)) Unopened s)

unfoldable pub unopened_deed : Result LineForm BadLine → Tables → Deed
unopened_deed (Ok (F.Open T P)) s = open_deed s T P
unopened_deed (Ok (F.Step k t p n)) s = refused_by (Refused 15) Unopened s
unopened_deed (Err bad) s = refused_by (refused_at_column bad.column) Unopened s

-- ---- in an open session

-- n is the report's length, vs are the entries of a step's list. "or a second open": 15. "14 comes before 15, both
-- before the step's own."
unfoldable pub open_outcome : Result LineForm BadLine → List ℕ → ℕ → Tables → Outcome
open_outcome (Ok (F.Open T P)) vs n s = outcome (Refused 15) s []
open_outcome (Ok (F.Step k t p c)) vs n s = step of_lines n s (step_by k t p vs)
open_outcome (Err bad) vs n s = outcome (refused_at_column bad.column) s []

-- the same on the first T and P words of the tables s
abbrev pub part_outcome : Result LineForm BadLine → List ℕ → ℕ → ℕ → ℕ → Tables → Outcome
part_outcome f vs n T P s = in_part T P s (open_outcome f vs n (part_of T P s))

-- ---- what a line does

-- n is the report's length
unfoldable pub deed_of : Result LineForm BadLine → List ℕ → Session → Tables → ℕ → Deed
deed_of f vs Unopened s n = unopened_deed f s
deed_of f vs (Open T P) s n = stepped T P (part_outcome f vs n T P s)

-- what the parts of the entry give: an answer, a session value, the tables and the report are those of a deed; rs is
-- the report before
pub record Does (d : Deed) (rs : List ℕ) (r : Done) (s' : Tables) (rs' : List ℕ) : Type 0 where
  pub answer : r.answer ≡ d.answer
  pub session : r.session ≡ d.session
  pub after : s' ≡ d.after
  pub report : rs' ≡ over d.words rs

-- nothing but the answer is left of a deed
pub record OnlyAnswers (d : Deed) (session : Session) (s : Tables) : Type 0 where
  pub session_stays : d.session ≡ session
  pub tables_stay : d.after ≡ s
  pub no_words : d.words ≡ []
