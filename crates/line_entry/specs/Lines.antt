-- The line entry. Paper: 01, "Lines".
--
--   lent_well n session s n' l     the line number, the session value and the lengths of what is lent are as they
--                                  must be
--   line_deed line session s n     what a line does
--   Entry, entry_of ..             the number, the session value, the tables, the report, the answer line and its
--                                  length after a line
--   held_line x n                  the line that a buffer x gathered, of which n bytes were counted; reply_of x n is
--                                  its entry
--   told_of e                      what a call tells of the entry e
--   Enters ..                      a call answered and left these
--   OnlyAnswerLine e session s rs  the entry e has an answer line and leaves all else
-- Assumes nothing.
use Rattle.std.specs.Prelude.{ℕ, suc, ◌≡◌, List, Bool, cond, ◌&&◌, eqb, leb, ltb, length, take, replicate}
use Rattle.std.specs.Prelude.{Result, Ok, Err}
use Rattle.rules.specs.declared.Refusal.{Refusal}
use Rattle.rules.specs.declared.Refusal.TheVariants.{OutOfBounds}
use Rattle.words.specs.Words.{last_line, longest_line, longest_answer, of_lines, line_report}
use Rattle.words.specs.Lists.{over}
use Rattle.rules.specs.Tables.{Tables}
use Rattle.text_forms.specs.Judging.{line_form, entries_of}
use Rattle.answer_text.specs.AnswerText.{answer_text}
use Rattle.line_session.specs.declared.Session.{Session}
use Rattle.line_session.specs.Sessions.{in_session, Deed, deed_of}
use Rattle.line_entry.specs.declared.Entered.{Entered}

-- "a line number (1 to 999999), a session value .., tables of exactly 64 and 256 words, a report of exactly 384 words
-- and an answer line of at least 2,048 bytes"
unfoldable pub lent_well : ℕ → Session → Tables → ℕ → ℕ → Bool
lent_well n session st report out =
    (leb 1 n && leb n last_line)
    && in_session session
    && (eqb (length st.tasks) of_lines.most_tasks && eqb (length st.promises) of_lines.most_promises)
    && (eqb report line_report && leb longest_answer out)

-- ---- the entry

-- n is the report's length
abbrev pub line_deed : List ℕ → Session → Tables → ℕ → Deed
line_deed line session st n = deed_of (line_form line) (entries_of line) session st n

pub record Entry : Type 0 where
  pub number : ℕ
  pub session : Session
  pub after : Tables
  pub report : List ℕ
  pub out : List ℕ
  pub bytes : ℕ

-- "Anything else in these gives refusal 1 by number alone, nothing written and the session value unchanged."
abbrev pub not_entered : Session → Tables → List ℕ → List ℕ → Entry
not_entered session st rs out = record { number = 1; session = session; after = st; report = rs; out = out; bytes = 0 }

-- "Otherwise one answer line is made .. bytes after its LF stay."
abbrev pub entered : ℕ → List ℕ → List ℕ → Deed → Entry
entered n rs out d = record {
  number = 0;
  session = d.session;
  after = d.after;
  report = over d.words rs;
  out = over (answer_text n d.answer (over d.words rs)) out;
  bytes = length (answer_text n d.answer (over d.words rs));
}

unfoldable pub entry_of : List ℕ → ℕ → Session → Tables → List ℕ → List ℕ → Entry
entry_of line n session st rs out =
    cond (lent_well n session st (length rs) (length out))
    (entered n rs out (line_deed line session st (length rs)))
    (not_entered session st rs out)

-- A line that a buffer x gathered, of which n bytes were counted. Of one that the buffer has no room for any line that
-- is too long will do, for all of them have one answer: "passes over the rest of a longer line (one refusal 14)".
unfoldable pub held_line : List ℕ → ℕ → List ℕ
held_line x n = cond (ltb (length x) n) (replicate (suc longest_line) 0) (take n x)

abbrev pub reply_of : List ℕ → ℕ → ℕ → Session → Tables → List ℕ → List ℕ → Entry
reply_of x n = entry_of (held_line x n)

-- the refusal of the number 1, or else the session value and the answer line's length
unfoldable pub told_of : Entry → Result Entered Refusal
told_of e = cond (eqb e.number 0) (Ok (record { session = e.session; bytes = e.bytes })) (Err OutOfBounds)

pub record Enters (e : Entry) (r : Result Entered Refusal) (st : Tables) (rs out : List ℕ) : Type 0 where
  pub told : r ≡ told_of e
  pub after : st ≡ e.after
  pub report : rs ≡ e.report
  pub answer : out ≡ e.out

-- nothing but the answer line is left of an entry
pub record OnlyAnswerLine (e : Entry) (session : Session) (st : Tables) (rs : List ℕ) : Type 0 where
  pub session_stays : e.session ≡ session
  pub tables_stay : e.after ≡ st
  pub report_stays : e.report ≡ rs
