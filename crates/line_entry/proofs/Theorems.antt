-- What is promised of the line entry. Assumes nothing.
use Prim.Native.Nat.{ℕ}
use mathlib.Core.Path.{◌≡◌, refl, sym, ap, ◌∙◌}
use mathlib.Core.List.{List}
use mathlib.Core.Bool.{Bool, true, false, cond}
use lib.ListN.{length}
use Rattle.words.specs.Lists.{over}
use Rattle.words.proofs.ListLaws.{over_none}
use Rattle.rules.specs.Tables.{Tables}
use Rattle.rules.specs.Answers.{number_of}
use Rattle.std.proofs.Common.{Result}
use Rattle.rules.specs.Demands.{Refusal as Refuses}
use Rattle.rules.specs.declared.Refusal.{Refusal}
use Rattle.text_forms.specs.Forms.{ColumnOf}
use Rattle.text_forms.specs.Judging.{line_form, entries_of}
use Rattle.text_forms.proofs.Theorems.{bad_column, column_found}
use Rattle.line_session.specs.declared.Session.{Session}
use Rattle.line_session.specs.Sessions.{Deed, refused_at_column, refused_by, OnlyAnswers}
use Rattle.line_session.proofs.Theorems.{a_refused_line_only_answers, a_bad_line_only_gets_its_column}
use Rattle.line_session.proofs.Theorems.{only_a_bad_line_gets_14}
use Rattle.line_entry.specs.declared.Entered.{Entered}
use Rattle.line_entry.specs.Lines.{lent_well, line_deed, entered, not_entered, Entry, Enters, entry_of}
use Rattle.line_entry.specs.Lines.{OnlyAnswerLine}

-- A REFUSED LINE ONLY GETS ITS ANSWER LINE
pub a_refused_line_only_gets_its_answer_line : (line : List ℕ) (n : ℕ) (session : Session) (st : Tables)
    (rs out : List ℕ) → Refuses (line_deed line session st (length rs)).answer
    → OnlyAnswerLine (entry_of line n session st rs out) session st rs
unfolding entry_of
a_refused_line_only_gets_its_answer_line line n session st rs out r =
    go (lent_well n session st (length rs) (length out))
  where
    d : Deed
    d = line_deed line session st (length rs)

    only : OnlyAnswers d session st
    only = a_refused_line_only_answers (line_form line) (entries_of line) session st (length rs) r

    go : (b : Bool) → OnlyAnswerLine (cond b (entered n rs out d) (not_entered session st rs out)) session st rs
    go true = record {
      session_stays = only.session_stays;
      tables_stay = only.tables_stay;
      report_stays = ap (λ (ws : List ℕ). over ws rs) only.no_words ∙ over_none rs;
    }
    go false = record { session_stays = refl; tables_stay = refl; report_stays = refl }

-- ---- 02, request 1: "Say where a line went bad"

-- A BAD LINE IS TOLD ITS COLUMN, in whatever session, and is only told that; `placed_text` in the proofs of answer_text
-- says how its answer line reads
pub a_bad_line_is_told_its_column : (line : List ℕ) {c : ℕ} → ColumnOf line c → (n : ℕ) (session : Session)
    (st : Tables) (rs out : List ℕ) → lent_well n session st (length rs) (length out) ≡ true
    → entry_of line n session st rs out ≡ entered n rs out (refused_by (refused_at_column c) session st)
unfolding entry_of
a_bad_line_is_told_its_column line {c} k n session st rs out w =
    rw (w, column_found line k, a_bad_line_only_gets_its_column c (entries_of line) session st (length rs))

-- NO OTHER LINE IS ANSWERED BY 14
pub only_a_bad_line_is_answered_by_14 : (line : List ℕ) (session : Session) (st : Tables) (n : ℕ)
    → number_of (line_deed line session st n).answer ≡ 14 → (c : ℕ) × ColumnOf line c
only_a_bad_line_is_answered_by_14 line session st n e =
    let (c, b) = only_a_bad_line_gets_14 (line_form line) (entries_of line) session st n e in
    (c, bad_column line c b)

-- 01, "How much each contract must say": any two outcomes that the contract of `enter` allows coincide
pub enters_unique : {e : Entry} {r q : Result Entered Refusal} {st st' : Tables} {rs rs' out out' : List ℕ}
    → Enters e r st rs out → Enters e q st' rs' out' → (r ≡ q) × (st ≡ st') × (rs ≡ rs') × (out ≡ out')
enters_unique g h = (
  g.told ∙ sym h.told,
  g.after ∙ sym h.after,
  g.report ∙ sym h.report,
  g.answer ∙ sym h.answer,
)
