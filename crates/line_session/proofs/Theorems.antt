-- What is promised of a line in a session. Assumes nothing.
use Prim.Native.Nat.{ℕ}
use mathlib.Core.Path.{◌≡◌, refl, ap, sym, ◌∙◌}
use mathlib.Core.List.{List, []}
use mathlib.Core.Bool.{Bool, true, false, cond, not}
use native.Mathlib.Omega.{arith}
use lib.Dec.{eqb, ltb}
use borrow.Author.Tests.{eq-eqb, lt-ltb}
use Rattle.words.specs.Words.{of_lines}
use Rattle.words.proofs.BoolLaws.{true_is_not_false}
use Rattle.rules.specs.Tables.{Tables, part_of, put_back}
use Rattle.rules.specs.Answers.{laid, number_of, values_of, refusal_of, answer_of}
use Rattle.rules.specs.Refusals.{fresh_refusal}
use Rattle.rules.specs.Steps.{Step, Outcome, outcome, step}
use Rattle.rules.specs.Demands.{Refusal}
use Rattle.rules.specs.declared.Answer.{Answer}
use Rattle.rules.specs.declared.Answer.TheVariants.{Opened, Refused}
use Rattle.rules.proofs.BoundsLaws.{put_back_same}
use Rattle.rules.proofs.Order.{refusal_passes}
use Rattle.rules.proofs.Told.{step_told}
use Rattle.rules.proofs.Promises.{a_number_below_100_refuses, a_refusal_changes_nothing}
use Rattle.steps.specs.Named.{step_by}
use Rattle.text_forms.specs.declared.LineForm.{LineForm}
use Rattle.text_forms.specs.declared.LineForm.TheVariants as F
use Rattle.text_forms.specs.declared.BadLine.{BadLine}
use Rattle.text_forms.specs.Judging.{at_column}
use Rattle.std.specs.Prelude.{Result, Ok, Err}
use Rattle.line_session.specs.declared.Session.{Session}
use Rattle.line_session.specs.declared.Session.TheVariants.{Unopened, Open}
use Rattle.line_session.specs.declared.Done.{Done}
use Rattle.line_session.proofs.SessionLaws.{fresh_refusal_most}
use Rattle.line_session.specs.Sessions.{Deed, refused_at_column, refused_by, opened, stepped, in_part, open_deed}
use Rattle.line_session.specs.Sessions.{unopened_deed, open_outcome, deed_of, Does, OnlyAnswers}

-- what an open is answered, whether it is accepted or not
abbrev opened_by : ℕ → ℕ → Tables → Bool → Deed
opened_by T P s b = cond b (opened T P s) (refused_by (Refused (fresh_refusal of_lines T P)) Unopened s)

refused_unopened : (a : Answer) (s : Tables) → OnlyAnswers (refused_by a Unopened s) Unopened s
refused_unopened a s = record { session_stays = refl; tables_stay = refl; no_words = refl }

-- an outcome that leaves the first words of the tables leaves the tables
stepped_same : (T P : ℕ) (s : Tables) (o : Outcome) → o.after ≡ part_of T P s → o.words ≡ []
    → OnlyAnswers (stepped T P (in_part T P s o)) (Open T P) s
stepped_same T P s o e w = record {
  session_stays = refl;
  tables_stay = ap (put_back T P s) e ∙ put_back_same T P s;
  no_words = w;
}

-- A REFUSED LINE ONLY GETS ITS ANSWER LINE: it changes no session value, no table and no report
pub a_refused_line_only_answers : (f : Result LineForm BadLine) (vs : List ℕ) (session : Session) (s : Tables) (n : ℕ)
    → Refusal (deed_of f vs session s n).answer → OnlyAnswers (deed_of f vs session s n) session s
unfolding deed_of unopened_deed open_deed open_outcome
a_refused_line_only_answers (Ok (F.Open T P)) vs Unopened s n r = go (eqb (fresh_refusal of_lines T P) 0) r
  where
    go : (b : Bool) → Refusal (opened_by T P s b).answer → OnlyAnswers (opened_by T P s b) Unopened s
    go true r = elim r [ ]
    go false r = refused_unopened (Refused (fresh_refusal of_lines T P)) s
a_refused_line_only_answers (Ok (F.Step k t p c)) vs Unopened s n r = refused_unopened (Refused 15) s
a_refused_line_only_answers (Err c) vs Unopened s n r = refused_unopened (refused_at_column c.column) s
a_refused_line_only_answers f vs (Open T P) s n r = in_session_lem f r
  where
    part : Tables
    part = part_of T P s

    taken : (x : Step) → let o = step of_lines n part x in
        Refusal o.answer → OnlyAnswers (stepped T P (in_part T P s o)) (Open T P) s
    taken x r =
        let u = a_refusal_changes_nothing of_lines n part x r in
        stepped_same T P s (step of_lines n part x) u.0 u.1

    in_session_lem : (f : Result LineForm BadLine) → let o = open_outcome f vs n part in
        Refusal o.answer → OnlyAnswers (stepped T P (in_part T P s o)) (Open T P) s
    in_session_lem (Ok (F.Open T' P')) r = stepped_same T P s (outcome (Refused 15) part []) refl refl
    in_session_lem (Ok (F.Step k t p c)) r = taken (step_by k t p vs) r
    in_session_lem (Err c) r = stepped_same T P s (outcome (refused_at_column c.column) part []) refl refl

-- no line but an accepted open changes the session value
pub only_open_opens : (f : Result LineForm BadLine) (vs : List ℕ) (session : Session) (s : Tables) (n : ℕ)
    → ((deed_of f vs session s n).answer ≡ Opened → ⊥) → (deed_of f vs session s n).session ≡ session
unfolding deed_of unopened_deed open_deed
only_open_opens (Ok (F.Open T P)) vs Unopened s n h = go (eqb (fresh_refusal of_lines T P) 0) h
  where
    go : (b : Bool) → ((opened_by T P s b).answer ≡ Opened → ⊥) → (opened_by T P s b).session ≡ Unopened
    go true h = absurd (h refl)
    go false h = refl
only_open_opens (Ok (F.Step k t p c)) vs Unopened s n h = refl
only_open_opens (Err c) vs Unopened s n h = refl
only_open_opens f vs (Open T P) s n h = refl

-- A LINE THAT GOES BAD ONLY GETS ITS COLUMN
pub a_bad_line_only_gets_its_column : (column : ℕ) (vs : List ℕ) (session : Session) (s : Tables) (n : ℕ)
    → deed_of (Err (at_column column)) vs session s n ≡ refused_by (refused_at_column column) session s
unfolding deed_of unopened_deed open_outcome
a_bad_line_only_gets_its_column column vs Unopened s n = refl
a_bad_line_only_gets_its_column column vs (Open T P) s n =
    ap (refused_by (refused_at_column column) (Open T P)) (put_back_same T P s)

-- ---- 14 is the line's own number

step_not_14 : {A : Type 0} (n : ℕ) (s : Tables) (x : Step) → number_of (step of_lines n s x).answer ≡ 14 → A
step_not_14 n s x e =
    let w : Refusal (step of_lines n s x).answer = a_number_below_100_refuses of_lines n s x (omega arith) in
    let q = refusal_passes (λ r. not (eqb r 14)) refl of_lines n s x w in
    true_is_not_false (sym q ∙ ap not (eq-eqb (number_of (step of_lines n s x).answer) 14 e))

-- ONLY A LINE THAT GOES BAD IS REFUSED BY 14
pub only_a_bad_line_gets_14 : (f : Result LineForm BadLine) (vs : List ℕ) (session : Session) (s : Tables) (n : ℕ)
    → number_of (deed_of f vs session s n).answer ≡ 14 → (column : ℕ) × (f ≡ Err (at_column column))
unfolding deed_of unopened_deed open_deed open_outcome laid
only_a_bad_line_gets_14 (Ok (F.Open T P)) vs Unopened s n e = go (eqb (fresh_refusal of_lines T P) 0) e
  where
    go : (b : Bool) → number_of (opened_by T P s b).answer ≡ 14
        → (column : ℕ) × (◌≡◌ {A = Result LineForm BadLine} (Ok (F.Open T P)) (Err (at_column column)))
    go true e = absurd (omega arith)
    go false e = absurd (omega (arith, fresh_refusal_most T P))
only_a_bad_line_gets_14 (Ok (F.Step k t p c)) vs Unopened s n e = absurd (omega arith)
only_a_bad_line_gets_14 (Err c) vs Unopened s n e = (c.column, refl)
only_a_bad_line_gets_14 (Ok (F.Open T' P')) vs (Open T P) s n e = absurd (omega arith)
only_a_bad_line_gets_14 (Ok (F.Step k t p c)) vs (Open T P) s n e =
    step_not_14 n (part_of T P s) (step_by k t p vs) e
only_a_bad_line_gets_14 (Err c) vs (Open T P) s n e = (c.column, refl)

-- ---- 01: "Where an answer is an enum, a definition gives this paper's number and values for each of its cases"

-- WHATEVER A LINE DOES, ITS ANSWER'S NUMBER AND VALUES TELL THE ANSWER BACK, and it refuses exactly if the number is
-- below 100
pub a_line's_answer_is_told : (f : Result LineForm BadLine) (vs : List ℕ) (session : Session) (s : Tables) (n : ℕ)
    → let a = (deed_of f vs session s n).answer in
    (answer_of (number_of a) (values_of a) ≡ a) × ((laid a).refuses ≡ ltb (number_of a) 100)
unfolding deed_of unopened_deed open_deed open_outcome laid answer_of refusal_of
a_line's_answer_is_told (Ok (F.Open T P)) vs Unopened s n = go (eqb (fresh_refusal of_lines T P) 0)
  where
    below : ltb (fresh_refusal of_lines T P) 100 ≡ true
    below = lt-ltb (fresh_refusal of_lines T P) 100 (omega (arith, fresh_refusal_most T P))

    go : (b : Bool) → let a = (opened_by T P s b).answer in
        (answer_of (number_of a) (values_of a) ≡ a) × ((laid a).refuses ≡ ltb (number_of a) 100)
    go true = (refl, refl)
    go false = rw below (refl, refl)
a_line's_answer_is_told (Ok (F.Step k t p c)) vs Unopened s n = (refl, refl)
a_line's_answer_is_told (Err c) vs Unopened s n = (refl, refl)
a_line's_answer_is_told (Ok (F.Open T' P')) vs (Open T P) s n = (refl, refl)
a_line's_answer_is_told (Ok (F.Step k t p c)) vs (Open T P) s n =
    step_told of_lines n (part_of T P s) (step_by k t p vs)
a_line's_answer_is_told (Err c) vs (Open T P) s n = (refl, refl)

-- 01, "How much each contract must say": any two outcomes that the contract of `act` allows coincide
pub act_unique : {d : Deed} {rs : List ℕ} {p q : Done} {s s' : Tables} {rs₁ rs₂ : List ℕ} → Does d rs p s rs₁
    → Does d rs q s' rs₂ → (p.answer ≡ q.answer) × (p.session ≡ q.session) × (s ≡ s') × (rs₁ ≡ rs₂)
act_unique g h = (
  g.answer ∙ sym h.answer,
  g.session ∙ sym h.session,
  g.after ∙ sym h.after,
  g.report ∙ sym h.report,
)
