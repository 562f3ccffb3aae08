-- Laws of specs/Sessions.antt: the parts of what a line does, put together. Assumes nothing.
use Prim.Native.Nat.{ℕ, ◌≤◌}
use mathlib.Core.Path.{◌≡◌, refl, sym, ap, ◌∙◌}
use mathlib.Core.Logic.{◌≢◌}
use mathlib.Core.List.{List, []}
use mathlib.Core.Bool.{Bool, true, false, cond, not}
use native.Mathlib.Omega.{arith}
use lib.Dec.{eqb}
use borrow.Author.Tests.{eq-eqb, ne_eqb, eqb-false}
use lib.ListN.{length}
use lib.Seq.{length-take-le}
use Rattle.words.specs.Words.{Form, of_lines, sizes_in_bounds}
use Rattle.words.specs.Lists.{over}
use Rattle.words.proofs.ListLaws.{over_none}
use Rattle.words.proofs.WordLaws.{sizes_in_bounds_true}
use Rattle.words.proofs.BoolLaws.{not_is_false}
use Rattle.rules.specs.Tables.{Tables, part_of, put_back, fresh}
use Rattle.rules.specs.Refusals.{fresh_refusal, first}
use Rattle.rules.specs.StepContracts.{freshened, Freshens, Gives}
use Rattle.rules.specs.Steps.{Outcome}
use Rattle.rules.specs.declared.Answer.{Answer}
use Rattle.rules.specs.declared.Answer.TheVariants.{Opened, Refused}
use Rattle.rules.proofs.RefusalLaws.{first_past}
use Rattle.step_kinds.specs.declared.Kind.{Kind}
use Rattle.text_forms.specs.declared.LineForm.{LineForm}
use Rattle.text_forms.specs.declared.LineForm.TheVariants as F
use Rattle.text_forms.specs.declared.BadLine.{BadLine}
use Rattle.std.specs.Prelude.{Result, Ok, Err}
use Rattle.line_session.specs.declared.Session.{Session}
use Rattle.line_session.specs.declared.Session.TheVariants.{Unopened, Open}
use Rattle.line_session.specs.declared.Done.{Done}
use Rattle.line_session.specs.Sessions.{Deed, refused_by, opened, open_deed, unopened_deed, in_part, open_outcome}
use Rattle.line_session.specs.Sessions.{part_outcome, deed_of, in_session, Does}

-- what was done to the parts that were lent was done to the first words of the tables
pub in_part_of : (T P : ℕ) (s : Tables) {o : Outcome} {s' : Tables} {rs rs' : List ℕ} {a : Answer}
    → Gives o rs a s' rs' → Gives (in_part T P s o) rs a (put_back T P s s') rs'
in_part_of T P s g = record { answer = g.answer; after = ap (put_back T P s) g.after; report = g.report }

-- ---- before a session is opened

refusal_number : (F : Form) (T P : ℕ) → fresh_refusal F T P ≡ 0 → sizes_in_bounds F T P ≡ true
unfolding fresh_refusal
refusal_number F T P e =
    let past = first_past 1 (not (sizes_in_bounds F T P)) [] (eqb-false 1 0 refl) e in
    not_is_false (sizes_in_bounds F T P) past.0

-- where an open is not refused, T and P are within their bounds
pub fresh_refusal_none : (T P : ℕ) → fresh_refusal of_lines T P ≡ 0
    → (T ≤ of_lines.most_tasks) × (P ≤ of_lines.most_promises)
fresh_refusal_none T P e =
    let s = sizes_in_bounds_true of_lines T P (refusal_number of_lines T P e) in
    (s.tasks, s.promises)

-- its one refusal is 1
pub fresh_refusal_most : (T P : ℕ) → fresh_refusal of_lines T P ≤ 1
unfolding fresh_refusal first
fresh_refusal_most T P = go (sizes_in_bounds of_lines T P)
  where
    go : (b : Bool) → cond (not b) 1 0 ≤ 1
    go true = omega arith
    go false = omega arith

pub does_refused : {d : Deed} (s : Tables) (session : Session) (a : Answer) {x : Done} → d ≡ refused_by a session s
    → x.answer ≡ a → x.session ≡ session → Does d [] x s []
does_refused s session a e q b = rw e (record { answer = q; session = b; after = refl; report = sym (over_none []) })

pub open_deed_refused : (s : Tables) (T P r : ℕ) → r ≡ fresh_refusal of_lines T P → r ≢ 0
    → open_deed s T P ≡ refused_by (Refused r) Unopened s
unfolding open_deed
open_deed_refused s T P r e n = rw (← e, ne_eqb r 0 n)

-- fresh tables of the parts that were lent are fresh tables of that size
freshened_part : (T P : ℕ) (s : Tables) → T ≤ length s.tasks → P ≤ length s.promises
    → fresh_refusal of_lines T P ≡ 0 → freshened of_lines (part_of T P s) ≡ fresh T P
unfolding freshened
freshened_part T P s h k e =
    rw (length-take-le T s.tasks h, length-take-le P s.promises k, eq-eqb (fresh_refusal of_lines T P) 0 e)

pub does_opened : (T P : ℕ) (s : Tables) {r : ℕ} {s' : Tables} {x : Done} → T ≤ length s.tasks
    → P ≤ length s.promises → fresh_refusal of_lines T P ≡ 0 → Freshens of_lines (part_of T P s) r s'
    → x.answer ≡ Opened → x.session ≡ Open T P → Does (open_deed s T P) [] x (put_back T P s s') []
unfolding open_deed
does_opened T P s h k e f a b =
    rw (eq-eqb (fresh_refusal of_lines T P) 0 e)
    (record {
      answer = a;
      session = b;
      after = ap (put_back T P s) (f.after ∙ freshened_part T P s h k e);
      report = sym (over_none []);
    })

-- a line before a session is opened writes no report
unopened_words : (f : Result LineForm BadLine) (s : Tables) → (unopened_deed f s).words ≡ []
unfolding unopened_deed open_deed
unopened_words (Ok (F.Open T P)) s = go (eqb (fresh_refusal of_lines T P) 0)
  where
    go : (b : Bool) → (cond b (opened T P s) (refused_by (Refused (fresh_refusal of_lines T P)) Unopened s)).words ≡ []
    go true = refl
    go false = refl
unopened_words (Ok (F.Step k t p n)) s = refl
unopened_words (Err c) s = refl

pub does_unopened : (f : Result LineForm BadLine) (vs : List ℕ) (s : Tables) (rs : List ℕ) (n : ℕ) {x : Done}
    {s' : Tables}
    → Does (unopened_deed f s) [] x s' [] → Does (deed_of f vs Unopened s n) rs x s' rs
unfolding deed_of
does_unopened f vs s rs n d = record {
  answer = d.answer;
  session = d.session;
  after = d.after;
  report = sym (ap (λ (ws : List ℕ). over ws rs) (unopened_words f s) ∙ over_none rs);
}

-- ---- in an open session

pub in_session_open : (T P : ℕ) → in_session (Open T P) ≡ true
    → (T ≤ of_lines.most_tasks) × (P ≤ of_lines.most_promises)
unfolding in_session
in_session_open T P e = let s = sizes_in_bounds_true of_lines T P e in (s.tasks, s.promises)

pub does_open : (f : Result LineForm BadLine) (vs : List ℕ) (s : Tables) (rs : List ℕ) (n T P : ℕ) {x : Done}
    {a : Answer} {s' : Tables} {rs' : List ℕ} → Gives (part_outcome f vs n T P s) rs a s' rs' → x.answer ≡ a
    → x.session ≡ Open T P → Does (deed_of f vs (Open T P) s n) rs x s' rs'
unfolding deed_of
does_open f vs s rs n T P d e g = record { answer = e ∙ d.answer; session = g; after = d.after; report = d.report }

-- a line does what it does with its own list, however the list was lent
pub deed_list : (f : Result LineForm BadLine) (vs vs' : List ℕ) (session : Session) (s : Tables) (n : ℕ)
    → ((k : Kind) (t p c : ℕ) → f ≡ Ok (F.Step k t p c) → vs ≡ vs')
    → deed_of f vs session s n ≡ deed_of f vs' session s n
unfolding deed_of open_outcome
deed_list f vs vs' Unopened s n h = refl
deed_list (Ok (F.Open T P)) vs vs' (Open T' P') s n h = refl
deed_list (Ok (F.Step k t p c)) vs vs' (Open T P) s n h = rw (h k t p c refl)
deed_list (Err c) vs vs' (Open T P) s n h = refl
