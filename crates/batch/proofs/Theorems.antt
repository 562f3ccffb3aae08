-- What is promised of a batch. F is any form whose owned and blamed words do not meet, list the lent list, s any
-- tables, rs any records, m the report's length and k that of the answers. Assumes nothing.
use Prim.Native.Nat.{ℕ, zero, suc}
use mathlib.Core.Path.{◌≡◌, refl, sym, ap, subst, ◌∙◌}
use mathlib.Core.List.{List, [], ◌∷◌}
use native.Mathlib.Omega.{arith}
use native.Mathlib.Decide.{ℕ_discrete}
use borrow.Author.Tests.{eqb-false}
use lib.ListN.{length, take}
use lib.Seq.{take_all}
use Rattle.words.specs.Words.{Form}
use Rattle.words.proofs.BoolLaws.{clash}
use Rattle.rules.specs.Tables.{Tables, room_of}
use Rattle.rules.specs.Steps.{Outcome}
use Rattle.rules.specs.Demands.{Apart, Good, FirstGiven, NoneGiven, Demand3}
use Rattle.rules.proofs.Kept.{fresh_good, good_step}
use Rattle.rules.proofs.Order.{first_given, given_first, none_first, given_number}
use Rattle.rules.proofs.RefusalLaws.{Numbered, row, no_row}
use Rattle.rules.proofs.Promises.{demand_3_of}
use Rattle.batch_record.specs.declared.Record.{Record}
use Rattle.batch_record.specs.Records.{raw_record, step_record}
use Rattle.batch.specs.Batches.{one_by_one, last_tables, Taken, none_left, next, call_rows, CallOutcome, done}
use Rattle.batch.specs.Batches.{refused, batched, numbered, Batches}
use Rattle.batch.specs.Reached.{Reached, from_fresh, by_step, by_call}
use Rattle.std.specs.Prelude.{Result, Ok, Err}
use Rattle.rules.specs.declared.Refusal.{Refusal}
use Rattle.rules.specs.Refusals.{refusal_number}
use Rattle.rules.proofs.RefusalLaws.{one_refusal}
use Rattle.batch.proofs.BatchLaws.{why, taken_all, refused_all, call_good}
use Rattle.batch.proofs.BatchLaws.{record_raw, record_good, record_lengths, record_step_good}

-- ---- the call

call_numbered : (F : Form) (s : Tables) (n m k : ℕ) → Numbered (call_rows F s n m k)
call_numbered F s n m k = row (eqb-false 1 0 refl) (row (eqb-false 2 0 refl) no_row)

module _ (F : Form) (list : List ℕ) (s : Tables) (rs : List Record) (m k : ℕ) where
  -- refused by q exactly when it is the number of the first row that applies: "T or P out of bounds, more than 256
  -- records or too little room is 1 for the call, with nothing written; damaged tables are 2 for the call"
  pub call_refused_by_the_first : (q : ℕ) → (batched F list s rs m k).answer ≡ Err q
      → FirstGiven q (call_rows F s (length rs) m k)
  call_refused_by_the_first q e = go (ℕ_discrete (why F list s rs m k) 0)
    where
      go : Dec (why F list s rs m k ≡ 0) → FirstGiven q (call_rows F s (length rs) m k)
      go (yes z) = let h : Ok _ ≡ Err q = sym
          (ap (λ (o : CallOutcome). o.answer) (taken_all F list s rs m k z)) ∙ e in clash cc
      go (no h) =
          let a : Err (why F list s rs m k) ≡ Err q = sym
          (ap (λ (o : CallOutcome). o.answer) (refused_all F list s rs m k h)) ∙ e in
          let b : why F list s rs m k ≡ q = cc in
          first_given (call_rows F s (length rs) m k) q (λ (z : q ≡ 0). h (b ∙ z)) b

  pub the_first_refuses_the_call : (q : ℕ) → FirstGiven q (call_rows F s (length rs) m k)
      → batched F list s rs m k ≡ refused q s
  the_first_refuses_the_call q g = refused_all F list s rs m k
      (λ (z : why F list s rs m k ≡ 0). given_number (call_numbered F s (length rs) m k) g (sym (given_first g) ∙ z))
      ∙ ap (λ (r : ℕ). refused r s) (given_first g)

-- ---- "Tables, answers and words must equal those of the same steps taken one by one, each with a report of its own."

module _ (F : Form) (apart : Apart F) (list : List ℕ) where
  taken_one_by_one : (own : ℕ) (s : Tables) (rs : List Record) (os : List Outcome) → own ≡ room_of s → Good F s
      → Taken F list s rs os → os ≡ one_by_one F own list s rs
  unfolding one_by_one
  taken_one_by_one own s [] [] e g none_left = refl
  taken_one_by_one own s [] (o ∷ os) e g t = elim t [ ]
  taken_one_by_one own s (r ∷ rs) [] e g t = elim t [ ]
  taken_one_by_one own s (r ∷ rs) (o ∷ os) e g (next n h t) =
      let x = record_raw F apart list s r g n h in
      let y = record_raw F apart list s r g own (omega arith) in
      let l = record_lengths F apart list s r g in
      let z = taken_one_by_one own (raw_record F list s r).after rs os (omega (arith, l.tasks, l.promises))
      (record_good F apart list s r g) (subst (λ (a : Outcome). Taken F list a.after rs os) x t) in
      rw (x, y) (ap (λ (l : List Outcome). raw_record F list s r ∷ l) z)

  pub the_same_one_by_one : (s : Tables) (rs : List Record) (m k : ℕ) (os : List Outcome)
      → NoneGiven (call_rows F s (length rs) m k) → Taken F list s rs os → batched F list s rs m k ≡ done s os
  the_same_one_by_one s rs m k os none t =
      let e = none_first none in
      let same = taken_one_by_one (room_of s) s rs os refl (call_good F s (length rs) m k e apart) t in
      taken_all F list s rs m k e ∙ ap (done s) (sym same)

  -- steps can be taken so from any tables
  pub taken_exist : (s : Tables) (rs : List Record) → (os : List Outcome) × Taken F list s rs os
  taken_exist s [] = ([], none_left)
  taken_exist s (r ∷ rs) =
      let n = room_of s in
      let (os, t) = taken_exist (step_record F n list s r).after rs in
      (step_record F n list s r ∷ os, next {s = s} n (omega arith) t)

  -- ---- "The soundness test runs once a call": each step finds good tables, so none is refused by 2

  pub each_finds_good_tables : (n : ℕ) (s : Tables) → Good F s → (rs : List Record) (i : ℕ)
      → Good F (last_tables s (one_by_one F n list s (take i rs)))
  unfolding one_by_one last_tables
  each_finds_good_tables n s g rs zero = g
  each_finds_good_tables n s g [] (suc i) = g
  each_finds_good_tables n s g (r ∷ rs) (suc i) =
      each_finds_good_tables n (step_record F n list s r).after (record_step_good F apart list s r g n) rs i

  pub a_call_leaves_good_tables : (s : Tables) (rs : List Record) (m k : ℕ) → Good F s
      → Good F (batched F list s rs m k).after
  a_call_leaves_good_tables s rs m k g = go (ℕ_discrete (why F list s rs m k) 0)
    where
      all_taken : Good F (last_tables s (one_by_one F (room_of s) list s rs))
      all_taken =
          subst (λ (l : List Record). Good F (last_tables s (one_by_one F (room_of s) list s l)))
          (take_all (length rs) rs (omega arith)) (each_finds_good_tables (room_of s) s g rs (length rs))

      go : Dec (why F list s rs m k ≡ 0) → Good F (batched F list s rs m k).after
      go (yes e) = subst (λ (o : CallOutcome). Good F o.after) (sym (taken_all F list s rs m k e)) all_taken
      go (no h) = subst (λ (o : CallOutcome). Good F o.after) (sym (refused_all F list s rs m k h)) g

-- ---- demand 3 after steps and calls

module _ (F : Form) (apart : Apart F) where
  reached_good : {s : Tables} → Reached F s → Good F s
  reached_good (from_fresh T P some most most') = fresh_good T P some F apart most most'
  reached_good (by_step {s = s} n x r) = good_step F apart n s x (reached_good r)
  reached_good (by_call {s = s} list rs m k r) = a_call_leaves_good_tables F apart list s rs m k (reached_good r)

  pub demand_3_after_calls : {s : Tables} → Reached F s → Demand3 F s
  demand_3_after_calls {s} r = demand_3_of F apart s (reached_good r)

-- ---- any two outcomes that the contract of a call allows coincide

one_answer : (c d : Result ℕ Refusal) → numbered c ≡ numbered d → c ≡ d
one_answer (Ok n) (Ok m) e = ap Ok cc
one_answer (Ok n) (Err r) e = cc
one_answer (Err r) (Ok m) e = cc
one_answer (Err r) (Err q) e = let k : refusal_number r ≡ refusal_number q = cc in ap Err (one_refusal r q k)

pub one_call : {o : CallOutcome} {rs ws : List ℕ} {c c' : Result ℕ Refusal} {s s' : Tables} {rep rep' ans ans' : List ℕ}
    → Batches o rs ws c s rep ans → Batches o rs ws c' s' rep' ans'
    → (c ≡ c') × (s ≡ s') × (rep ≡ rep') × (ans ≡ ans')
one_call g h = (
  one_answer _ _ (g.answer ∙ sym h.answer),
  g.after ∙ sym h.after,
  g.report ∙ sym h.report,
  g.answers
      ∙ sym h.answers,
)
