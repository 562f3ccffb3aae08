-- Laws of the answers that refuse (specs/Answers.antt, and `step_refused` and `entry_refused` of specs/Steps.antt), by
-- their cases: such an answer is a refusal and has the number that it was made from. Assumes nothing.
use mathlib.Core.Path.{◌≡◌, refl, sym, ap, ◌∙◌}
use mathlib.Core.Logic.{◌⊎◌, inl, inr, ◌≢◌}
use mathlib.Core.Bool.{Bool, true, false, cond}
use Prim.Native.Nat.{ℕ, ◌-◌, ◌≤◌, ◌<◌}
use native.Mathlib.Omega.{arith}
use lib.Dec.{eqb}
use borrow.Author.Tests.{eqb-true, eqb-false}
use lib.ListN.{get_or}
use Rattle.words.specs.Words.{Form}
use Rattle.rules.specs.Tables.{Tables}
use Rattle.rules.specs.Answers.{laid, number_of, value_of, values_of, accepted, answer_of}
use Rattle.rules.specs.Answers.{refused_with, refused_at_with}
use Rattle.rules.specs.Steps.{Step, step_new, step_set, step_get, step_async, step_end, step_refused}
use Rattle.rules.specs.Demands.{Refusal, plain, placed, blamed, blamed_at}
use Rattle.rules.specs.declared.Answer.{Answer}
use Rattle.rules.specs.declared.Answer.TheVariants.{Opened, Made, Set, Value, Blamed, Waits, Cycle, Started}
use Rattle.rules.specs.declared.Answer.TheVariants.{Ended, Refused, RefusedAt, RefusedBlamed, RefusedBlamedAt}

-- ---- an answer refuses, or it is told by a number from 100 on

pub record Accepted (a : Answer) : Type 0 where
  pub from_100 : 100 ≤ number_of a
  pub low : number_of a < 1000
  pub told : answer_of (number_of a) (values_of a) ≡ a
  pub read : get_or (accepted (value_of (laid a).first) (value_of (laid a).second)) (number_of a - 100) Opened ≡ a
  pub accepts : (laid a).refuses ≡ false

pub accepted_or_refused : (a : Answer) → Accepted a ⊎ Refusal a
unfolding laid answer_of
accepted_or_refused Opened =
    inl (record { from_100 = omega arith; low = omega arith; told = refl; read = refl; accepts = refl })
accepted_or_refused Made =
    inl (record { from_100 = omega arith; low = omega arith; told = refl; read = refl; accepts = refl })
accepted_or_refused (Set n) =
    inl (record { from_100 = omega arith; low = omega arith; told = refl; read = refl; accepts = refl })
accepted_or_refused Value =
    inl (record { from_100 = omega arith; low = omega arith; told = refl; read = refl; accepts = refl })
accepted_or_refused (Blamed b) =
    inl (record { from_100 = omega arith; low = omega arith; told = refl; read = refl; accepts = refl })
accepted_or_refused (Waits k) =
    inl (record { from_100 = omega arith; low = omega arith; told = refl; read = refl; accepts = refl })
accepted_or_refused (Cycle k) =
    inl (record { from_100 = omega arith; low = omega arith; told = refl; read = refl; accepts = refl })
accepted_or_refused Started =
    inl (record { from_100 = omega arith; low = omega arith; told = refl; read = refl; accepts = refl })
accepted_or_refused (Ended m n) =
    inl (record { from_100 = omega arith; low = omega arith; told = refl; read = refl; accepts = refl })
accepted_or_refused (Refused r) = inr (plain r)
accepted_or_refused (RefusedAt r i) = inr (placed r i)
accepted_or_refused (RefusedBlamed b) = inr (blamed b)
accepted_or_refused (RefusedBlamedAt i b) = inr (blamed_at i b)

-- ---- with a task to blame

pub with_by : (Q : Answer → Type 0) (b r : ℕ) → (r ≡ 17 → Q (RefusedBlamed b)) → (r ≢ 17 → Q (Refused r))
    → Q (refused_with b r)
unfolding refused_with
with_by Q b r told other = go (eqb r 17) refl
  where
    go : (x : Bool) → eqb r 17 ≡ x → Q (cond x (RefusedBlamed b) (Refused r))
    go true e = told (eqb-true r 17 e)
    go false e = other (eqb-false r 17 e)

pub at_with_by : (Q : Answer → Type 0) (b i r : ℕ) → (r ≡ 17 → Q (RefusedBlamedAt i b)) → (r ≢ 17 → Q (RefusedAt r i))
    → Q (refused_at_with b i r)
unfolding refused_at_with
at_with_by Q b i r told other = go (eqb r 17) refl
  where
    go : (x : Bool) → eqb r 17 ≡ x → Q (cond x (RefusedBlamedAt i b) (RefusedAt r i))
    go true e = told (eqb-true r 17 e)
    go false e = other (eqb-false r 17 e)

pub at_with_refuses : (b i r : ℕ) → Refusal (refused_at_with b i r)
at_with_refuses b i r = at_with_by Refusal b i r (λ e. blamed_at i b) (λ n. placed r i)

pub at_with_number : (b i r : ℕ) → number_of (refused_at_with b i r) ≡ r
unfolding laid
at_with_number b i r = at_with_by (λ (a : Answer). number_of a ≡ r) b i r (λ e. sym e) (λ n. refl)

at_with_place : (b i r : ℕ) → get_or (values_of (refused_at_with b i r)) 0 0 ≡ i
unfolding laid
at_with_place b i r = at_with_by (λ (a : Answer). get_or (values_of a) 0 0 ≡ i) b i r (λ e. refl) (λ n. refl)

at_with_task : (b i r : ℕ) → r ≡ 17 → get_or (values_of (refused_at_with b i r)) 1 0 ≡ b
unfolding laid
at_with_task b i r h = at_with_by (λ (a : Answer). get_or (values_of a) 1 0 ≡ b) b i r (λ e. refl) (λ n. absurd (n h))

-- the same answer has the same place and the same number, and, by 17, the same task
pub at_with_same : {b i r b' i' r' : ℕ} → refused_at_with b i r ≡ refused_at_with b' i' r'
    → (i ≡ i') × (r ≡ r') × (r ≡ 17 → b ≡ b')
at_with_same {b} {i} {r} {b'} {i'} {r'} e =
    let same : r ≡ r' = sym (at_with_number b i r) ∙ ap number_of e ∙ at_with_number b' i' r' in (
      sym (at_with_place b i r) ∙ ap (λ (a : Answer). get_or (values_of a) 0 0) e ∙ at_with_place b' i' r',
      same,
      λ h.
          sym (at_with_task b i r h) ∙ ap (λ (a : Answer). get_or (values_of a) 1 0) e
          ∙ at_with_task b' i' r' (sym same ∙ h),
    )

pub at_with_told : (b i r : ℕ) → r ≡ 17 → refused_at_with b i r ≡ RefusedBlamedAt i b
at_with_told b i r h = at_with_by (λ (a : Answer). a ≡ RefusedBlamedAt i b) b i r (λ e. refl) (λ n. absurd (n h))

pub at_with_plain : (b i r : ℕ) → r ≢ 17 → refused_at_with b i r ≡ RefusedAt r i
at_with_plain b i r n = at_with_by (λ (a : Answer). a ≡ RefusedAt r i) b i r (λ e. absurd (n e)) (λ m. refl)

-- ---- the answer that refuses a step by a number

pub step_refused_by : (Q : Answer → Type 0) (F : Form) (s : Tables) (x : Step) (r : ℕ)
    → ((b : ℕ) → r ≡ 17 → Q (RefusedBlamed b)) → Q (Refused r) → Q (step_refused F s x r)
step_refused_by Q F s (step_new t p) r told other = other
step_refused_by Q F s (step_set t p) r told other = with_by Q _ r (told _) (λ n. other)
step_refused_by Q F s (step_get t p) r told other = other
step_refused_by Q F s (step_async t c list) r told other = other
step_refused_by Q F s (step_end t) r told other = other

pub step_refused_refuses : (F : Form) (s : Tables) (x : Step) (r : ℕ) → Refusal (step_refused F s x r)
step_refused_refuses F s x r = step_refused_by Refusal F s x r (λ b e. blamed b) (plain r)

pub step_refused_number : (F : Form) (s : Tables) (x : Step) (r : ℕ) → number_of (step_refused F s x r) ≡ r
unfolding laid
step_refused_number F s x r = step_refused_by (λ (a : Answer). number_of a ≡ r) F s x r (λ b e. sym e) refl

-- 17 alone tells more than its number
pub step_refused_plain : (F : Form) (s : Tables) (x : Step) (r : ℕ) → r ≢ 17 → step_refused F s x r ≡ Refused r
step_refused_plain F s x r n = step_refused_by (λ (a : Answer). a ≡ Refused r) F s x r (λ b e. absurd (n e)) refl
