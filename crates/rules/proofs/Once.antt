-- "A number is used once in a session": no step turns a word that is not 0 into 0, since no move does. So what was made
-- or used stays so after any steps, from any tables, and is not made or started again. Assumes nothing.
use mathlib.Core.Path.{◌≡◌, sym, ap, ◌∙◌}
use mathlib.Core.Logic.{◌⊎◌, inr, ◌≢◌}
use mathlib.Core.List.{List, [], ◌∷◌}
use Prim.Native.Nat.{ℕ, ◌≤◌}
use native.Mathlib.Omega.{arith}
use lib.ListN.{length}
use Rattle.words.specs.Words.{Form, unused_word, unmade_word, first_owned}
use Rattle.rules.specs.Tables.{Tables, task_at, promise_at}
use Rattle.rules.specs.Chains.{View, view}
use Rattle.rules.specs.Refusals.{first, child_rows}
use Rattle.rules.specs.Steps.{step_new, step_async, actor, rows, effect, step, LentStep, run}
use Rattle.rules.specs.Demands.{Apart, Refusal}
use Rattle.rules.proofs.Accepted.{Took, stayed, moved}
use Rattle.rules.proofs.Kept.{took_step}
use Rattle.rules.proofs.Moves.{TaskMove, t_same, t_woken, t_started, t_ended, t_waits, PromiseMove, p_same}
use Rattle.rules.proofs.Moves.{p_made, p_set, p_blamed, p_moved}
use Rattle.rules.proofs.Policy.{refused_or, refused_unless, forbidden_refused}
use Rattle.rules.proofs.RefusalLaws.{actor_rows_none, child_rows_none}

-- ---- one word

task_used : (P B : ℕ) (s s' : View) (t v : ℕ) → TaskMove P B s s' t v → s.task v ≢ unused_word → s'.task v ≢ unused_word
task_used P B s s' t v (t_same e) h z = h (sym e ∙ z)
task_used P B s s' t v (t_woken p a b c) h z = omega arith
task_used P B s s' t v (t_started a b) h z = omega arith
task_used P B s s' t v (t_ended e a) h z = omega arith
task_used P B s s' t v (t_waits p b e a) h z = omega arith

promise_made : (T B : ℕ) → first_owned ≤ B → (s s' : View) (t q : ℕ) → PromiseMove T B s s' t q
    → s.promise q ≢ unmade_word → s'.promise q ≢ unmade_word
promise_made T B f s s' t q (p_same e) h z = h (sym e ∙ z)
promise_made T B f s s' t q (p_made a b) h z = omega arith
promise_made T B f s s' t q (p_set a b) h z = omega arith
promise_made T B f s s' t q (p_blamed a b c) h z = omega arith
promise_made T B f s s' t q (p_moved c x a b g) h z = omega arith

-- ---- one step, and any steps

module _ (F : Form) (apart : Apart F) where
  task_by : (s s' : Tables) (t : ℕ) → Took F.base s t s' → (v : ℕ) → task_at s v ≢ unused_word
      → task_at s' v ≢ unused_word
  task_by s s' t (stayed e) v h = λ z. h (sym (ap (λ (x : Tables). task_at x v) e) ∙ z)
  task_by s s' t (moved l m) v h =
      task_used (length s.promises) F.base (view s) (view s') t v (m.moves.task v) h

  promise_by : (s s' : Tables) (t : ℕ) → Took F.base s t s' → (q : ℕ)
      → promise_at s q ≢ unmade_word → promise_at s' q ≢ unmade_word
  promise_by s s' t (stayed e) q h = λ z. h (sym (ap (λ (x : Tables). promise_at x q) e) ∙ z)
  promise_by s s' t (moved l m) q h =
      promise_made (length s.tasks) F.base (omega (arith, apart)) (view s) (view s') t q (m.moves.prom q) h

  -- after any steps, from any tables and each with a report of its own, a task that was used is used
  pub task_stays_used : (s : Tables) (xs : List LentStep) (t : ℕ) → task_at s t ≢ unused_word
      → task_at (run F s xs) t ≢ unused_word
  task_stays_used s [] t h = h
  task_stays_used s ((n, x) ∷ xs) t h =
      let s' = (step F n s x).after in
      task_stays_used s' xs t (task_by s s' (actor x) (took_step F apart n s x) t h)

  -- and a promise that was made is made
  pub promise_stays_made : (s : Tables) (xs : List LentStep) (p : ℕ)
      → promise_at s p ≢ unmade_word → promise_at (run F s xs) p ≢ unmade_word
  promise_stays_made s [] p h = h
  promise_stays_made s ((n, x) ∷ xs) p h =
      let s' = (step F n s x).after in
      promise_stays_made s' xs p (promise_by s s' (actor x) (took_step F apart n s x) p h)

  -- ---- and so it is not made or started again

  -- a new of a promise that was made is refused, after any steps
  pub made_once : (s : Tables) (p : ℕ) → promise_at s p ≢ unmade_word → (xs : List LentStep) (n t : ℕ)
      → Refusal (step F n (run F s xs) (step_new t p)).answer
  made_once s p h xs n t =
      forbidden_refused F n (run F s xs) (step_new t p) (λ fresh. fresh (promise_stays_made s xs p h))

  -- an async of a child that was used is refused
  used_refused : (n : ℕ) (s : Tables) (t c : ℕ) (list : List ℕ) → task_at s c ≢ unused_word
      → Refusal (step F n s (step_async t c list)).answer
  used_refused n s t c list h =
      refused_unless (refused_or F n s (step_async t c list) (task_at s c ≡ unused_word) unused) h
    where
      unused : first (rows F s (step_async t c list)) ≡ 0
          → Refusal (effect F s (step_async t c list)).answer ⊎ (task_at s c ≡ unused_word)
      unused z =
          let (act, z₁) = actor_rows_none s.tasks t (child_rows s.tasks c) z in
          inr (child_rows_none s.tasks c z₁).1

  -- and so after any steps
  pub started_once : (s : Tables) (c : ℕ) → task_at s c ≢ unused_word → (xs : List LentStep) (n t : ℕ) (list : List ℕ)
      → Refusal (step F n (run F s xs) (step_async t c list)).answer
  started_once s c h xs n t list = used_refused n (run F s xs) t c list (task_stays_used s xs c h)
