-- The published ownership policy, read off the tables. Source document 001, section 3.2, rules 1 to 8: a set D of
-- declared promises, a set F of fulfilled ones, and a map `owner`. 000, Definition 2.2, rules 1 to 4, are its rules 4
-- to 7. proofs/Policy.antt shows that each accepted step does what its rules say, and that a step whose rules `assert`
-- what does not hold is refused. Rule 6 is the exception: what follows an omitted set is the paper's own (01, "end").
--
--   Declared s p, Fulfilled s p, Owner s p t  p is in D, p is in F, owner(p) = t
--   NewRule, SetRule, SpawnRule, GetRule      what rules 1 to 5, 7 and 8 say of the tables before and after
--   EndRule                                   rule 6: nothing changes where nothing is owned
--   Asserted s x                              what the rules of the step x assert of the tables before
-- Assumes nothing.
use Rattle.std.specs.Prelude.{ℕ, ◌≡◌, ◌≢◌, List}
use Rattle.words.specs.Words.{unmade_word, set_word, owned_by}
use Rattle.words.specs.Lists.{In}
use Rattle.rules.specs.Tables.{Tables, promise_at}
use Rattle.rules.specs.Steps.{Step, step_new, step_set, step_get, step_async, step_end}
use Rattle.rules.specs.declared.Answer.{Answer}
use Rattle.rules.specs.declared.Answer.TheVariants.{Value}

abbrev pub Declared : Tables → ℕ → Type 0
Declared s p = promise_at s p ≢ unmade_word

abbrev pub Fulfilled : Tables → ℕ → Type 0
Fulfilled s p = promise_at s p ≡ set_word

abbrev pub Owner : Tables → ℕ → ℕ → Type 0
Owner s p t = promise_at s p ≡ owned_by t

-- every promise but those of P reads as before: D, F and owner agree there
abbrev pub Elsewhere : Tables → Tables → (ℕ → Type 0) → Type 0
Elsewhere s s' P = (q : ℕ) → (P q → ⊥) → promise_at s' q ≡ promise_at s q

-- 1. "Creating a promise adds it to D. It is an error to re-create a promise." 4. "the creating task is the initial
-- owner of the promise"
pub record NewRule (s s' : Tables) (t p : ℕ) : Type 0 where
  pub fresh : Declared s p → ⊥
  pub owner : Owner s' p t
  pub others : Elsewhere s s' (λ q. q ≡ p)

-- 2. "Setting a promise adds it to F. It is an error to set a promise twice or to set a promise that has not been
-- created." 7. "It is an error for a task to set a promise that it does not own. After setting, the promise is owned by
-- no task."
pub record SetRule (s s' : Tables) (t p : ℕ) : Type 0 where
  pub declared : Declared s p
  pub unfulfilled : Fulfilled s p → ⊥
  pub owner : Owner s p t
  pub fulfilled : Fulfilled s' p
  pub others : Elsewhere s s' (λ q. q ≡ p)

-- 5. "the promises in the async annotation have their ownership transferred to the new task .. It is an error if any of
-- those promises is not currently owned by the parent task."
pub record SpawnRule (s s' : Tables) (t c : ℕ) (list : List ℕ) : Type 0 where
  pub owner : (q : ℕ) → In q list → Owner s q t
  pub handed : (q : ℕ) → In q list → Owner s' q c
  pub others : Elsewhere s s' (λ q. In q list)

-- 3. "Awaiting a promise can proceed only once the promise is found to be in F. It is an error to await a promise that
-- has not been created." 8. "Awaiting a promise has no affect on ownership state." The answer a is value exactly when p
-- is in F: otherwise the get does not proceed, as in 000, Definition 2.1, "get p blocks".
pub record GetRule (s s' : Tables) (p : ℕ) (a : Answer) : Type 0 where
  pub declared : Declared s p
  pub proceeds : a ≡ Value → Fulfilled s p
  pub fulfilled : Fulfilled s p → a ≡ Value
  pub same : (q : ℕ) → promise_at s' q ≡ promise_at s q

-- 6. "When a task terminates, it is an error if its set of owned promises is not empty": where it is empty, nothing
-- changes
pub record EndRule (s s' : Tables) (t : ℕ) : Type 0 where
  pub same : ((q : ℕ) → Owner s q t → ⊥) → (q : ℕ) → promise_at s' q ≡ promise_at s q

-- 1. "assert p ∉ D" 2. "assert p ∈ D \ F" 3. "assert p ∈ D" 5. "assert ∀i, owner(p_i) = t" 7. "assert owner(p) = t"
abbrev pub Asserted : Tables → Step → Type 0
Asserted s (step_new t p) = Declared s p → ⊥
Asserted s (step_set t p) = Declared s p × (Fulfilled s p → ⊥) × Owner s p t
Asserted s (step_get t p) = Declared s p
Asserted s (step_async t c list) = (q : ℕ) → In q list → Owner s q t
Asserted s (step_end t) = Unit {0}  -- an omitted set is named, not refused
