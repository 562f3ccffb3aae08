-- How many words a step reports: as many as its answer counts, and at most P + 2T, whatever the tables hold. Assumes
-- nothing.
use Prim.Native.Nat.{ℕ, zero, suc, ◌+◌, ◌*◌, ◌-◌, ◌≤◌, ◌<◌}
use mathlib.Core.Path.{◌≡◌, refl}
use mathlib.Core.List.{List, []}
use mathlib.Core.Bool.{Bool, true, false, cond}
use native.Mathlib.Omega.{arith}
use lib.Dec.{eqb, leb}
use lib.ListN.{length, length-append}
use Rattle.words.specs.Words.{Form, room_for, set_word, first_owned, waits_on, owned_by}
use Rattle.words.specs.Lists.{is, places}
use Rattle.words.proofs.ListLaws.{places_length}
use Rattle.rules.specs.Tables.{Tables, promise_at}
use Rattle.rules.specs.Chains.{View, view, awaited_by, owner_of}
use Rattle.rules.specs.Sound.{Hop, ready, lost, to, hop}
use Rattle.rules.specs.Answers.{laid, word_count}
use Rattle.rules.specs.Steps.{Step, step_new, step_set, step_get, step_async, step_end, Outcome, outcome, Found}
use Rattle.rules.specs.Steps.{astray, back, free, walk, walk_by, walk_from, pairs, awaits, followed, got}
use Rattle.rules.specs.Steps.{step_refused, entry_refused, effect, raw, step}
use Rattle.rules.specs.declared.Answer.{Answer}
use Rattle.rules.specs.declared.Answer.TheVariants.{Value, Blamed}
use Rattle.rules.proofs.GuardLaws.{guarded_by, got_cases, started_by}
use Rattle.rules.proofs.AnswerLaws.{at_with_by, step_refused_by}

pub pairs_length : (k : ℕ) (s : View) (t p : ℕ) → length (pairs k s t p) ≡ 2 * k
unfolding pairs
pairs_length zero s t p = refl
pairs_length (suc k) s t p = omega (arith, pairs_length k s (owner_of s p) (awaited_by s (owner_of s p)))

-- ---- the owners that a walk reaches are at most its bound: each hop uses up one

-- the number of owners that a walk answers with; 0 where the way is lost
abbrev pub reached : Found → ℕ
reached astray = 0
reached (back k) = k
reached (free k) = k

-- from the k-th owner on, with a bound of n
pub walk_reached : (n T : ℕ) (s : View) (t u k : ℕ) → 0 < k → reached (walk n T s t u k) < k + n
unfolding walk
walk_reached zero T s t u k h = omega arith
walk_reached (suc n) T s t u k h = go (eqb u t) (hop T s u) (λ x. walk_reached n T s t x (suc k) (omega arith))
  where
    go : (b : Bool) (j : Hop) → ((x : ℕ) → reached (walk n T s t x (suc k)) < suc k + n)
        → reached (walk_by b j k (λ x. walk n T s t x (suc k))) < k + suc n
    go true j rec = omega arith
    go false ready rec = omega arith
    go false lost rec = omega arith
    go false (to x) rec = omega (arith, rec x)

-- ---- as many as the answer counts

abbrev Counted : Outcome → Type 0
Counted o = length o.words ≡ word_count o.answer

-- a refusal has no words
refused_counted : (F : Form) (s : Tables) (x : Step) (r : ℕ) → Counted (outcome (step_refused F s x r) s [])
unfolding laid
refused_counted F s x r = step_refused_by (λ (a : Answer). 0 ≡ word_count a) F s x r (λ b e. refl) refl

entry_counted : (B : ℕ) (s : Tables) (t : ℕ) (list : List ℕ) (i : ℕ)
    → Counted (outcome (entry_refused B s t list i) s [])
unfolding laid
entry_counted B s t list i = at_with_by (λ (a : Answer). 0 ≡ word_count a) _ i _ (λ e. refl) (λ n. refl)

effect_counted : (F : Form) (s : Tables) (x : Step) → Counted (effect F s x)
unfolding laid
effect_counted F s (step_new t p) = refl
effect_counted F s (step_set t p) = omega arith
effect_counted F s (step_get t p) =
    got_cases Counted F.base s t p (promise_at s p) refl (λ b. refl) (λ k. omega (arith, pairs_length k (view s) t p))
    (λ k. refl)
effect_counted F s (step_async t c list) =
    started_by Counted F.base s t c list _ (λ h. entry_counted F.base s t list _) (λ h. refl)
effect_counted F s (step_end t) =
    omega (
      arith,
      length-append (places (is (owned_by t)) 0 s.promises) (places (awaits s.promises (owned_by t)) 0 s.tasks),
    )

pub raw_counted : (F : Form) (s : Tables) (x : Step) → Counted (raw F s x)
raw_counted F s x = guarded_by Counted _ _ s _ (λ m. refused_counted F s x _) (λ z. effect_counted F s x)

pub step_counted : (F : Form) (n : ℕ) (s : Tables) (x : Step) → Counted (step F n s x)
unfolding laid
step_counted F n s x = guarded_by Counted _ _ s _ (λ m. refl) (λ z. raw_counted F s x)

-- ---- at most P + 2T

module _ (F : Form) (s : Tables) where
  abbrev HasRoom : Outcome → Type 0
  HasRoom o = length o.words ≤ room_for (length s.tasks) (length s.promises)

  got_room : (t p w : ℕ) → HasRoom (got F.base s t p w)
  unfolding got followed
  got_room t p w =
      go (eqb w set_word) (leb F.base w) (walk_from s t (w - first_owned))
      (walk_reached (length s.tasks) (length s.tasks) (view s) t (w - first_owned) 1 (omega arith))
    where
      go : (x y : Bool) (f : Found) → reached f < 1 + length s.tasks
          → HasRoom (cond x (outcome Value s []) (cond y (outcome (Blamed (w - F.base)) s []) (followed s t p f)))
      go true y f h = omega arith
      go false true f h = omega arith
      go false false (back k) h = omega (arith, pairs_length k (view s) t p)
      go false false (free k) h = omega arith
      go false false astray h = omega arith

  effect_room : (x : Step) → HasRoom (effect F s x)
  effect_room (step_new t p) = omega arith
  effect_room (step_set t p) = omega (arith, places_length (is (waits_on p)) 0 s.tasks)
  effect_room (step_get t p) = got_room t p (promise_at s p)
  effect_room (step_async t c list) = started_by HasRoom F.base s t c list _ (λ h. omega arith) (λ h. omega arith)
  effect_room (step_end t) =
      rw length-append
      (omega (
        arith,
        places_length (is (owned_by t)) 0 s.promises,
        places_length (awaits s.promises (owned_by t)) 0 s.tasks,
      ))

  pub raw_room : (x : Step) → HasRoom (raw F s x)
  raw_room x = guarded_by HasRoom _ _ s _ (λ m. omega arith) (λ z. effect_room x)

  pub step_room : (n : ℕ) (x : Step) → HasRoom (step F n s x)
  step_room n x = guarded_by HasRoom _ _ s _ (λ m. omega arith) (λ z. raw_room x)
