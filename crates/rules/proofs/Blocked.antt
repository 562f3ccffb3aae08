-- A get blocks until the promise is closed (000, Definition 2.1; 001, section 3.2, rule 3): in any tables a step leaves
-- the word of a task that waits on p, or closes p and makes the task ready. By the five steps in turn. Assumes nothing.
use mathlib.Core.Path.{◌≡◌, ap, ◌∙◌}
use mathlib.Core.Logic.{◌⊎◌, inl, inr, ◌≢◌}
use mathlib.Core.Bool.{true}
use Prim.Native.Nat.{ℕ, ◌<◌}
use native.Mathlib.Omega.{arith}
use native.Mathlib.Decide.{ℕ_discrete}
use lib.Dec.{eqb}
use borrow.Author.Tests.{eq-eqb, le-leb}
use lib.ListN.{length}
use lib.Seq.{get_or-set_same, get_or-set_other}
use Rattle.words.specs.Words.{Form, unused_word, ready_word, waits_on, set_word, owned_by, blamed_on}
use Rattle.words.proofs.BoolLaws.{or_left, or_right}
use Rattle.rules.specs.Tables.{Tables, task_at, promise_at, closed}
use Rattle.rules.specs.Refusals.{first, table_rows}
use Rattle.rules.specs.Steps.{Step, with_set, with_ended, raw, step}
use Rattle.rules.proofs.Accepted.{Did, nothing, made, was_set, waited, began, has_ended, did_raw}
use Rattle.rules.proofs.GuardLaws.{guarded_is}
use Rattle.rules.proofs.StepMoves.{set_hit, set_miss, blame_hit, end_hit, end_miss}

closed_set : (B w : ℕ) → w ≡ set_word → closed B w ≡ true
closed_set B w e = or_left _ _ (eq-eqb w set_word e)

closed_blamed : (B w t : ℕ) → w ≡ blamed_on B t → closed B w ≡ true
closed_blamed B w t e = or_right (eqb w set_word) _ (le-leb B w (omega arith))

module _ (F : Form) (s : Tables) (v p : ℕ) (w : task_at s v ≡ waits_on p) where
  -- v still waits on p, or p is closed and v is ready
  abbrev Blocked : Tables → Type 0
  Blocked s' = (task_at s' v ≡ waits_on p) ⊎ ((task_at s' v ≡ ready_word) × (closed F.base (promise_at s' p) ≡ true))

  -- whoever is ready or unused is not v
  not_waiter : (t : ℕ) → (task_at s t ≡ ready_word) ⊎ (task_at s t ≡ unused_word) → v ≢ t
  not_waiter t (inl r) e = omega (arith, ap (task_at s) e)
  not_waiter t (inr r) e = omega (arith, ap (task_at s) e)

  by_set : (q : ℕ) → q < length s.promises → Dec (p ≡ q) → Blocked (with_set s q)
  by_set q h (yes y) =
      inr (
        set_hit s q v (w ∙ ap waits_on y),
        closed_set F.base _ (ap (promise_at (with_set s q)) y ∙ get_or-set_same s.promises q set_word 0 h),
      )
  by_set q h (no y) = inl (set_miss s q v (λ (u : task_at s v ≡ waits_on q). y (omega arith)) ∙ w)

  by_end : (t : ℕ) → v ≢ t → Dec (promise_at s p ≡ owned_by t) → Blocked (with_ended F.base s t)
  by_end t h (yes o) =
      inr (end_hit F.base s t v h (p, w, o), closed_blamed F.base _ t (blame_hit F.base s t p o))
  by_end t h (no n) = inl (end_miss F.base s t v h (λ k. other k.0 k.1 k.2) ∙ w)
    where
      other : (q : ℕ) → task_at s v ≡ waits_on q → promise_at s q ≡ owned_by t → ⊥
      other q x o = let e : p ≡ q = omega arith in n (ap (promise_at s) e ∙ o)

  by_step : {x : Step} {s' : Tables} → Did F.base s x s' → Blocked s'
  by_step nothing = inl w
  by_step (made a b c) = inl w
  by_step (was_set {p = q} a b c) = by_set q b (ℕ_discrete p q)
  by_step (waited {t = t} {p = q} k a b m e) =
      inl (get_or-set_other s.tasks t v (waits_on q) 0 (not_waiter t (inl a.ready)) ∙ w)
  by_step (began {c = c} a b d good) = inl (get_or-set_other s.tasks c v ready_word 0 (not_waiter c (inr d)) ∙ w)
  by_step (has_ended {t = t} a) = by_end t (not_waiter t (inl a.ready)) (ℕ_discrete (promise_at s p) (owned_by t))

  -- a step leaves the word of a task that waits on p, or closes p and makes the task ready
  pub blocks : (n : ℕ) (x : Step) → Blocked (step F n s x).after
  blocks n x = guarded_is _ (first (table_rows F n s)) s (raw F s x) Blocked (inl w) (λ z. by_step (did_raw F s x))
