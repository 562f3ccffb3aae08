-- A word says one thing: any two readings of it coincide. Assumes nothing.
use Prim.Native.Nat.{ℕ, ◌-◌}
use mathlib.Core.Path.{◌≡◌, sym, ap, ◌∙◌}
use mathlib.Core.Bool.{cond}
use native.Mathlib.Omega.{arith}
use lib.Dec.{eqb, leb}
use borrow.Author.Tests.{lt-leb, le-leb, ne_eqb}
use Rattle.words.specs.Words.{unused_word, ready_word, ended_word, first_wait}
use Rattle.words.specs.Words.{unmade_word, set_word, first_owned, small}
use Rattle.words.specs.States.{ReadsTask, ReadsPromise}
use Rattle.words.specs.declared.TaskState.{TaskState}
use Rattle.words.specs.declared.TaskState.TheVariants.{Unused, Ready, Ended, Waits}
use Rattle.words.specs.declared.PromiseState.{PromiseState}
use Rattle.words.specs.declared.PromiseState.TheVariants.{Unmade, Set, Owned, Blamed}
use Rattle.words.specs.declared.TaskState.TheVariants.{Damaged as DamagedTask}
use Rattle.words.specs.declared.PromiseState.TheVariants.{Damaged as DamagedPromise}

-- the readings, as functions that compute
task_state : ℕ → TaskState
task_state w =
    cond (eqb w unused_word) Unused
    (cond (eqb w ready_word) Ready
    (cond (eqb w ended_word) Ended (cond (leb first_wait w) (Waits (w - first_wait)) DamagedTask)))

promise_state : ℕ → PromiseState
promise_state w =
    cond (eqb w unmade_word) Unmade
    (cond (eqb w set_word) Set
    (cond (leb small.base w) (Blamed (w - small.base))
    (cond (leb first_owned w) (Owned (w - first_owned)) DamagedPromise)))

is_task_state : (w : ℕ) (s : TaskState) → ReadsTask w s → s ≡ task_state w
unfolding task_state
is_task_state w Unused e = rw e
is_task_state w Ready e = rw e
is_task_state w Ended e = rw e
is_task_state w (Waits p) e =
    rw (
      ne_eqb w 0 (omega (arith, e)),
      ne_eqb w 1 (omega (arith, e)),
      ne_eqb w 2 (omega (arith, e)),
      le-leb 16 w (omega (arith, e)),
    )
    (ap Waits (omega (arith, e)))
is_task_state w DamagedTask e =
    rw (ne_eqb w 0 (omega (arith, e)), ne_eqb w 1 (omega (arith, e)), ne_eqb w 2 (omega (arith, e)), lt-leb 16 w e.1)

is_promise_state : (w : ℕ) (s : PromiseState) → ReadsPromise w s → s ≡ promise_state w
unfolding promise_state
is_promise_state w Unmade e = rw e
is_promise_state w Set e = rw e
is_promise_state w (Owned t) e =
    rw (
      ne_eqb w 0 (omega (arith, e.0)),
      ne_eqb w 1 (omega (arith, e.0)),
      lt-leb 80 w e.1,
      le-leb 16 w (omega (arith, e.0)),
    )
    (ap Owned (omega (arith, e.0)))
is_promise_state w (Blamed t) e =
    rw (ne_eqb w 0 (omega (arith, e)), ne_eqb w 1 (omega (arith, e)), le-leb 80 w (omega (arith, e)))
    (ap Blamed (omega (arith, e)))
is_promise_state w DamagedPromise e =
    rw (ne_eqb w 0 (omega (arith, e)), ne_eqb w 1 (omega (arith, e)), lt-leb 80 w (omega (arith, e)), lt-leb 16 w e.1)

pub one_task_state : (w : ℕ) (s s' : TaskState) → ReadsTask w s → ReadsTask w s' → s ≡ s'
one_task_state w s s' e f = is_task_state w s e ∙ sym (is_task_state w s' f)

pub one_promise_state : (w : ℕ) (s s' : PromiseState) → ReadsPromise w s → ReadsPromise w s' → s ≡ s'
one_promise_state w s s' e f = is_promise_state w s e ∙ sym (is_promise_state w s' f)
