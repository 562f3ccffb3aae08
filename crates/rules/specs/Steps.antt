-- The five steps: what each answers, the tables after it, and the report words. Paper: 01, "The five steps"; 02, 3/13
-- and 4/13.
--
--   Step                             a step with its numbers
--   Outcome                          the answer, the tables after it, and the words that the report then begins with
--   with_made .. with_ended          the tables after an accepted step
--   waiters_on s p                   who waits on p: what a set reports
--   omitted_by s t, waiters_for s t  what t owns, and who waits on one of these: what its end reports
--   walk, Found                      following owners, on behalf of a get
--   pairs k s t p                    the pairs of a ring
--   rows F s x                       the refusals from 3 on, of each step
--   step_refused F s x r             the answer that refuses the step by r
--   entry_refused B s t l i          the answer that refuses an async for the entry i of its list
--   effect F s x                     what the step does where none of them applies
--   raw F s x, step F n s x the rules without and with refusals 1 and 2; n is the report's length
--   untested F n s x                 the rules without the soundness test
--   LentStep                         a step, and the length of the report that it is lent
--   ran f s xs                       the tables after the steps xs, each with a report of its own length, taken by
--                                    the rules f
--   run F s xs                       the same by the rules
-- Assumes nothing.
use Rattle.std.specs.Prelude.{ℕ, zero, suc, ◌-◌, List, [], ◌∷◌, ◌++◌, Bool, true, false, cond, ◌&&◌, eqb, leb, ltb}
use Rattle.std.specs.Prelude.{length, get_or, set}
use Rattle.words.specs.Words.{Form, ready_word, ended_word, waits_on, first_wait, set_word, owned_by, first_owned}
use Rattle.words.specs.Words.{blamed_on}
use Rattle.words.specs.Lists.{is, places, replaced}
use Rattle.rules.specs.Tables.{Tables, with_tasks, with_promises, with_words, promise_at, waiting, blamed_task}
use Rattle.rules.specs.Chains.{View, view, awaited_by, owner_of}
use Rattle.rules.specs.Sound.{Hop, ready, lost, to, hop}
use Rattle.rules.specs.Answers.{by_number, refused_with, refused_at_with}
use Rattle.rules.specs.Refusals.{Row, first, bounds_rows, table_rows, actor_rows, child_rows, new_rows, get_rows}
use Rattle.rules.specs.Refusals.{own_rows, entry_refusal, first_bad}
use Rattle.rules.specs.declared.Answer.{Answer}
use Rattle.rules.specs.declared.Answer.TheVariants.{Made, Set, Value, Blamed, Waits, Cycle, Started, Ended}

pub data Step : Type 0 where
  step_new step_set step_get : ℕ → ℕ → Step
  step_async : ℕ → ℕ → List ℕ → Step
  step_end : ℕ → Step

-- the acting task
abbrev pub actor : Step → ℕ
actor (step_new t p) = t
actor (step_set t p) = t
actor (step_get t p) = t
actor (step_async t c list) = t
actor (step_end t) = t

pub record Outcome : Type 0 where
  pub answer : Answer
  pub after : Tables
  pub words : List ℕ

abbrev pub outcome : Answer → Tables → List ℕ → Outcome
outcome a s ws = record { answer = a; after = s; words = ws }

-- ---- the tables after an accepted step

-- "p becomes owned by t"
abbrev pub with_made : Tables → ℕ → ℕ → Tables
with_made s t p = with_promises s (set s.promises p (owned_by t))

-- "p becomes set and every task that waits on p becomes ready"
abbrev pub with_set : Tables → ℕ → Tables
with_set s p = with_words s (replaced (is (waits_on p)) ready_word s.tasks) (set s.promises p set_word)

-- "t now waits on p"
abbrev pub with_wait : Tables → ℕ → ℕ → Tables
with_wait s t p = with_tasks s (set s.tasks t (waits_on p))

-- "every listed promise passes from t to c"
unfoldable pub given : ℕ → List ℕ → List ℕ → List ℕ
given w [] ps = ps
given w (q ∷ list) ps = given w list (set ps q w)

-- "child c becomes ready and every listed promise passes from t to c"
abbrev pub with_started : Tables → ℕ → List ℕ → Tables
with_started s c list = with_words s (set s.tasks c ready_word) (given (owned_by c) list s.promises)

-- a task with the word w waits on a promise whose word is v
unfoldable pub awaits : List ℕ → ℕ → ℕ → Bool
awaits ps v w = waiting w && eqb (get_or ps (w - first_wait) 0) v

-- "t becomes ended. Each promise it owns becomes blamed on t, awaited or not (an omitted set). Each task that waits on
-- one of these becomes ready."
abbrev pub with_ended : ℕ → Tables → ℕ → Tables
with_ended B s t =
    with_words s
    (set (replaced (awaits s.promises (owned_by t)) ready_word s.tasks) t ended_word)
    (replaced (is (owned_by t)) (blamed_on B t) s.promises)

-- ---- whom a set and an end report

-- "every task that waits on p"
abbrev pub waiters_on : Tables → ℕ → List ℕ
waiters_on s p = places (is (waits_on p)) 0 s.tasks

-- "Each promise it owns", "Each task that waits on one of these"
abbrev pub omitted_by : Tables → ℕ → List ℕ
omitted_by s t = places (is (owned_by t)) 0 s.promises

abbrev pub waiters_for : Tables → ℕ → List ℕ
waiters_for s t = places (awaits s.promises (owned_by t)) 0 s.tasks

-- ---- following owners

-- back to the asker, or to another ready task, with the number of owners reached; in damaged tables the way may be lost
pub data Found : Type 0 where
  astray : Found
  back free : ℕ → Found

abbrev pub walk_by : Bool → Hop → ℕ → (ℕ → Found) → Found
walk_by true h k on = back k
walk_by false ready k on = free k
walk_by false lost k on = astray
walk_by false (to u) k on = on u

-- "follow owners from p: t1 owns p, t2 owns what t1 awaits, and so on, until t or a ready task": from u, the k-th owner
-- reached, at most n of them. 000, Algorithm 2, lines 5 to 13: the loop ends at the asker (line 7) or at a task that
-- awaits nothing (line 10), and else goes on to the owner of what u awaits (lines 12 and 13). Line 8, no owner: for p
-- itself `got` has answered, and nobody awaits such a promise in sound tables. Line 11 has nothing to catch: a step is
-- one undivided action.
unfoldable pub walk : ℕ → ℕ → View → ℕ → ℕ → ℕ → Found
walk zero T s t u k = astray
walk (suc n) T s t u k = walk_by (eqb u t) (hop T s u) k (λ x. walk n T s t x (suc k))

-- "k pairs: t and p, then each next task on the way and what it awaits, up to the one that awaits a promise of t"
unfoldable pub pairs : ℕ → View → ℕ → ℕ → List ℕ
pairs zero s t p = []
pairs (suc k) s t p = t ∷ p ∷ pairs k s (owner_of s p) (awaited_by s (owner_of s p))

-- "If t is reached, answer cycle k, the owners reached, t included. The tables stay unchanged and t stays ready. If a
-- ready task other than t is reached, t now waits on p; answer waits k, the owners reached." Sound tables lead nobody
-- astray; without the test of them such a wait is entered. 000, Algorithm 2: where the assert of line 15 fails, the
-- mark of line 3 is cleared (line 18), so here it is never written; where it holds, t blocks (line 16), marked.
unfoldable pub followed : Tables → ℕ → ℕ → Found → Outcome
followed s t p (back k) = outcome (Cycle k) s (pairs k (view s) t p)
followed s t p (free k) = outcome (Waits k) (with_wait s t p) []
followed s t p astray = outcome (Waits (length s.tasks)) (with_wait s t p) []

-- from u, which owns p
abbrev pub walk_from : Tables → ℕ → ℕ → Found
walk_from s t u = walk (length s.tasks) (length s.tasks) (view s) t u 1

abbrev pub asked_of : Tables → ℕ → ℕ → Outcome
asked_of s t p = followed s t p (walk_from s t (owner_of (view s) p))

-- "if p is set, answer value. If p is blamed on b, answer blamed b. Otherwise follow owners from p"
unfoldable pub got : ℕ → Tables → ℕ → ℕ → ℕ → Outcome
got B s t p w =
    cond (eqb w set_word) (outcome Value s [])
    (cond (leb B w) (outcome (Blamed (w - B)) s [])
    (followed s t p (walk_from s t (w - first_owned))))

-- ---- the steps

-- "Each refusal returns its number (and place) and writes to no table and no report." a is the answer that returns a
-- number.
unfoldable pub guarded : (ℕ → Answer) → ℕ → Tables → Outcome → Outcome
guarded a r s o = cond (eqb r 0) o (outcome (a r) s [])

-- the answer that refuses an async for entry i of its list: "17 with the blamed task (and for async the place before
-- it)"
abbrev pub entry_refused : ℕ → Tables → ℕ → List ℕ → ℕ → Answer
entry_refused B s t list i = refused_at_with (blamed_task B s (get_or list i 0)) i (entry_refusal B s.promises t list i)

-- async, where i is the first bad place of the list. "Async moves all or nothing."
unfoldable pub started : ℕ → Tables → ℕ → ℕ → List ℕ → ℕ → Outcome
started B s t c list i =
    cond (ltb i (length list))
    (outcome (entry_refused B s t list i) s [])
    (outcome Started (with_started s c list) [])

-- the refusals of each step, after 1 and 2 and before those of a list entry
abbrev pub rows : Form → Tables → Step → List Row
rows F s (step_new t p) = actor_rows s.tasks t ++ new_rows s.promises p
rows F s (step_set t p) = actor_rows s.tasks t ++ own_rows F.base s.promises t p
rows F s (step_get t p) = actor_rows s.tasks t ++ get_rows s.promises p
rows F s (step_async t c list) = actor_rows s.tasks t ++ child_rows s.tasks c
rows F s (step_end t) = actor_rows s.tasks t

-- the answer that refuses a step by r, one of its rows: "A set .. on a blamed promise must tell the blamed task"
abbrev pub step_refused : Form → Tables → Step → ℕ → Answer
step_refused F s (step_new t p) r = by_number r
step_refused F s (step_set t p) r = refused_with (blamed_task F.base s p) r
step_refused F s (step_get t p) r = by_number r
step_refused F s (step_async t c list) r = by_number r
step_refused F s (step_end t) r = by_number r

-- what a step answers, does and reports
abbrev pub effect : Form → Tables → Step → Outcome
effect F s (step_new t p) = outcome Made (with_made s t p) []
effect F s (step_set t p) = outcome (Set (length (waiters_on s p))) (with_set s p) (waiters_on s p)
effect F s (step_get t p) = got F.base s t p (promise_at s p)
effect F s (step_async t c list) =
    started F.base s t c list (first_bad (entry_refusal F.base s.promises t list) (length list) 0)
effect F s (step_end t) =
    outcome (Ended (length (omitted_by s t)) (length (waiters_for s t))) (with_ended F.base s t)
    (omitted_by s t ++ waiters_for s t)

-- the rules without refusals 1 and 2
abbrev pub raw : Form → Tables → Step → Outcome
raw F s x = guarded (step_refused F s x) (first (rows F s x)) s (effect F s x)

-- "Every step tests soundness before all but the bounds of refusal 1."
abbrev pub step : Form → ℕ → Tables → Step → Outcome
step F n s x = guarded by_number (first (table_rows F n s)) s (raw F s x)

-- 02, 4/13: "the step rules, read without the soundness test"
abbrev pub untested : Form → ℕ → Tables → Step → Outcome
untested F n s x = guarded by_number (first (bounds_rows F n s)) s (raw F s x)

-- the length of the report comes first; too short a one gives refusal 1 among the steps
abbrev pub LentStep : Type 0
LentStep = ℕ × Step

abbrev pub ran : (ℕ → Tables → Step → Outcome) → Tables → List LentStep → Tables
ran f s [] = s
ran f s ((n, x) ∷ xs) = ran f (f n s x).after xs

abbrev pub run : Form → Tables → List LentStep → Tables
run F s xs = ran (step F) s xs
