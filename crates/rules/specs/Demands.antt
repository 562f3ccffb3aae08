-- What is demanded of the rules, as statements. The theorems stand in proofs/Promises.antt.
--
--   Apart F                        a form whose owned and blamed words do not meet
--   Good F s                       tables whose sizes fit, and sound
--   numbers rows, paper_rows x     the numbers of the rows; those of the paper's table
--   paper_numbers x, step_numbers  all numbers that a step, and that any step, may be refused by
--   FirstGiven r rows              r is the number of the first row that applies
--   NoneGiven rows                 none of the rows applies
--   BadPlace B ps t list r i       i is the first bad place of an async list of t, and its refusal is r
--   Refusal a, HowRefused F s x a  a is a refusal; it refuses the step x by a row, or for an entry of a list
--   OwnersFrom s p l               l are the owners that follow from p, to a ready task
--   LeadsTo s t v p ws             from v, which waits on p, the pairs ws lead to t
--   Stands s t p ws                the ring of the pairs ws stands: from t, which waits on p, they lead back to t
--   Alarm, Wait, Named, Woken      what an alarm, a wait, an end, a set means
--   Demand3 F s                    demand 3, of the tables s
--   had_waited F s t p xs          the tables, had t waited on p and the steps xs followed, without the soundness
--                                  test
--   Pair u q ws                    u and q are a pair of the report ws
--   RunsInto s ws v                the chain of v runs into the ring of the pairs ws
-- Assumes nothing.
use Rattle.std.specs.Prelude.{◌≡◌, ◌≢◌, List, [], ◌∷◌, ◌++◌, true, false, ℕ, suc, ◌+◌, ◌≤◌, ◌<◌, length, take}
use Rattle.words.specs.Words.{Form, ready_word, ended_word, waits_on, set_word, first_owned, owned_by, blamed_on}
use Rattle.words.specs.Lists.{In, Rising}
use Rattle.rules.specs.Tables.{Tables, sizes_fit, room_of, task_at, promise_at, Live, live_tasks}
use Rattle.rules.specs.Chains.{Chain, chain_end, waits}
use Rattle.rules.specs.Sound.{Sound}
use Rattle.rules.specs.Answers.{refused_at_with}
use Rattle.rules.specs.Refusals.{Row, entry_rows}
use Rattle.rules.specs.Steps.{Step, step_new, step_set, step_get, step_async, step_end, actor, Outcome, with_wait}
use Rattle.rules.specs.Steps.{step_refused, step, untested, LentStep, ran, run}
use Rattle.rules.specs.declared.Answer.{Answer}
use Rattle.rules.specs.declared.Answer.TheVariants.{Ended, Refused, RefusedAt, RefusedBlamed, RefusedBlamedAt}

abbrev pub Apart : Form → Type 0
Apart F = first_owned + F.most_tasks ≤ F.base

pub record Good (F : Form) (s : Tables) : Type 0 where
  pub sizes : sizes_fit F s ≡ true
  pub sound : Sound F.base s

-- ---- demand 1: "Bad input is refused by number in a fixed order; a refusal changes no table and no report"

-- the numbers of the rows
abbrev pub numbers : List Row → List ℕ
numbers [] = []
numbers ((r, applies) ∷ rows) = r ∷ numbers rows

-- the paper's table, from the top, and its last column: which refusals a step has, and in which order; 02, 3/13, puts
-- 17 directly after 9
abbrev pub paper_rows : Step → List ℕ
paper_rows (step_new t p) = 1 ∷ 2 ∷ 3 ∷ 4 ∷ 5 ∷ 6 ∷ 7 ∷ []
paper_rows (step_set t p) = 1 ∷ 2 ∷ 3 ∷ 4 ∷ 5 ∷ 6 ∷ 8 ∷ 9 ∷ 17 ∷ 10 ∷ []
paper_rows (step_get t p) = 1 ∷ 2 ∷ 3 ∷ 4 ∷ 5 ∷ 6 ∷ 8 ∷ []
paper_rows (step_async t c list) = 1 ∷ 2 ∷ 3 ∷ 4 ∷ 5 ∷ 11 ∷ 12 ∷ []
paper_rows (step_end t) = 1 ∷ 2 ∷ 3 ∷ 4 ∷ 5 ∷ []

-- "each entry is tried for 6, 8, 9, 10, 13 in turn", and for 17 directly after 9
abbrev pub paper_entry_rows : List ℕ
paper_entry_rows = 6 ∷ 8 ∷ 9 ∷ 17 ∷ 10 ∷ 13 ∷ []

-- every number that the step may be refused by
abbrev pub paper_numbers : Step → List ℕ
paper_numbers (step_new t p) = paper_rows (step_new t p)
paper_numbers (step_set t p) = paper_rows (step_set t p)
paper_numbers (step_get t p) = paper_rows (step_get t p)
paper_numbers (step_async t c list) = paper_rows (step_async t c list) ++ paper_entry_rows
paper_numbers (step_end t) = paper_rows (step_end t)

-- every number that some step may be refused by
abbrev pub step_numbers : List ℕ
step_numbers = 1 ∷ 2 ∷ 3 ∷ 4 ∷ 5 ∷ 6 ∷ 7 ∷ 8 ∷ 9 ∷ 10 ∷ 11 ∷ 12 ∷ 13 ∷ 17 ∷ []

pub data FirstGiven (r : ℕ) : List Row → Type 0 where
  now : {rows : List Row} → FirstGiven r ((r, true) ∷ rows)
  later : {q : ℕ} {rows : List Row} → FirstGiven r rows → FirstGiven r ((q, false) ∷ rows)

-- none of the rows applies
pub data NoneGiven : List Row → Type 0 where
  no_row : NoneGiven []
  not_this : {q : ℕ} {rows : List Row} → NoneGiven rows → NoneGiven ((q, false) ∷ rows)

-- "the list is read from its first entry; .. the first bad one gives its refusal with its place, counted from 0"
pub record BadPlace (B : ℕ) (ps : List ℕ) (t : ℕ) (list : List ℕ) (r i : ℕ) : Type 0 where
  pub within : i < length list
  pub earlier : (j : ℕ) → j < i → NoneGiven (entry_rows B ps t list j)
  pub given : FirstGiven r (entry_rows B ps t list i)

pub data Refusal : Answer → Type 0 where
  plain : (r : ℕ) → Refusal (Refused r)
  placed : (r i : ℕ) → Refusal (RefusedAt r i)
  blamed : (b : ℕ) → Refusal (RefusedBlamed b)
  blamed_at : (i b : ℕ) → Refusal (RefusedBlamedAt i b)

-- the answer a refuses the step x by a row of its table, or, of an async, for an entry of its list
pub data HowRefused (F : Form) (s : Tables) (x : Step) : Answer → Type 0 where
  by_row : (r : ℕ) → HowRefused F s x (step_refused F s x r)
  for_entry : (t c : ℕ) (list : List ℕ) (i b r : ℕ) → x ≡ step_async t c list → HowRefused F s x (refused_at_with b i r)

-- ---- demand 2: "A get alarms exactly when the chain of owners and waits leads back to the asker."

-- "t1 owns p, t2 owns what t1 awaits, and so on, until .. a ready task"
pub data OwnersFrom (s : Tables) (p : ℕ) : List ℕ → Type 0 where
  owners : {u : ℕ} {l : List ℕ} → u < length s.tasks → promise_at s p ≡ owned_by u → Chain (waits s) u l
      → OwnersFrom s p (u ∷ l)

-- "k pairs: t and p, then each next task on the way and what it awaits, up to the one that awaits a promise of t": v
-- waits on p, the owner of p on the promise that it is shown with, and so on
pub data LeadsTo (s : Tables) (t : ℕ) : ℕ → ℕ → List ℕ → Type 0 where
  at_last : {v p : ℕ} → task_at s v ≡ waits_on p → promise_at s p ≡ owned_by t → LeadsTo s t v p (v ∷ p ∷ [])
  and_then : {v p u q : ℕ} {ws : List ℕ} → task_at s v ≡ waits_on p → promise_at s p ≡ owned_by u → u ≢ t
      → LeadsTo s t u q ws → LeadsTo s t v p (v ∷ p ∷ ws)

abbrev pub Stands : Tables → ℕ → ℕ → List ℕ → Type 0
Stands s t p ws = LeadsTo s t t p ws

-- t gets p and alarms after k owners: t is ready and not refused, the owners from p lead back to t, and the report
-- shows the ring that would stand if t waited on p
pub record Alarm (s : Tables) (t p k : ℕ) (ws : List ℕ) : Type 0 where
  pub ready : task_at s t ≡ ready_word
  pub links : List ℕ
  pub owners : OwnersFrom s p links
  pub back : In t links
  pub count : k ≡ length links
  pub ring : Stands (with_wait s t p) t p ws

-- t gets p and waits after k owners: t is ready and not refused, and the owners from p come to a ready task without
-- leading back to t
pub record Wait (s : Tables) (t p k : ℕ) : Type 0 where
  pub ready : task_at s t ≡ ready_word
  pub links : List ℕ
  pub owners : OwnersFrom s p links
  pub end_ready : task_at s (chain_end t links) ≡ ready_word
  pub not_back : In t links → ⊥
  pub count : k ≡ length links

-- "A task that ends still owning promises is named for exactly those": m promises, then n tasks
pub record Named (B : ℕ) (s : Tables) (t m n : ℕ) (o : Outcome) : Type 0 where
  pub omitted : List ℕ
  pub woken : List ℕ
  pub words : o.words ≡ omitted ++ woken
  pub counts : (m ≡ length omitted) × (n ≡ length woken)
  pub rising : Rising omitted × Rising woken
  pub owned : (q : ℕ) → In q omitted → promise_at s q ≡ owned_by t
  pub all_owned : (q : ℕ) → promise_at s q ≡ owned_by t → In q omitted
  pub blamed : (q : ℕ) → promise_at o.after q ≡ blamed_on B t → In q omitted
  pub all_blamed : (q : ℕ) → In q omitted → promise_at o.after q ≡ blamed_on B t
  pub waited : (v : ℕ) → In v woken → (p : ℕ) × (task_at s v ≡ waits_on p) × (promise_at s p ≡ owned_by t)
  pub all_waited : (v p : ℕ) → task_at s v ≡ waits_on p → promise_at s p ≡ owned_by t → In v woken
  pub all_ready : (v : ℕ) → In v woken → task_at o.after v ≡ ready_word
  -- t has ended, and every other word is as it was
  pub is_ended : task_at o.after t ≡ ended_word
  pub other_tasks : (v : ℕ) → v ≢ t → (In v woken → ⊥) → task_at o.after v ≡ task_at s v
  pub other_promises : (q : ℕ) → (In q omitted → ⊥) → promise_at o.after q ≡ promise_at s q

-- "every task that waits on p becomes ready. Answer: how many; the report holds them, rising"
pub record Woken (s : Tables) (p n : ℕ) (o : Outcome) : Type 0 where
  pub count : n ≡ length o.words
  pub rising : Rising o.words
  pub waited : (v : ℕ) → In v o.words → task_at s v ≡ waits_on p
  pub all_waited : (v : ℕ) → task_at s v ≡ waits_on p → In v o.words
  pub all_ready : (v : ℕ) → In v o.words → task_at o.after v ≡ ready_word
  -- p is set, and every other word is as it was
  pub is_set : promise_at o.after p ≡ set_word
  pub other_tasks : (v : ℕ) → (In v o.words → ⊥) → task_at o.after v ≡ task_at s v
  pub other_promises : (q : ℕ) → q ≢ p → promise_at o.after q ≡ promise_at s q

-- ---- demand 3

-- the ends of the tasks of a chain, farthest first; that of u is lent a report of n u words. No task is on a chain
-- twice, so that n gives each end a length of its own
abbrev pub ends : (ℕ → ℕ) → List ℕ → List LentStep
ends n [] = []
ends n (u ∷ l) = ends n l ++ (n u, step_end u) ∷ []

-- each of the steps is an end that is accepted when its turn comes
pub data AllEnd (F : Form) : Tables → List LentStep → Type 0 where
  no_end : {s : Tables} → AllEnd F s []
  an_end : {s : Tables} {n : ℕ} {x : Step} {xs : List LentStep} (m k : ℕ)
      → (step F n s x).answer ≡ Ended m k → AllEnd F (step F n s x).after xs → AllEnd F s ((n, x) ∷ xs)

pub record Demand3 (F : Form) (s : Tables) : Type 0 where
  -- "while a task is live, some live task is ready"
  pub some_ready : (v : ℕ) → Live (task_at s v) → (e : ℕ) × (task_at s e ≡ ready_word)
  -- "each waiting task has one chain to a ready task, with at most one link fewer than live tasks"
  pub one_chain : (v p : ℕ) → task_at s v ≡ waits_on p
      → (l : List ℕ) × Chain (waits s) v l × ((l' : List ℕ) → Chain (waits s) v l' → l ≡ l')
      × (suc (length l) ≤ live_tasks s)
  -- "no step by any task but the one at its end alters that chain", whatever report it is lent: its links stay, and so
  -- does the word of each task on it and of each promise between them
  pub kept : (n : ℕ) (x : Step) (v : ℕ) (l : List ℕ) → Chain (waits s) v l → actor x ≢ chain_end v l
      → Chain (waits (step F n s x).after) v l
      × ((y : ℕ) → In y (v ∷ l) → task_at (step F n s x).after y ≡ task_at s y)
      × ((y p : ℕ) → In y (v ∷ l) → task_at s y ≡ waits_on p → promise_at (step F n s x).after p ≡ promise_at s p)
  -- "ending its k tasks in turn, farthest first, makes the waiter ready at the k-th end and no sooner": each end with a
  -- report of its own that has room
  pub in_turn : (v : ℕ) (l : List ℕ) → Chain (waits s) v l → (n : ℕ → ℕ) → ((u : ℕ) → In u l → room_of s ≤ n u)
      → AllEnd F s (ends n l)
      × ((j : ℕ) → j < length l → task_at (run F s (take j (ends n l))) v ≡ task_at s v)
      × (task_at (run F s (ends n l)) v ≡ ready_word)

-- ---- request 4: "Show that the alarm is real"

-- "had the alarmed wait been entered anyway, then after any further accepted steps", by "the step rules, read without
-- the soundness test"
abbrev pub had_waited : Form → Tables → ℕ → ℕ → List LentStep → Tables
had_waited F s t p xs = ran (untested F) (with_wait s t p) xs

-- in the pairs that an alarm reports, the task u is shown with the promise q
pub data Pair (u q : ℕ) : List ℕ → Type 0 where
  this_pair : {ws : List ℕ} → Pair u q (u ∷ q ∷ ws)
  later_pair : {v p : ℕ} {ws : List ℕ} → Pair u q ws → Pair u q (v ∷ p ∷ ws)

-- v is a task of the ring, or waits on a promise whose owner's chain runs into it
pub data RunsInto (s : Tables) (ws : List ℕ) : ℕ → Type 0 where
  of_the_ring : {v q : ℕ} → Pair v q ws → RunsInto s ws v
  behind_it : {v u : ℕ} (q : ℕ) → task_at s v ≡ waits_on q → promise_at s q ≡ owned_by u → RunsInto s ws u
      → RunsInto s ws v
