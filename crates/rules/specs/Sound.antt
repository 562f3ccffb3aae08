-- Sound tables: as a statement to read, and as a test that computes. Paper: 01, "Tables and words".
-- proofs/SoundTest.antt shows that the two agree.
--
--   TaskWord P w, PromiseWord T B w  w is a word of the task table, of the promise table
--   SoundView T P B s, Sound B s     the tables are sound
--   Hop, hop T s v                   from task v, one of T, to the owner of what it awaits
--   comes n T s v                    following owners from v comes to a ready task in fewer than n hops
--   comes_in_time s v                the same in fewer hops than there are tasks
--   task_passes s v, promise_passes B s q, sound_test B s   the test
--   is_sound F s                     the test, of tables of any lengths
-- Assumes nothing.
use Rattle.std.specs.Prelude.{◌≡◌, Bool, true, false, cond, ◌&&◌, ◌||◌, ℕ, zero, suc, ◌-◌, ◌<◌, eqb, leb, ltb, length}
use Rattle.words.specs.Words.{unused_word, ready_word, ended_word, first_wait, waits_on, unmade_word, set_word}
use Rattle.words.specs.Words.{first_owned}
use Rattle.words.specs.Words.{Form, owned_by, blamed_on}
use Rattle.words.specs.Lists.{all_below}
use Rattle.rules.specs.Tables.{Tables, sizes_fit, task_at, promise_at, live, Live, waiting}
use Rattle.rules.specs.Chains.{View, view, awaited_by, graph, Comes}

-- ---- the statement

-- "every word is one of these, with p below P and t below T"
pub data TaskWord (P w : ℕ) : Type 0 where
  unused : w ≡ unused_word → TaskWord P w
  ready : w ≡ ready_word → TaskWord P w
  ended : w ≡ ended_word → TaskWord P w
  waits : (p : ℕ) → p < P → w ≡ waits_on p → TaskWord P w

pub data PromiseWord (T B w : ℕ) : Type 0 where
  unmade : w ≡ unmade_word → PromiseWord T B w
  done : w ≡ set_word → PromiseWord T B w
  owned : (t : ℕ) → t < T → w ≡ owned_by t → PromiseWord T B w
  blamed : (t : ℕ) → t < T → w ≡ blamed_on B t → PromiseWord T B w

-- "Tables are sound when: every word is one of these, with p below P and t below T; every owner is live; every awaited
-- promise is owned; every blamed task is ended; and every waiting task's chain comes to a ready task."
pub record SoundView (T P B : ℕ) (s : View) : Type 0 where
  pub task_word : (v : ℕ) → TaskWord P (s.task v)
  pub promise_word : (q : ℕ) → PromiseWord T B (s.promise q)
  pub owner_live : (q u : ℕ) → u < T → s.promise q ≡ owned_by u → Live (s.task u)
  pub awaited_owned : (v p : ℕ) → s.task v ≡ waits_on p → (u : ℕ) × (u < T) × (s.promise p ≡ owned_by u)
  pub blamed_ended : (q u : ℕ) → u < T → s.promise q ≡ blamed_on B u → s.task u ≡ ended_word
  pub chain_comes : (v p : ℕ) → s.task v ≡ waits_on p → Comes (graph T s) v

abbrev pub Sound : ℕ → Tables → Type 0
Sound B s = SoundView (length s.tasks) (length s.promises) B (view s)

-- ---- the test

pub data Hop : Type 0 where
  ready lost : Hop
  to : ℕ → Hop

-- the owner that a promise's word names, if it names a task
abbrev pub hop_owner : ℕ → ℕ → Hop
hop_owner T w = cond (leb first_owned w && ltb (w - first_owned) T) (to (w - first_owned)) lost

-- from a task with the word w
abbrev pub hop_word : ℕ → View → ℕ → Hop
hop_word T s w = cond (eqb w ready_word) ready (cond (waiting w) (hop_owner T (s.promise (w - first_wait))) lost)

unfoldable pub hop : ℕ → View → ℕ → Hop
hop T s v = hop_word T s (s.task v)

abbrev pub comes_by : Hop → (ℕ → Bool) → Bool
comes_by ready f = true
comes_by lost f = false
comes_by (to u) f = f u

unfoldable pub comes : ℕ → ℕ → View → ℕ → Bool
comes zero T s v = false
comes (suc n) T s v = comes_by (hop T s v) (λ u. comes n T s u)

-- a sound chain has fewer links than there are tasks
abbrev pub comes_in_time : Tables → ℕ → Bool
comes_in_time s v = comes (length s.tasks) (length s.tasks) (view s) v

-- a task's word is one of these, and its chain, if it waits, comes to a ready task
unfoldable pub task_passes : Tables → ℕ → Bool
task_passes s v =
    eqb (task_at s v) unused_word
    || eqb (task_at s v) ready_word
    || eqb (task_at s v) ended_word
    || (waiting (task_at s v) && ltb (awaited_by (view s) v) (length s.promises) && comes_in_time s v)

-- a promise's word is one of these; its owner is live, and who is blamed is ended
abbrev pub promise_word_passes : ℕ → Tables → ℕ → Bool
promise_word_passes B s w =
    eqb w unmade_word || eqb w set_word
    || (leb first_owned w && ltb (w - first_owned) (length s.tasks) && live (task_at s (w - first_owned)))
    || (leb B w && ltb (w - B) (length s.tasks) && eqb (task_at s (w - B)) ended_word)

unfoldable pub promise_passes : ℕ → Tables → ℕ → Bool
promise_passes B s q = promise_word_passes B s (promise_at s q)

unfoldable pub sound_test : ℕ → Tables → Bool
sound_test B s = all_below (length s.tasks) (task_passes s) && all_below (length s.promises) (promise_passes B s)

-- the test of tables of any lengths: those whose sizes are outside their bounds are not sound
abbrev pub is_sound : Form → Tables → Bool
is_sound F s = sizes_fit F s && sound_test F.base s
