-- The words of the two tables, each by itself. Paper: 01, "Tables and words", "every word is one of these, with p below
-- P and t below T; every owner is live; .. every blamed task is ended".
--
--   every_word f ws       every word of ws passes f
--   task_word_passes P w  w is a word of the task table, where there are P promises
--   idle w                a task with the word w does not wait
--   below n w             w is below n
--   LargestOf ws r        every word of ws is below n exactly where r is, for n above 0
--   not_between w         w is unmade, set, or not below the first owner
--   owners_up_to w        how many tasks there are up to the owner w, if it is one
--   OnlyOwners ts ps      every word of ps is unmade, set, or a live owner of ts
--   allowed may w         the look-up table may says that w may stand in the promise table; no word past its end may
--   noted f ts from b w   what a table that says b of w says of it once it has noted, from the word `from` on, of
--                         each task of ts whether its word passes f
--   Noted f ts from b a   the table b has become a by noting that
--   MayHold B T may       may has room for the words of promises, where B is the first blamed word and there are T
--                         tasks, and no word may stand there yet
--   Fills B ts may        may says of every word whether it may stand in the promise table, where ts are the tasks
-- Assumes nothing.
use Rattle.std.specs.Prelude.{ℕ, suc, ◌+◌, ◌-◌, ◌≤◌, ◌<◌, ◌≡◌, List, [], Bool, true, false, cond, ◌&&◌, ◌||◌}
use Rattle.std.specs.Prelude.{eqb, leb, ltb, length, get_or, replicate}
use Rattle.words.specs.Words.{unused_word, ready_word, ended_word, first_wait, set_word, first_owned}
use Rattle.words.specs.Lists.{all_below}
use Rattle.rules.specs.Tables.{tables, waiting}
use Rattle.rules.specs.Sound.{promise_word_passes, promise_passes}

abbrev pub every_word : (ℕ → Bool) → List ℕ → Bool
every_word f ws = all_below (length ws) (λ i. f (get_or ws i 0))

unfoldable pub task_word_passes : ℕ → ℕ → Bool
task_word_passes P w =
    eqb w unused_word || eqb w ready_word || eqb w ended_word || (waiting w && ltb (w - first_wait) P)

unfoldable pub idle : ℕ → Bool
idle w = ltb w first_wait

unfoldable pub below : ℕ → ℕ → Bool
below n w = ltb w n

abbrev pub LargestOf : List ℕ → ℕ → Type 0
LargestOf ws r = (n : ℕ) → 0 < n → every_word (below n) ws ≡ ltb r n

unfoldable pub not_between : ℕ → Bool
not_between w = leb w set_word || leb first_owned w

abbrev pub owners_up_to : ℕ → ℕ
owners_up_to w = suc w - first_owned

unfoldable pub allowed : List Bool → ℕ → Bool
allowed may w = get_or may w false

unfoldable pub noted : (ℕ → Bool) → List ℕ → ℕ → Bool → ℕ → Bool
noted f ts from b w = cond (leb from w && ltb (w - from) (length ts)) (f (get_or ts (w - from) 0)) b

abbrev pub Noted : (ℕ → Bool) → List ℕ → ℕ → List Bool → List Bool → Type 0
Noted f ts from before after = (w : ℕ) → get_or after w false ≡ noted f ts from (get_or before w false) w

pub record MayHold (B T : ℕ) (may : List Bool) : Type 0 where
  pub apart : first_owned + T ≤ B
  pub room : B + T ≤ length may
  pub fits : length may < 65536
  pub empty : may ≡ replicate (length may) false

abbrev pub Fills : ℕ → List ℕ → List Bool → Type 0
Fills B ts may = (w : ℕ) → allowed may w ≡ promise_word_passes B (tables ts []) w

-- whatever the first blamed word is
abbrev pub OnlyOwners : List ℕ → List ℕ → Type 0
OnlyOwners ts ps = (B : ℕ) → all_below (length ps) (promise_passes B (tables ts ps)) ≡ true
