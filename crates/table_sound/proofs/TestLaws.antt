-- The soundness test in the order of work of the code: the words of the tasks, the words of the promises, and then the
-- chains. Assumes nothing.
use Prim.Native.Nat.{ℕ, ◌-◌}
use mathlib.Core.Path.{◌≡◌, refl, sym, ◌∙◌}
use mathlib.Core.Bool.{Bool, true, false, not, ◌&&◌, ◌||◌}
use lib.Dec.{eqb, ltb}
use lib.ListN.{length}
use native.Mathlib.Omega.{arith}
use borrow.Author.Tests.{lt-leb, ne_eqb, leb-true, ltb-true}
use Rattle.words.specs.Words.{unused_word, ready_word, ended_word, first_wait}
use Rattle.words.specs.Lists.{all_below}
use Rattle.words.proofs.BoolLaws.{and_false, and_true}
use Rattle.words.proofs.ListLaws.{all_below_same, all_below_and, all_below_at, all_below_make}
use Rattle.rules.specs.Tables.{Tables, task_at, waiting}
use Rattle.rules.specs.Sound.{comes_in_time, task_passes, promise_passes, sound_test}
use Rattle.table_words.specs.Allowed.{every_word, task_word_passes, idle}
use Rattle.table_chains.specs.Marks.{chain_passes}

-- a word that waits is none of the others: then it names a promise and its chain comes to a ready task
word_and_chain : (other waits named comes : Bool) → (waits ≡ true → other ≡ false)
    → (other || (waits && named && comes)) ≡ ((other || (waits && named)) && (not waits || comes))
word_and_chain other true named comes h = rw (h refl)
word_and_chain true false named comes h = refl
word_and_chain false false named comes h = refl

module _ (B : ℕ) (s : Tables) where
  abbrev pub words_of_tasks : Bool
  words_of_tasks = every_word (task_word_passes (length s.promises)) s.tasks

  abbrev pub words_of_promises : Bool
  words_of_promises = all_below (length s.promises) (promise_passes B s)

  abbrev pub all_chains : Bool
  all_chains = all_below (length s.tasks) (chain_passes s)

  -- a task passes by its word and by its chain
  both : (v : ℕ) → task_passes s v ≡ (task_word_passes (length s.promises) (task_at s v) && chain_passes s v)
  unfolding task_passes task_word_passes chain_passes
  both v =
      word_and_chain (eqb (task_at s v) unused_word || eqb (task_at s v) ready_word || eqb (task_at s v) ended_word)
      (waiting (task_at s v)) (ltb (task_at s v - first_wait) (length s.promises)) (comes_in_time s v) apart
    where
      apart : waiting (task_at s v) ≡ true
          → (eqb (task_at s v) unused_word || eqb (task_at s v) ready_word || eqb (task_at s v) ended_word) ≡ false
      apart e =
          let h = leb-true first_wait (task_at s v) e in
          rw (
            ne_eqb (task_at s v) 0 (λ z. omega arith),
            ne_eqb (task_at s v) 1 (λ z. omega arith),
            ne_eqb (task_at s v) 2 (λ z. omega arith),
          )

  tasks_pass : all_below (length s.tasks) (task_passes s) ≡ (words_of_tasks && all_chains)
  tasks_pass =
      all_below_same (length s.tasks) (task_passes s)
      (λ v. task_word_passes (length s.promises) (task_at s v) && chain_passes s v) (λ v z. both v)
      ∙ all_below_and (length s.tasks) (λ v. task_word_passes (length s.promises) (task_at s v)) (chain_passes s)

  pub bad_task_word : words_of_tasks ≡ false → false ≡ sound_test B s
  unfolding sound_test
  bad_task_word e = rw (tasks_pass, e)

  pub bad_promise_word : words_of_promises ≡ false → false ≡ sound_test B s
  unfolding sound_test
  bad_promise_word e = rw e (sym (and_false (all_below (length s.tasks) (task_passes s))))

  module _ (t : words_of_tasks ≡ true) (p : words_of_promises ≡ true) where
    pub chains_decide : all_chains ≡ sound_test B s
    unfolding sound_test
    chains_decide = rw (tasks_pass, t, p) (sym (and_true all_chains))

    pub no_chains : every_word idle s.tasks ≡ true → true ≡ sound_test B s
    unfolding chain_passes idle
    no_chains e =
        sym
        (all_below_make (length s.tasks) (chain_passes s)
        (λ v z. let idle_at = ltb-true _ _ (all_below_at (length s.tasks) (λ i. ltb (task_at s i) first_wait) e v z) in
        rw (lt-leb first_wait (task_at s v) idle_at)))
        ∙ chains_decide

  -- chains are asked for only where somebody waits
  pub test_in_turn : sound_test B s ≡ (words_of_tasks && words_of_promises && (every_word idle s.tasks || all_chains))
  test_in_turn = go words_of_tasks refl words_of_promises refl (every_word idle s.tasks) refl
    where
      go : (a : Bool) → words_of_tasks ≡ a → (b : Bool) → words_of_promises ≡ b → (i : Bool)
          → every_word idle s.tasks ≡ i → sound_test B s ≡ (a && b && (i || all_chains))
      go false e b f i g = sym (bad_task_word e)
      go true e false f i g = sym (bad_promise_word f)
      go true e true f true g = sym (no_chains e f g)
      go true e true f false g = sym (chains_decide e f)
