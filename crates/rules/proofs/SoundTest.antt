-- The test of sound tables passes exactly on sound tables, and a chain has fewer links than there are live tasks. So
-- how far the test follows a chain is no part of the meaning. Assumes nothing.
use mathlib.Core.Path.{◌≡◌, refl, ap, subst, ◌∙◌}
use mathlib.Core.Logic.{◌⊎◌, inl, inr}
use mathlib.Core.List.{List, ◌∷◌}
use mathlib.Core.Bool.{Bool, true, ◌&&◌, ◌||◌}
use Prim.Native.Nat.{ℕ, suc, ◌+◌, ◌-◌, ◌≤◌, ◌<◌}
use native.Mathlib.Omega.{arith}
use native.Mathlib.Decide.{dec_lt}
use lib.Dec.{eqb, leb, ltb}
use borrow.Author.Tests.{eqb-true, leb-true, ltb-true, eq-eqb, le-leb, lt-ltb}
use lib.ListN.{length, get_or-eq_default}
use Rattle.words.specs.Words.{unused_word, ready_word, ended_word, waits_on, first_wait, unmade_word, set_word}
use Rattle.words.specs.Words.{owned_by}
use Rattle.words.specs.Words.{first_owned, blamed_on}
use Rattle.words.specs.Lists.{all_below}
use Rattle.words.proofs.BoolLaws.{and_yes, and_split, or_split, or_left, or_right}
use Rattle.words.proofs.ListLaws.{all_below_at, all_below_make, count_le, pigeon}
use Rattle.rules.specs.Tables.{Tables, task_at, promise_at, live, Live, waiting, live_tasks}
use Rattle.rules.specs.Chains.{Chain, here, link, Comes, WaitsFor, view, awaited_by}
use Rattle.rules.specs.Chains as chains
use Rattle.rules.specs.Sound.{TaskWord, unused, ready, ended, waits, PromiseWord, unmade, done, owned, blamed}
use Rattle.rules.specs.Sound.{Sound, comes, comes_in_time, task_passes, promise_passes, sound_test}
use Rattle.rules.proofs.BoundsLaws.{live_ready, live_waits}
use Rattle.rules.proofs.GraphLaws.{on_chain, no_dup}
use Rattle.rules.proofs.Moves.{det}
use Rattle.rules.proofs.WalkLaws.{comes_chain, chain_comes_lem}

-- ---- the bound

pub chain_bound : (s : Tables) {v : ℕ} {l : List ℕ} → Chain (chains.waits s) v l → suc (length l) ≤ live_tasks s
chain_bound s {v} {l} c =
    pigeon live refl (v ∷ l) s.tasks (no_dup (chains.waits s) (det (length s.tasks) (view s)) c)
    (λ x i. go x (on_chain (chains.waits s) c i))
  where
    go : (x : ℕ) → (task_at s x ≡ ready_word) ⊎ ((w : ℕ) × (u : ℕ) × WaitsFor (length s.tasks) (view s) x w u)
        → Live (task_at s x)
    go x (inl e) = live_ready (task_at s x) e
    go x (inr k) = live_waits (task_at s x) (omega (arith, k.2.waits))

-- a chain that is found with any fuel is found with as much as there are tasks
pub comes_in_time_lem : (s : Tables) (n v : ℕ) → comes n (length s.tasks) (view s) v ≡ true → comes_in_time s v ≡ true
comes_in_time_lem s n v e =
    let (l, c) = comes_chain (length s.tasks) (view s) n v e in
    chain_comes_lem (length s.tasks) (view s) (length s.tasks) c
    (omega (arith, chain_bound s c, count_le live s.tasks))

-- ---- what the tests of one word say

module _ (B : ℕ) (s : Tables) where
  data TaskIs (v : ℕ) : Type 0 where
    t_unused : task_at s v ≡ unused_word → TaskIs v
    t_ready : task_at s v ≡ ready_word → TaskIs v
    t_ended : task_at s v ≡ ended_word → TaskIs v
    t_waits : (p : ℕ) → p < length s.promises → task_at s v ≡ waits_on p → Comes (chains.waits s) v → TaskIs v

  data PromIs (q : ℕ) : Type 0 where
    p_unmade : promise_at s q ≡ unmade_word → PromIs q
    p_done : promise_at s q ≡ set_word → PromIs q
    p_owned : (u : ℕ) → u < length s.tasks → promise_at s q ≡ owned_by u → Live (task_at s u) → PromIs q
    p_blamed : (u : ℕ) → u < length s.tasks → promise_at s q ≡ blamed_on B u → task_at s u ≡ ended_word → PromIs q

  -- what the test asks of a task that waits
  abbrev waits_well : ℕ → Bool
  waits_well v = waiting (task_at s v) && ltb (awaited_by (view s) v) (length s.promises) && comes_in_time s v

  task_is : (v : ℕ) → task_passes s v ≡ true → TaskIs v
  unfolding task_passes
  task_is v e = go₃ (or_split _ _ e)
    where
      go₁ : (eqb (task_at s v) 0 ≡ true) ⊎ (eqb (task_at s v) 1 ≡ true) → TaskIs v
      go₁ (inl a) = t_unused (eqb-true _ _ a)
      go₁ (inr a) = t_ready (eqb-true _ _ a)

      go₂ : ((eqb (task_at s v) 0 || eqb (task_at s v) 1) ≡ true) ⊎ (eqb (task_at s v) 2 ≡ true) → TaskIs v
      go₂ (inl a) = go₁ (or_split _ _ a)
      go₂ (inr a) = t_ended (eqb-true _ _ a)

      go₃ : ((eqb (task_at s v) 0 || eqb (task_at s v) 1 || eqb (task_at s v) 2) ≡ true)
          ⊎ (waits_well v ≡ true) → TaskIs v
      go₃ (inl a) = go₂ (or_split _ _ a)
      go₃ (inr a) =
          let (bc, r) = and_split _ _ a in
          let (b, c) = and_split _ _ bc in
          let h : 16 ≤ task_at s v = leb-true first_wait (task_at s v) b in
          t_waits (awaited_by (view s) v) (ltb-true _ _ c) (omega arith)
          (comes_chain (length s.tasks) (view s) (length s.tasks) v r)

  -- what the test asks of a word that names an owner, and of one that blames
  abbrev is_owned_by : ℕ → Bool
  is_owned_by w = leb first_owned w && ltb (w - first_owned) (length s.tasks) && live (task_at s (w - first_owned))

  abbrev is_blamed_on : ℕ → Bool
  is_blamed_on w = leb B w && ltb (w - B) (length s.tasks) && eqb (task_at s (w - B)) ended_word

  prom_is : (q : ℕ) → promise_passes B s q ≡ true → PromIs q
  unfolding promise_passes
  prom_is q e = go₃ (or_split _ _ e)
    where
      go₁ : (eqb (promise_at s q) 0 ≡ true) ⊎ (eqb (promise_at s q) 1 ≡ true) → PromIs q
      go₁ (inl a) = p_unmade (eqb-true _ _ a)
      go₁ (inr a) = p_done (eqb-true _ _ a)

      go₂ : ((eqb (promise_at s q) 0 || eqb (promise_at s q) 1) ≡ true) ⊎ (is_owned_by (promise_at s q) ≡ true)
          → PromIs q
      go₂ (inl a) = go₁ (or_split _ _ a)
      go₂ (inr a) =
          let (bc, r) = and_split _ _ a in
          let (b, c) = and_split _ _ bc in
          let h : 16 ≤ promise_at s q = leb-true first_owned (promise_at s q) b in
          p_owned (promise_at s q - first_owned) (ltb-true _ _ c) (omega arith) r

      go₃ : ((eqb (promise_at s q) 0 || eqb (promise_at s q) 1 || is_owned_by (promise_at s q)) ≡ true)
          ⊎ (is_blamed_on (promise_at s q) ≡ true) → PromIs q
      go₃ (inl a) = go₂ (or_split _ _ a)
      go₃ (inr a) =
          let (bc, r) = and_split _ _ a in
          let (b, c) = and_split _ _ bc in
          let h : B ≤ promise_at s q = leb-true B (promise_at s q) b in
          p_blamed (promise_at s q - B) (ltb-true _ _ c) (omega arith) (eqb-true _ _ r)

  module _ (e : sound_test B s ≡ true) where
    task_at_lem : (v : ℕ) → TaskIs v
    unfolding sound_test
    task_at_lem v = go (dec_lt v (length s.tasks))
      where
        go : Dec (v < length s.tasks) → TaskIs v
        go (yes h) = task_is v (all_below_at (length s.tasks) (task_passes s) (and_split _ _ e).0 v h)
        go (no n) = t_unused (get_or-eq_default s.tasks 0 (omega arith))

    prom_at : (q : ℕ) → PromIs q
    unfolding sound_test
    prom_at q = go (dec_lt q (length s.promises))
      where
        go : Dec (q < length s.promises) → PromIs q
        go (yes h) =
            prom_is q
            (all_below_at (length s.promises) (promise_passes B s)
            (and_split (all_below (length s.tasks) (task_passes s)) _ e).1 q h)
        go (no n) = p_unmade (get_or-eq_default s.promises 0 (omega arith))

  task_word_of : (v : ℕ) → TaskIs v → TaskWord (length s.promises) (task_at s v)
  task_word_of v (t_unused e) = unused e
  task_word_of v (t_ready e) = ready e
  task_word_of v (t_ended e) = ended e
  task_word_of v (t_waits p h e g) = waits p h e

  prom_word_of : (q : ℕ) → PromIs q → PromiseWord (length s.tasks) B (promise_at s q)
  prom_word_of q (p_unmade e) = unmade e
  prom_word_of q (p_done e) = done e
  prom_word_of q (p_owned u h e l) = owned u h e
  prom_word_of q (p_blamed u h e l) = blamed u h e

  ground_of : (v p : ℕ) → task_at s v ≡ waits_on p → TaskIs v → Comes (chains.waits s) v
  ground_of v p w (t_unused e) = absurd (omega arith)
  ground_of v p w (t_ready e) = absurd (omega arith)
  ground_of v p w (t_ended e) = absurd (omega arith)
  ground_of v p w (t_waits q h e g) = g

  owned_of : (v p : ℕ) {l : List ℕ} → task_at s v ≡ waits_on p → Chain (chains.waits s) v l
      → (u : ℕ) × (u < length s.tasks) × (promise_at s p ≡ owned_by u)
  owned_of v p w (here r) = absurd (omega arith)
  owned_of v p w (link {p = q} {u = u} k c) =
      let z : p ≡ q = omega (arith, k.waits) in
      (u, k.below, ap (λ (x : ℕ). promise_at s x) z ∙ k.owned)

  module _ (fits : first_owned + length s.tasks ≤ B) where
    live_owner_of : (q u : ℕ) → u < length s.tasks → promise_at s q ≡ owned_by u → PromIs q → Live (task_at s u)
    live_owner_of q u h o (p_unmade e) = absurd (omega arith)
    live_owner_of q u h o (p_done e) = absurd (omega arith)
    live_owner_of q u h o (p_owned x b e l) = subst (λ (y : ℕ). Live (task_at s y)) (omega arith) l
    live_owner_of q u h o (p_blamed x b e l) = absurd (omega arith)

    ended_of : (q u : ℕ) → u < length s.tasks → promise_at s q ≡ blamed_on B u → PromIs q → task_at s u ≡ ended_word
    ended_of q u h o (p_unmade e) = absurd (omega arith)
    ended_of q u h o (p_done e) = absurd (omega arith)
    ended_of q u h o (p_owned x b e l) = absurd (omega arith)
    ended_of q u h o (p_blamed x b e l) = subst (λ (y : ℕ). task_at s y ≡ ended_word) (omega arith) l

    pub sound_test_sound : sound_test B s ≡ true → Sound B s
    sound_test_sound e = record {
      task_word = λ v. task_word_of v (task_at_lem e v);
      promise_word = λ q. prom_word_of q (prom_at e q);
      owner_live = λ q u h o. live_owner_of q u h o (prom_at e q);
      awaited_owned = λ v p w. let (l, c) = ground_of v p w (task_at_lem e v) in owned_of v p w c;
      blamed_ended = λ q u h o. ended_of q u h o (prom_at e q);
      chain_comes = λ v p w. ground_of v p w (task_at_lem e v);
    }

  -- and back
  module _ (sd : Sound B s) where
    task_pass : (v : ℕ) → TaskWord (length s.promises) (task_at s v) → task_passes s v ≡ true
    unfolding task_passes
    task_pass v (unused e) = or_left _ _ (or_left _ _ (or_left _ _ (eq-eqb _ _ e)))
    task_pass v (ready e) = or_left _ _ (or_left _ _ (or_right (eqb (task_at s v) 0) _ (eq-eqb _ _ e)))
    task_pass v (ended e) = or_left _ _ (or_right (eqb (task_at s v) 0 || eqb (task_at s v) 1) _ (eq-eqb _ _ e))
    task_pass v (waits p h e) =
        let (l, c) = sd.chain_comes v p e in
        let waits-on = le-leb first_wait (task_at s v) (omega arith) in
        let on_one = lt-ltb (awaited_by (view s) v) (length s.promises) (omega arith) in
        let few : length l < length s.tasks = omega (arith, chain_bound s c, count_le live s.tasks) in
        or_right (eqb (task_at s v) 0 || eqb (task_at s v) 1 || eqb (task_at s v) 2) _
        (and_yes _ _ (and_yes _ _ waits-on on_one)
        (chain_comes_lem (length s.tasks) (view s) (length s.tasks) c few))

    prom_pass : (q : ℕ) → PromiseWord (length s.tasks) B (promise_at s q) → promise_passes B s q ≡ true
    unfolding promise_passes
    prom_pass q (unmade e) = or_left _ _ (or_left _ _ (or_left _ _ (eq-eqb _ _ e)))
    prom_pass q (done e) = or_left _ _ (or_left _ _ (or_right (eqb (promise_at s q) 0) _ (eq-eqb _ _ e)))
    prom_pass q (owned u h e) =
        let z : promise_at s q - first_owned ≡ u = omega arith in
        let owned = le-leb first_owned (promise_at s q) (omega arith) in
        let by_one = lt-ltb (promise_at s q - first_owned) (length s.tasks) (omega arith) in
        or_left _ _ (or_right (eqb (promise_at s q) 0 || eqb (promise_at s q) 1) _
        (and_yes _ _ (and_yes _ _ owned by_one) (ap (λ (x : ℕ). live (task_at s x)) z ∙ sd.owner_live q u h e)))
    prom_pass q (blamed u h e) =
        let z : promise_at s q - B ≡ u = omega arith in
        let blamed = le-leb B (promise_at s q) (omega arith) in
        let on_one = lt-ltb (promise_at s q - B) (length s.tasks) (omega arith) in
        or_right (eqb (promise_at s q) 0 || eqb (promise_at s q) 1 || is_owned_by (promise_at s q)) _
        (and_yes _ _ (and_yes _ _ blamed on_one)
        (ap (λ (x : ℕ). eqb (task_at s x) 2) z ∙ eq-eqb _ _ (sd.blamed_ended q u h e)))

    pub sound_sound_test : sound_test B s ≡ true
    unfolding sound_test
    sound_sound_test =
        and_yes _ _ (all_below_make (length s.tasks) (task_passes s) (λ v h. task_pass v (sd.task_word v)))
        (all_below_make (length s.promises) (promise_passes B s) (λ q h. prom_pass q (sd.promise_word q)))
