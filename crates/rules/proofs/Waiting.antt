-- Demand 3, its first three sentences, in good tables: somebody is ready, a waiting task has one chain, and only a step
-- of the task at its end alters it. Assumes nothing.
use mathlib.Core.Path.{◌≡◌, sym, ap, subst, ◌∙◌}
use mathlib.Core.Logic.{◌⊎◌, inl, inr, ◌≢◌}
use mathlib.Core.List.{List, ◌∷◌}
use Prim.Native.Nat.{ℕ, suc, ◌≤◌}
use native.Mathlib.Omega.{arith}
use lib.ListN.{length}
use Rattle.words.specs.Words.{Form, ready_word, first_wait, waits_on}
use Rattle.words.specs.Lists.{In}
use Rattle.rules.specs.Tables.{Tables, task_at, promise_at, Live, live_tasks}
use Rattle.rules.specs.Chains.{Chain, WaitsFor, chain_end, view, graph, waits}
use Rattle.rules.specs.Sound.{TaskWord, unused, ready, ended, Sound}
use Rattle.rules.specs.Sound as sound
use Rattle.rules.specs.Steps.{Step, actor, step}
use Rattle.rules.specs.Demands.{Apart}
use Rattle.rules.proofs.Accepted.{Took, stayed, moved}
use Rattle.rules.proofs.BoundsLaws.{live_is}
use Rattle.rules.proofs.GraphLaws.{Det, Frame, on_chain, unique, end_ready, ready_is_end, chain_stays}
use Rattle.rules.proofs.GraphLaws.{words_stay}
use Rattle.rules.proofs.Kept.{took_step}
use Rattle.rules.proofs.Moves.{det, link_words, frame}
use Rattle.rules.proofs.SoundTest.{chain_bound}

-- while a task is live, some task is ready
pub some_ready : (B : ℕ) (s : Tables) → Sound B s → (v : ℕ) → Live (task_at s v) → (e : ℕ) × (task_at s e ≡ ready_word)
some_ready B s sd v l = go (live_is _ l) (sd.task_word v)
  where
    go : (task_at s v ≡ ready_word) ⊎ (first_wait ≤ task_at s v) → TaskWord (length s.promises) (task_at s v)
        → (e : ℕ) × (task_at s e ≡ ready_word)
    go (inl e) w = (v, e)
    go (inr b) (unused e) = absurd (omega arith)
    go (inr b) (ready e) = (v, e)
    go (inr b) (ended e) = absurd (omega arith)
    go (inr b) (sound.waits p h e) = let (l', c) = sd.chain_comes v p e in (chain_end v l', end_ready (waits s) c)

-- a waiting task has one chain, with fewer links than there are live tasks
pub one_chain : (B : ℕ) (s : Tables) → Sound B s → (v p : ℕ) → task_at s v ≡ waits_on p
    → (l : List ℕ) × Chain (waits s) v l × ((l' : List ℕ) → Chain (waits s) v l' → l ≡ l')
    × (suc (length l) ≤ live_tasks s)
one_chain B s sd v p e =
    let (l, c) = sd.chain_comes v p e in
    (l, c, λ l' c'. unique (waits s) (det (length s.tasks) (view s)) c c', chain_bound s c)

-- ---- only a step of the task at its end alters a chain

module _ (B : ℕ) (s s' : Tables) (t : ℕ) {v : ℕ} {l : List ℕ} (c : Chain (waits s) v l) (far : chain_end v l ≢ t) where
  chain_by : Took B s t s' → Chain (waits s') v l
  chain_by (stayed e) = subst (λ (x : Tables). Chain (waits x) v l) (sym e) c
  chain_by (moved len st) =
      subst (λ (x : ℕ). Chain (graph x (view s')) v l) (sym len.tasks)
      (chain_stays (waits s) (graph (length s.tasks) (view s')) t (det (length s.tasks) (view s))
      (frame (length s.tasks) (length s.promises) B (view s) (view s') t st.moves) c far)

  -- the word of a task on the chain, and of what it awaits
  words_by : Took B s t s' → (y : ℕ) → In y (v ∷ l)
      → (task_at s' y ≡ task_at s y) × ((p : ℕ) → task_at s y ≡ waits_on p → promise_at s' p ≡ promise_at s p)
  words_by (stayed e) y i = (ap (λ (x : Tables). task_at x y) e, λ p w. ap (λ (x : Tables). promise_at x p) e)
  words_by (moved len st) y i = go (on_chain (waits s) c i)
    where
      fr : Frame (waits s) (graph (length s.tasks) (view s')) t
      fr = frame (length s.tasks) (length s.promises) B (view s) (view s') t st.moves

      d : Det (waits s)
      d = det (length s.tasks) (view s)

      go : (task_at s y ≡ ready_word) ⊎ ((w : ℕ) × (u : ℕ) × WaitsFor (length s.tasks) (view s) y w u)
          → (task_at s' y ≡ task_at s y) × ((p : ℕ) → task_at s y ≡ waits_on p → promise_at s' p ≡ promise_at s p)
      go (inl r) = (
        fr.stay y (λ (z : y ≡ t). far (sym (ready_is_end (waits s) d c i r) ∙ z)) r ∙ sym r,
        λ p (w : task_at s y ≡ waits_on p). absurd (omega arith),
      )
      go (inr (q, u, k)) =
          link_words (length s.tasks) (length s.tasks) (view s) (view s') y q u k
          (words_stay (waits s) (graph (length s.tasks) (view s')) t d fr c far i k)

pub chain_kept : (F : Form) → Apart F → (n : ℕ) (s : Tables) (x : Step) (v : ℕ) (l : List ℕ) → Chain (waits s) v l
    → actor x ≢ chain_end v l
    → Chain (waits (step F n s x).after) v l × ((y : ℕ) → In y (v ∷ l) → task_at (step F n s x).after y ≡ task_at s y)
    × ((y p : ℕ) → In y (v ∷ l) → task_at s y ≡ waits_on p → promise_at (step F n s x).after p ≡ promise_at s p)
chain_kept F apart n s x v l c far =
    let took = took_step F apart n s x in
    let apart' : chain_end v l ≢ actor x = λ z. far (sym z) in (
      chain_by F.base s (step F n s x).after (actor x) c apart' took,
      λ y i. (words_by F.base s (step F n s x).after (actor x) c apart' took y i).0,
      λ y p i. (words_by F.base s (step F n s x).after (actor x) c apart' took y i).1 p,
    )
