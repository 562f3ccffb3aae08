-- Demand 3, its last sentence: ending the tasks of a chain in turn, farthest first, takes one link off at each end;
-- each of these ends is accepted. Assumes nothing.
use mathlib.Core.Path.{◌≡◌, refl, sym, ap, subst, ◌∙◌}
use mathlib.Core.List.{List, [], ◌∷◌, ◌++◌, append_assoc, append-nil}
use Prim.Native.Nat.{ℕ, ◌-◌, ◌≤◌, ◌<◌}
use native.Mathlib.Omega.{arith}
use lib.ListN.{length, take, drop, length-set, length-append, take-append-drop, length-drop, length-take}
use lib.Seq.{take_at}
use Rattle.words.specs.Words.{Form, ready_word, ended_word, owned_by}
use Rattle.words.specs.Lists.{In, top, pop}
use Rattle.words.proofs.ListLaws.{length_replaced, within_table, in_right}
use Rattle.rules.specs.Tables.{Tables, room_of, task_at}
use Rattle.rules.specs.Chains.{WaitsFor, Graph, Chain, here, chain_end, view, graph, waits}
use Rattle.rules.specs.Refusals.{first}
use Rattle.rules.specs.Steps.{step_end, Outcome, with_ended, awaits, effect, step, LentStep, run}
use Rattle.rules.specs.Demands.{Apart, Good, ends, AllEnd, no_end, an_end}
use Rattle.rules.proofs.GuardLaws.{guarded_none}
use Rattle.rules.proofs.GraphLaws.{Frame, end_ready, shorter, shorter_word}
use Rattle.rules.proofs.Kept.{run_lengths, good_run, ready_passes}
use Rattle.rules.proofs.Moves.{det, frame}
use Rattle.rules.proofs.Order.{step_guarded}
use Rattle.rules.proofs.StepMoves.{woken, end_moves, end_wakes}

-- ---- lists of ends

chain_end_snoc : (v : ℕ) (l : List ℕ) (e : ℕ) → chain_end v (l ++ e ∷ []) ≡ e
chain_end_snoc v [] e = refl
chain_end_snoc v (u ∷ l) e = chain_end_snoc u l e

ends_append : (n : ℕ → ℕ) (l m : List ℕ) → ends n (l ++ m) ≡ ends n m ++ ends n l
ends_append n [] m = sym (append-nil (ends n m))
ends_append n (u ∷ l) m =
    let last : List LentStep = (n u, step_end u) ∷ [] in
    ap (λ (x : List LentStep). x ++ last) (ends_append n l m) ∙ append_assoc (ends n m) (ends n l) last

length_ends : (n : ℕ → ℕ) (l : List ℕ) → length (ends n l) ≡ length l
length_ends n [] = refl
length_ends n (u ∷ l) = length-append (ends n l) ((n u, step_end u) ∷ []) ∙ omega (arith, length_ends n l)

take_ends : (n : ℕ → ℕ) (l : List ℕ) (j : ℕ) → j ≤ length l → take j (ends n l) ≡ ends n (drop (length l - j) l)
take_ends n l j h =
    let front = take (length l - j) l in
    let back = drop (length l - j) l in
    ap (λ (x : List ℕ). take j (ends n x)) (sym (take-append-drop (length l - j) l))
    ∙ ap (λ (x : List LentStep). take j x) (ends_append n front back)
    ∙ take_at (ends n back) (ends n front) j (omega (arith, length_ends n back, length-drop (length l - j) l))

run_append : (F : Form) (s : Tables) (xs ys : List LentStep) → run F s (xs ++ ys) ≡ run F (run F s xs) ys
run_append F s [] ys = refl
run_append F s ((n, x) ∷ xs) ys = run_append F (step F n s x).after xs ys

all_end_append : (F : Form) {s : Tables} {xs : List LentStep} (ys : List LentStep)
    → AllEnd F s xs → AllEnd F (run F s xs) ys → AllEnd F s (xs ++ ys)
all_end_append F ys no_end b = b
all_end_append F ys (an_end m k e a) b = an_end m k e (all_end_append F ys a b)

-- ---- one end

module _ (F : Form) (apart : Apart F) (n : ℕ) (s : Tables) (g : Good F s) (room : room_of s ≤ n) where
  -- the end of a ready task is accepted
  pub end_accepted : (t : ℕ) → task_at s t ≡ ready_word → step F n s (step_end t) ≡ effect F s (step_end t)
  unfolding first
  end_accepted t r =
      step_guarded F n s (step_end t) ∙ guarded_none _ _ s _ (ready_passes F apart n s g room t r [])

  module _ (v e : ℕ) where
    abbrev ended : Tables
    ended = with_ended F.base s e

    -- the last task of a chain is ready
    module _ (l : List ℕ) (c : Chain (waits s) v (l ++ e ∷ [])) where
      pub last_ready : task_at s e ≡ ready_word
      last_ready = subst (λ (x : ℕ). task_at s x ≡ ready_word) (chain_end_snoc v l e) (end_ready (waits s) c)

      last_below : e < length s.tasks
      last_below = within_table s.tasks e (λ (z : task_at s e ≡ 0). omega (arith, last_ready))

      after_end : (step F n s (step_end e)).after ≡ ended
      after_end = ap (λ (o : Outcome). o.after) (end_accepted e last_ready)

    length_ended : length ended.tasks ≡ length s.tasks
    length_ended =
        length-set (woken F.base s e) e ended_word
        ∙ length_replaced (awaits s.promises (owned_by e)) ready_word s.tasks

    -- its end leaves each link that does not lead to it, and makes ready who waited for it
    module _ (l : List ℕ) (c : Chain (waits s) v (l ++ e ∷ [])) where
      abbrev after : Graph
      after = graph (length s.tasks) (view ended)

      end_frame : Frame (waits s) after e
      end_frame =
          frame (length s.tasks) (length s.promises) F.base (view s) (view ended) e
          (end_moves (length s.tasks) (length s.promises) F.base s e (last_below l c) (last_ready l c)
          (last_below l c))

      end_frees : (x p : ℕ) → WaitsFor (length s.tasks) (view s) x p e → task_at ended x ≡ ready_word
      end_frees =
          end_wakes (length s.tasks) (length s.promises) F.base s e (last_below l c) (last_ready l c)
          (last_below l c)

    -- so it takes that task off the chain
    drain_one : (l : List ℕ) → Chain (waits s) v (l ++ e ∷ []) → Chain (waits (step F n s (step_end e)).after) v l
    drain_one l c =
        rw (after_end l c)
        (subst (λ (x : ℕ). Chain (graph x (view ended)) v l) (sym length_ended)
        (shorter (waits s) (after l c) e (det (length s.tasks) (view s)) (end_frame l c) (end_frees l c) l c))

    -- and a waiter before it keeps its word
    drain_word : (u : ℕ) (l : List ℕ) → Chain (waits s) v (u ∷ (l ++ e ∷ []))
        → task_at (step F n s (step_end e)).after v ≡ task_at s v
    drain_word u l c =
        let d = det (length s.tasks) (view s) in
        let (p, k, k') =
        shorter_word (waits s) (after (u ∷ l) c) e d (end_frame (u ∷ l) c) (end_frees (u ∷ l) c) l c in
        rw (after_end (u ∷ l) c) (k'.waits ∙ sym k.waits)

-- ---- the last ones, farthest first

module _ (F : Form) (apart : Apart F) (n : ℕ → ℕ) where
  -- the reports of the ends of m have room
  abbrev Roomy : Tables → List ℕ → Type 0
  Roomy s m = (u : ℕ) → In u m → room_of s ≤ n u

  -- and they still have it after some of them
  room_left : (s : Tables) (u : ℕ) (m : List ℕ) → room_of s ≤ n u → room_of (run F s (ends n m)) ≤ n u
  room_left s u m h = let l = run_lengths F apart s (ends n m) in omega (arith, l.tasks, l.promises)

  drains : (s : Tables) (v : ℕ) (l m : List ℕ) → Good F s → Roomy s m → Chain (waits s) v (l ++ m)
      → Chain (waits (run F s (ends n m))) v l
  drains s v l [] g room c = rw (append-nil l) at c
  drains s v l (u ∷ m) g room c =
      let c₁ : Chain (waits s) v ((l ++ u ∷ []) ++ m) = rw append_assoc c in
      let c₂ = drains s v (l ++ u ∷ []) m g (λ x i. room x (pop i)) c₁ in
      let g' = good_run F apart s (ends n m) g in
      rw (run_append F s (ends n m) ((n u, step_end u) ∷ []))
      (drain_one F apart (n u) (run F s (ends n m)) g' (room_left s u m (room u top)) v u l c₂)

  drains_word : (s : Tables) (v u : ℕ) (l m : List ℕ) → Good F s → Roomy s m → Chain (waits s) v (u ∷ (l ++ m))
      → task_at (run F s (ends n m)) v ≡ task_at s v
  drains_word s v u l [] g room c = refl
  drains_word s v u l (x ∷ m) g room c =
      let c₁ : Chain (waits s) v (u ∷ ((l ++ x ∷ []) ++ m)) = rw append_assoc c in
      let c₂ = drains s v (u ∷ (l ++ x ∷ [])) m g (λ y i. room y (pop i)) c₁ in
      let g' = good_run F apart s (ends n m) g in
      rw (run_append F s (ends n m) ((n x, step_end x) ∷ []))
      (drain_word F apart (n x) (run F s (ends n m)) g' (room_left s x m (room x top)) v x u l c₂
      ∙ drains_word s v u (l ++ x ∷ []) m g (λ y i. room y (pop i)) c₁)

  word_at : (s : Tables) (v : ℕ) (l m : List ℕ) → Good F s → Roomy s m → 1 ≤ length l → Chain (waits s) v (l ++ m)
      → task_at (run F s (ends n m)) v ≡ task_at s v
  word_at s v [] m g room h c = absurd (omega arith)
  word_at s v (u ∷ l) m g room h c = drains_word s v u l m g room c

  -- each of these ends is accepted when its turn comes
  all_accepted : (s : Tables) (v : ℕ) (l m : List ℕ) → Good F s → Roomy s m → Chain (waits s) v (l ++ m)
      → AllEnd F s (ends n m)
  all_accepted s v l [] g room c = no_end
  all_accepted s v l (u ∷ m) g room c =
      let c₁ : Chain (waits s) v ((l ++ u ∷ []) ++ m) = rw append_assoc c in
      let earlier : Roomy s m = λ x i. room x (pop i) in
      let s' = run F s (ends n m) in
      let g' = good_run F apart s (ends n m) g in
      let room' = room_left s u m (room u top) in
      let r = last_ready F apart (n u) s' g' room' v u l (drains s v (l ++ u ∷ []) m g earlier c₁) in
      all_end_append F ((n u, step_end u) ∷ []) (all_accepted s v (l ++ u ∷ []) m g earlier c₁)
      (an_end _ _ (ap (λ (o : Outcome). o.answer) (end_accepted F apart (n u) s' g' room' u r)) no_end)

  now_ready : (s : Tables) (v : ℕ) → Chain (waits s) v [] → task_at s v ≡ ready_word
  now_ready s v (here r) = r

  pub ends_in_turn : (s : Tables) → Good F s → (v : ℕ) (l : List ℕ) → Chain (waits s) v l → Roomy s l
      → AllEnd F s (ends n l)
      × ((j : ℕ) → j < length l → task_at (run F s (take j (ends n l))) v ≡ task_at s v)
      × (task_at (run F s (ends n l)) v ≡ ready_word)
  ends_in_turn s g v l c room =
      (all_accepted s v [] l g room c, before, now_ready (run F s (ends n l)) v (drains s v [] l g room c))
    where
      before : (j : ℕ) → j < length l → task_at (run F s (take j (ends n l))) v ≡ task_at s v
      before j h =
          let k = length l - j in
          let c₁ : Chain (waits s) v (take k l ++ drop k l) = rw take-append-drop c in
          let left : Roomy s (drop k l) = λ u i. room u (subst (In u) (take-append-drop k l) (in_right (take k l) i)) in
          rw (take_ends n l j (omega arith))
          (word_at s v (take k l) (drop k l) g left (omega (arith, length-take k l)) c₁)
