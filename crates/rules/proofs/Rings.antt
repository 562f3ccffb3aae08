-- Request 4, "Show that the alarm is real", over the rules without the soundness test, in any tables. A crowd in which
-- each task waits on a promise that another of the crowd owns stays so after any steps: none of them may act, and
-- nobody else owns what they await. The tasks of a ring are such a crowd, and so is everybody whose chain runs into it.
-- Assumes nothing.
use mathlib.Core.Path.{◌≡◌, refl, sym, ap, subst, ◌∙◌}
use mathlib.Core.Logic.{◌⊎◌, inl, inr, ◌≢◌}
use mathlib.Core.List.{List, [], ◌∷◌}
use mathlib.Core.Bool.{Bool, true, false}
use Prim.Native.Nat.{ℕ, zero, suc, ◌+◌, ◌≤◌, ◌<◌}
use native.Mathlib.Omega.{arith}
use borrow.Author.Tests.{eqb-false, ne_eqb}
use lib.ListN.{length, length-set}
use lib.Seq.{get_or-set_same, get_or-set_other}
use Rattle.words.specs.Words.{Form, ready_word, waits_on, unmade_word, first_owned, owned_by}
use Rattle.words.proofs.ListLaws.{within_table}
use Rattle.words.proofs.BoolLaws.{not_is_false}
use Rattle.rules.specs.Tables.{Tables, sizes_fit, room_of, in_bounds, task_at, promise_at}
use Rattle.rules.specs.Chains.{WaitsFor, Chain, here, link, view, waits}
use Rattle.rules.specs.Sound.{Sound, to, hop, sound_test}
use Rattle.rules.specs.Refusals.{first, bounds_rows, get_rows}
use Rattle.rules.specs.Steps.{Step, step_get, actor, outcome, with_wait, astray, walk, followed, got, guarded, raw}
use Rattle.rules.specs.Steps.{step, untested, LentStep, ran}
use Rattle.rules.specs.Demands.{Apart, had_waited, Pair, this_pair, later_pair, LeadsTo, at_last, and_then, Stands}
use Rattle.rules.specs.Demands.{RunsInto, of_the_ring, behind_it}
use Rattle.rules.specs.declared.Answer.TheVariants.{Waits, Cycle, Refused}
use Rattle.rules.proofs.BoundsLaws.{AsLong, as_long, as_long_too, long_tasks, sizes_fit_kept, in_bounds_sizes}
use Rattle.rules.proofs.BoundsLaws.{in_bounds_both}
use Rattle.rules.proofs.Accepted.{Did, did_raw, lengths_kept, did_moves, got_owned}
use Rattle.rules.proofs.Alarms.{followed_stands, alarm_means}
use Rattle.rules.proofs.GuardLaws.{guarded_is, guarded_none}
use Rattle.rules.proofs.Kept.{fits, accepted_good}
use Rattle.rules.proofs.Moves.{link_words, Moves, frame}
use Rattle.rules.proofs.Named.{let_through}
use Rattle.rules.proofs.RefusalLaws.{first_past, actor_rows_none, ready_acts, made_passes}
use Rattle.rules.proofs.SoundTest.{sound_test_sound, sound_sound_test}
use Rattle.rules.proofs.WalkLaws.{hop_to}

-- in sound tables the rules without the test are the rules
pub untested_sound : (F : Form) (n : ℕ) (s : Tables) → Sound F.base s → (x : Step) → untested F n s x ≡ step F n s x
unfolding first
untested_sound F n s sd x = rw (sound_sound_test F.base s sd)

-- what they do not refuse by 1 is within its bounds
bounds_past : (F : Form) (n : ℕ) (s : Tables) → first (bounds_rows F n s) ≡ 0 → in_bounds F n s ≡ true
bounds_past F n s e = not_is_false _ (first_past 1 _ [] (eqb-false 1 0 refl) e).0

-- and they leave the tables as long as they were
ran_lengths : (F : Form) (s : Tables) (xs : List LentStep) → AsLong (ran (untested F) s xs) s
ran_lengths F s [] = as_long s
ran_lengths F s ((n, x) ∷ xs) =
    let s' = (untested F n s x).after in
    as_long_too (ran_lengths F s' xs) (lengths_kept F s x (first (bounds_rows F n s)))

-- ---- a crowd whose tasks wait for one another

module _ (W : ℕ → Type 0) where
  -- each task of the crowd W waits on a promise that a task of W owns
  abbrev Stuck : Tables → Type 0
  Stuck s = (v : ℕ) → W v → (p : ℕ) × (u : ℕ) × (task_at s v ≡ waits_on p) × (promise_at s p ≡ owned_by u) × W u

  -- the words of its tasks, and of what they await, are the same
  abbrev Same : Tables → Tables → Type 0
  Same s s' =
      (v : ℕ) → W v → (task_at s' v ≡ task_at s v)
      × ((p : ℕ) → task_at s v ≡ waits_on p → promise_at s' p ≡ promise_at s p)

  stuck_same : (s s' : Tables) → Stuck s → Same s s' → Stuck s'
  stuck_same s s' st same v m =
      let (p, u, w, o, m') = st v m in
      let (a, b) = same v m in
      (p, u, a ∙ w, b p w ∙ o, m')

  same_trans : (s s' s'' : Tables) → Same s s' → Same s' s'' → Same s s''
  same_trans s s' s'' f g v m =
      let (a, b) = f v m in
      let (c, d) = g v m in
      (c ∙ a, λ p w. d p (a ∙ w) ∙ b p w)

  module _ (s : Tables) (st : Stuck s) where
    -- a ready task is none of the crowd
    not_ready : (t v : ℕ) → task_at s t ≡ ready_word → W v → v ≢ t
    not_ready t v r m e = let (p, u, w, o, m') = st v m in omega (arith, ap (task_at s) e)

    below : (v : ℕ) → W v → v < length s.tasks
    below v m = let (p, u, w, o, m') = st v m in within_table s.tasks v (λ (z : task_at s v ≡ 0). omega arith)

    same_moves : (B t : ℕ) (s' : Tables) → Moves (length s.tasks) (length s.promises) B (view s) (view s') t
        → Same s s'
    same_moves B t s' mv v m =
        let (p, u, w, o, m') = st v m in
        let k : WaitsFor (length s.tasks) (view s) v p u = record { waits = w; owned = o; below = below u m' } in
        link_words (length s.tasks) (length s.tasks) (view s) (view s') v p u k
        ((frame (length s.tasks) (length s.promises) B (view s) (view s') t mv).keep v p u
        (not_ready t u mv.acts m') k)

    same_did : {B : ℕ} {s' : Tables} {x : Step} → Did B s x s' → Same s s'
    same_did {B} {s'} {x} d = go (did_moves d)
      where
        go : (s' ≡ s) ⊎ Moves (length s.tasks) (length s.promises) B (view s) (view s') (actor x) → Same s s'
        go (inl e) v m = (ap (λ (y : Tables). task_at y v) e, λ p w. ap (λ (y : Tables). promise_at y p) e)
        go (inr mv) v m = same_moves B (actor x) s' mv v m

    -- no chain to a ready task starts in it
    no_chain : {v : ℕ} {l : List ℕ} → W v → Chain (waits s) v l → ⊥
    no_chain m (here r) = not_ready _ _ r m refl
    no_chain m (link {t = v} {p = q} {u = x} k c) =
        let (p, u, w, o, m') = st v m in
        let e : p ≡ q = omega (arith, k.waits) in
        let f : u ≡ x = omega (arith, k.owned, ap (promise_at s) e) in
        no_chain (subst W f m') c

    not_sound : (B v : ℕ) → W v → Sound B s → ⊥
    not_sound B v m sd =
        let (p, u, w, o, m') = st v m in
        let (l, c) = sd.chain_comes v p w in
        no_chain m c

    -- following owners from it, on behalf of a ready task, finds neither that task nor another ready one
    walk_astray : (t : ℕ) → task_at s t ≡ ready_word → (n k u : ℕ) → W u
        → walk n (length s.tasks) (view s) t u k ≡ astray
    unfolding walk hop
    walk_astray t r zero k u m = refl
    walk_astray t r (suc n) k u m =
        let (p, x, w, o, m') = st u m in
        let f : hop (length s.tasks) (view s) u ≡ to x =
        hop_to (length s.tasks) (view s) (task_at s u) p x w o (below x m') in
        rw (ne_eqb u t (not_ready t u r m), f) (walk_astray t r n (suc k) x m')

    got_entered : (F : Form) → first_owned + length s.tasks ≤ F.base → (t p u : ℕ) → task_at s t ≡ ready_word
        → promise_at s p ≡ owned_by u → W u
        → got F.base s t p (promise_at s p) ≡ outcome (Waits (length s.tasks)) (with_wait s t p) []
    unfolding followed
    got_entered F f t p u r o m =
        got_owned F s f t p u (below u m) o ∙ ap (followed s t p) (walk_astray t r (length s.tasks) 1 u m)

  -- after any steps
  stuck_run : (F : Form) (s : Tables) → Stuck s → (xs : List LentStep) → Same s (ran (untested F) s xs)
  stuck_run F s st [] = λ v m. (refl, λ p w. refl)
  stuck_run F s st ((n, x) ∷ xs) =
      let s' = (untested F n s x).after in
      let one : Same s s' =
      guarded_is _ (first (bounds_rows F n s)) s (raw F s x) (Same s) (λ v m. (refl, λ p w. refl))
      (λ z. same_did s st (did_raw F s x)) in
      same_trans s s' (ran (untested F) s' xs) one (stuck_run F s' (stuck_same s s' st one) xs)

-- whoever waits on a promise of the crowd belongs to it
joined : (W : ℕ → Type 0) (s : Tables) → Stuck W s → (t p u : ℕ) → task_at s t ≡ ready_word
    → promise_at s p ≡ owned_by u
    → W u → Stuck (λ v. (v ≡ t) ⊎ W v) (with_wait s t p)
joined W s st t p u r o m v (inl e) =
    let b : t < length s.tasks = within_table s.tasks t (λ (z : task_at s t ≡ 0). omega arith) in
    (p, u, ap (task_at (with_wait s t p)) e ∙ get_or-set_same s.tasks t (waits_on p) 0 b, o, inr m)
joined W s st t p u r o m v (inr i) =
    let (q, x, w, o', m') = st v i in
    (q, x, get_or-set_other s.tasks t v (waits_on p) 0 (not_ready W s st t v r i) ∙ w, o', inr m')

-- ---- a ring

first_pair : {s : Tables} {t v p : ℕ} {ws : List ℕ} → LeadsTo s t v p ws → Pair v p ws
first_pair (at_last w o) = this_pair
first_pair (and_then w o n r) = this_pair

-- in each pair the task waits on the promise, whose owner is t or the task of a pair
record InPair (s : Tables) (t : ℕ) (ws : List ℕ) (u q : ℕ) : Type 0 where
  waits : task_at s u ≡ waits_on q
  owner : ℕ
  owned : promise_at s q ≡ owned_by owner
  next : (owner ≡ t) ⊎ ((y : ℕ) × Pair owner y ws)

later : {s : Tables} {t : ℕ} {ws : List ℕ} (v p u q : ℕ) → InPair s t ws u q → InPair s t (v ∷ p ∷ ws) u q
later {t = t} {ws = ws} v p u q k = record { waits = k.waits; owner = k.owner; owned = k.owned; next = go k.next }
  where
    go : {x : ℕ} → (x ≡ t) ⊎ ((y : ℕ) × Pair x y ws) → (x ≡ t) ⊎ ((y : ℕ) × Pair x y (v ∷ p ∷ ws))
    go (inl e) = inl e
    go (inr (y, j)) = inr (y, later_pair j)

pair_of : {s : Tables} {t v p : ℕ} {ws : List ℕ} → LeadsTo s t v p ws → {u q : ℕ} → Pair u q ws → InPair s t ws u q
pair_of {t = t} (at_last w o) this_pair = record { waits = w; owner = t; owned = o; next = inl refl }
pair_of (at_last w o) (later_pair i) = elim i [ ]
pair_of (and_then {u = u} {q = q} w o n r) this_pair =
    record { waits = w; owner = u; owned = o; next = inr (q, later_pair (first_pair r)) }
pair_of (and_then w o n r) (later_pair i) = later _ _ _ _ (pair_of r i)

-- the same words, the same ring
leads_same : {s s' : Tables} {t v p : ℕ} {ws : List ℕ} → LeadsTo s t v p ws
    → ((u q : ℕ) → Pair u q ws → task_at s u ≡ waits_on q
    → (task_at s' u ≡ task_at s u) × (promise_at s' q ≡ promise_at s q))
    → LeadsTo s' t v p ws
leads_same (at_last {v = v} {p = p} w o) same = let (a, b) = same v p this_pair w in at_last (a ∙ w) (b ∙ o)
leads_same (and_then {v = v} {p = p} w o n r) same =
    let (a, b) = same v p this_pair w in and_then (a ∙ w) (b ∙ o) n (leads_same r (λ u q i. same u q (later_pair i)))

module _ (s : Tables) (t p : ℕ) (ws : List ℕ) (ring : Stands s t p ws) where
  -- who runs into a ring waits for another who does
  into_stuck : Stuck (RunsInto s ws) s
  into_stuck v (of_the_ring {q = q} i) =
      let k = pair_of ring i in
      (q, k.owner, k.waits, k.owned, of_the_ring (next_pair k.next).1)
    where
      next_pair : {x : ℕ} → (x ≡ t) ⊎ ((y : ℕ) × Pair x y ws) → (y : ℕ) × Pair x y ws
      next_pair (inl e) = (p, subst (λ (y : ℕ). Pair y p ws) (sym e) (first_pair ring))
      next_pair (inr j) = j
  into_stuck v (behind_it {u = u} q w o r) = (q, u, w, o, r)

  module _ (F : Form) where
    -- after any steps the ring stands, and who runs into it still waits
    pub ring_stays : (xs : List LentStep) → Stands (ran (untested F) s xs) t p ws
    ring_stays xs =
        leads_same ring
        (λ u q i w. let (a, b) = stuck_run (RunsInto s ws) F s into_stuck xs u (of_the_ring i) in (a, b q w))

    pub into_stays : (v q : ℕ) → RunsInto s ws v → task_at s v ≡ waits_on q → (xs : List LentStep)
        → task_at (ran (untested F) s xs) v ≡ waits_on q
    into_stays v q r w xs = (stuck_run (RunsInto s ws) F s into_stuck xs v r).0 ∙ w

    -- whoever then waits on a promise of one who runs into it waits as long
    pub outsider_stays : (v q u : ℕ) → task_at s v ≡ ready_word → promise_at s q ≡ owned_by u → RunsInto s ws u
        → (xs : List LentStep) → task_at (ran (untested F) (with_wait s v q) xs) v ≡ waits_on q
    outsider_stays v q u r o i xs =
        let b : v < length s.tasks = within_table s.tasks v (λ (z : task_at s v ≡ 0). omega arith) in
        let st = joined (RunsInto s ws) s into_stuck v q u r o i in
        (stuck_run (λ x. (x ≡ v) ⊎ RunsInto s ws x) F (with_wait s v q) st xs v (inl refl)).0
        ∙ get_or-set_same s.tasks v (waits_on q) 0 b

    module _ (apart : Apart F) (sizes : sizes_fit F s ≡ true) (n : ℕ) (room : room_of s ≤ n) where
      bounds : in_bounds F n s ≡ true
      bounds = in_bounds_both F n s sizes room

      -- a get whose owners run into the ring is entered
      pub outsider_entered : (v q u : ℕ) → task_at s v ≡ ready_word → promise_at s q ≡ owned_by u → RunsInto s ws u
          → untested F n s (step_get v q) ≡ outcome (Waits (length s.tasks)) (with_wait s v q) []
      unfolding first
      outsider_entered v q u r o i =
          guarded_none _ (first (bounds_rows F n s)) s _ (rw bounds)
          ∙ guarded_none _ _ s _
          (ready_acts s.tasks v r (get_rows s.promises q)
          ∙ made_passes s.promises q (λ (z : promise_at s q ≡ unmade_word). omega arith))
          ∙ got_entered (RunsInto s ws) s into_stuck F (fits F apart s sizes) v q u r o i

      -- with the test, every step is refused by 2
      pub ring_refused : (x : Step) → step F n s x ≡ outcome (Refused 2) s []
      unfolding first guarded
      ring_refused x = go (sound_test F.base s) refl
        where
          go : (b : Bool) → sound_test F.base s ≡ b → step F n s x ≡ outcome (Refused 2) s []
          go true e =
              let sd = sound_test_sound F.base s (fits F apart s sizes) e in
              absurd (not_sound (RunsInto s ws) s into_stuck F.base t (of_the_ring (first_pair ring)) sd)
          go false e = rw (bounds, e)

-- ---- the ring of an alarm

-- an alarm of the rules without the test, on a promise that a task owns
module _ (F : Form) (apart : Apart F) (n : ℕ) (s : Tables) (t p k u : ℕ) (h : u < length s.tasks)
    (o : promise_at s p ≡ owned_by u) where
  -- had the wait been entered, its ring would stand
  untested_stands : (untested F n s (step_get t p)).answer ≡ Cycle k
      → Stands (with_wait s t p) t p (untested F n s (step_get t p)).words
  untested_stands alarm =
      let (y, z, e) = let_through F s (step_get t p) (bounds_rows F n s) (Cycle k) (λ r. elim r [ ]) alarm in
      let (act, z₁) = actor_rows_none s.tasks t (get_rows s.promises p) z in
      let f = fits F apart s (in_bounds_sizes F n s (bounds_past F n s y)) in
      followed_stands s t p act.below k u o (untested F n s (step_get t p)) (e ∙ got_owned F s f t p u h o) alarm

  pub untested_stays : (untested F n s (step_get t p)).answer ≡ Cycle k → (xs : List LentStep)
      → Stands (had_waited F s t p xs) t p (untested F n s (step_get t p)).words
  untested_stays alarm = ring_stays (with_wait s t p) t p _ (untested_stands alarm) F

-- an alarm
module _ (F : Form) (apart : Apart F) (n : ℕ) (s : Tables) (t p k : ℕ)
    (alarm : (step F n s (step_get t p)).answer ≡ Cycle k) where
  pub alarm_stays : (xs : List LentStep) → Stands (had_waited F s t p xs) t p (step F n s (step_get t p)).words
  alarm_stays = ring_stays (with_wait s t p) t p _ (alarm_means F apart n s t p k alarm).ring F

  pub alarm_real : (xs : List LentStep) (u q : ℕ) → Pair u q (step F n s (step_get t p)).words
      → task_at (had_waited F s t p xs) u ≡ waits_on q
  alarm_real xs u q i = (pair_of (alarm_stays xs) i).waits

  -- the tables stay as long as they were
  pub alarm_sizes : (xs : List LentStep) → sizes_fit F (had_waited F s t p xs) ≡ true
  alarm_sizes xs =
      let g = accepted_good F apart n s (step_get t p) (Cycle k) (λ r. elim r [ ]) alarm in
      let entered = long_tasks s (length-set s.tasks t (waits_on p)) in
      sizes_fit_kept F (as_long_too (ran_lengths F (with_wait s t p) xs) entered) g.sizes
