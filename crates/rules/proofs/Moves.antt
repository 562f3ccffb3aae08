-- What an accepted step may do to one word, and what follows: links that do not lead to the acting task stay (`frame`),
-- and sound tables stay sound (`sound_step`). A new step is one more proof of `Moves` and `SoundMoves`; nothing else
-- moves. Assumes nothing.
use mathlib.Core.Path.{◌≡◌, sym, ap, subst, ◌∙◌}
use mathlib.Core.Logic.{◌≢◌}
use mathlib.Core.List.{[], ◌∷◌}
use Prim.Native.Nat.{ℕ, ◌+◌, ◌≤◌, ◌<◌}
use native.Mathlib.Omega.{arith}
use native.Mathlib.Decide.{ℕ_discrete}
use Rattle.words.specs.Words.{unused_word, ready_word, ended_word, waits_on, unmade_word, set_word, owned_by, blamed_on}
use Rattle.rules.specs.Tables.{Live}
use Rattle.rules.specs.Chains.{here, link, Comes, View, WaitsFor, graph}
use Rattle.rules.specs.Sound.{TaskWord, ready, ended, waits, PromiseWord, done, owned, blamed, SoundView}
use Rattle.rules.proofs.BoundsLaws.{live_ready, live_waits}
use Rattle.rules.proofs.GraphLaws.{Det, Frame, grounds}

pub det : (T : ℕ) (s : View) → Det (graph T s)
det T s = record {
  not_both = λ t w u r k. omega (arith, k.waits);
  one = λ t w u w' u' k k'.
      let e : w ≡ w' = omega (arith, k.waits, k'.waits) in
      omega (arith, k.owned, k'.owned, ap s.promise e);
}

-- a link that stays: the word of the task that waits and of what it awaits are the same
pub link_words : (T T' : ℕ) (s s' : View) (v q u : ℕ) → WaitsFor T s v q u → WaitsFor T' s' v q u
    → (s'.task v ≡ s.task v) × ((p : ℕ) → s.task v ≡ waits_on p → s'.promise p ≡ s.promise p)
link_words T T' s s' v q u k k' = (
  k'.waits ∙ sym k.waits,
  λ p (w : s.task v ≡ waits_on p).
      let e : q ≡ p = omega (arith, k.waits) in
      subst (λ (x : ℕ). s'.promise x ≡ s.promise x) e (k'.owned ∙ sym k.owned),
)

-- ---- What an accepted step of t may do to a word

pub data TaskMove (P B : ℕ) (s s' : View) (t v : ℕ) : Type 0 where
  t_same : s'.task v ≡ s.task v → TaskMove P B s s' t v
  t_woken : (p : ℕ) → s.task v ≡ waits_on p → s.promise p ≡ owned_by t → s'.task v ≡ ready_word → TaskMove P B s s' t v
  t_started : s.task v ≡ unused_word → s'.task v ≡ ready_word → TaskMove P B s s' t v
  t_ended : v ≡ t → s'.task v ≡ ended_word → TaskMove P B s s' t v
  t_waits : (p : ℕ) → p < P → v ≡ t → s'.task v ≡ waits_on p → TaskMove P B s s' t v

pub data PromiseMove (T B : ℕ) (s s' : View) (t q : ℕ) : Type 0 where
  p_same : s'.promise q ≡ s.promise q → PromiseMove T B s s' t q
  p_made : s.promise q ≡ unmade_word → s'.promise q ≡ owned_by t → PromiseMove T B s s' t q
  p_set : s.promise q ≡ owned_by t → s'.promise q ≡ set_word → PromiseMove T B s s' t q
  p_blamed : s.promise q ≡ owned_by t → s'.promise q ≡ blamed_on B t → s'.task t ≡ ended_word → PromiseMove T B s s' t q
  p_moved : (c : ℕ) → c < T → s.promise q ≡ owned_by t → s'.promise q ≡ owned_by c → s'.task c ≡ ready_word
      → PromiseMove T B s s' t q

-- What an accepted step of t does to the words, whether or not the tables are sound.
pub record Moves (T P B : ℕ) (s s' : View) (t : ℕ) : Type 0 where
  pub below : t < T
  pub acts : s.task t ≡ ready_word
  pub task : (v : ℕ) → TaskMove P B s s' t v
  pub prom : (q : ℕ) → PromiseMove T B s s' t q

-- What it does besides in sound tables.
pub record SoundMoves (T P B : ℕ) (s s' : View) (t : ℕ) : Type 0 where
  pub moves : Moves T P B s s' t
  -- whoever waits waits on something that is owned
  pub open_still : (v p : ℕ) → s'.task v ≡ waits_on p → (u : ℕ) × (u < T) × (s'.promise p ≡ owned_by u)
  -- an ended task owns nothing
  pub left : s'.task t ≡ ended_word → (q : ℕ) → s'.promise q ≡ owned_by t → ⊥
  -- a wait is entered only where its chain comes to a ready task
  pub wait : (p : ℕ) → s'.task t ≡ waits_on p → Comes (graph T s') t

module _ (T P B : ℕ) (s s' : View) (t : ℕ) (st : Moves T P B s s' t) where
  stays : (v : ℕ) → v ≢ t → s.task v ≡ ready_word → TaskMove P B s s' t v → s'.task v ≡ ready_word
  stays v n r (t_same e) = omega arith
  stays v n r (t_woken p a b c) = c
  stays v n r (t_started a b) = b
  stays v n r (t_ended e a) = absurd (n e)
  stays v n r (t_waits p b e a) = absurd (n e)

  keeps : (v p u : ℕ) → u ≢ t → WaitsFor T s v p u → TaskMove P B s s' t v → PromiseMove T B s s' t p
      → WaitsFor T s' v p u
  keeps v p u n k (t_same e) (p_same f) =
      record { waits = omega (arith, k.waits); owned = omega (arith, k.owned); below = k.below }
  keeps v p u n k (t_same e) (p_made a b) = absurd (omega (arith, k.owned))
  keeps v p u n k (t_same e) (p_set a b) = absurd (n (omega (arith, k.owned)))
  keeps v p u n k (t_same e) (p_blamed a b c) = absurd (n (omega (arith, k.owned)))
  keeps v p u n k (t_same e) (p_moved c x a b f) = absurd (n (omega (arith, k.owned)))
  keeps v p u n k (t_woken p' a b c) m =
      let e : p' ≡ p = omega (arith, k.waits) in
      absurd (n (omega (arith, k.owned, ap s.promise e)))
  keeps v p u n k (t_started a b) m = absurd (omega (arith, k.waits))
  keeps v p u n k (t_ended e a) m = absurd (omega (arith, k.waits, ap s.task e, st.acts))
  keeps v p u n k (t_waits p' b e a) m = absurd (omega (arith, k.waits, ap s.task e, st.acts))

  pub frame : Frame (graph T s) (graph T s') t
  frame = record {
    acts = st.acts;
    stay = λ v n r. stays v n r (st.task v);
    keep = λ v p u n k. keeps v p u n k (st.task v) (st.prom p);
  }

-- ---- A step keeps tables sound

module _ (T P B : ℕ) (fits : 16 + T ≤ B) (s s' : View) (t : ℕ) (sd : SoundView T P B s) (st : SoundMoves T P B s s' t)
  where
    task_word_lem : (v : ℕ) → TaskMove P B s s' t v → TaskWord P (s.task v) → TaskWord P (s'.task v)
    task_word_lem v (t_same e) w = subst (TaskWord P) (sym e) w
    task_word_lem v (t_woken p a b c) w = ready c
    task_word_lem v (t_started a b) w = ready b
    task_word_lem v (t_ended e a) w = ended a
    task_word_lem v (t_waits p b e a) w = waits p b a

    prom_word : (q : ℕ) → PromiseMove T B s s' t q → PromiseWord T B (s.promise q) → PromiseWord T B (s'.promise q)
    prom_word q (p_same e) w = subst (PromiseWord T B) (sym e) w
    prom_word q (p_made a b) w = owned t st.moves.below b
    prom_word q (p_set a b) w = done b
    prom_word q (p_blamed a b c) w = blamed t st.moves.below b
    prom_word q (p_moved c x a b f) w = owned c x b

    live_stays : (q u : ℕ) → s'.promise q ≡ owned_by u → TaskMove P B s s' t u → Live (s.task u) → Live (s'.task u)
    live_stays q u o (t_same e) l = subst Live (sym e) l
    live_stays q u o (t_woken p a b c) l = live_ready _ c
    live_stays q u o (t_started a b) l = live_ready _ b
    live_stays q u o (t_ended e a) l = absurd (st.left (ap s'.task (sym e) ∙ a) q (o ∙ ap (owned_by) e))
    live_stays q u o (t_waits p b e a) l = live_waits (s'.task u) (omega arith)

    owner_lives : (q u : ℕ) → u < T → s'.promise q ≡ owned_by u → PromiseMove T B s s' t q → Live (s'.task u)
    owner_lives q u h o (p_same e) = live_stays q u o (st.moves.task u) (sd.owner_live q u h (sym e ∙ o))
    owner_lives q u h o (p_made a b) =
        let e : t ≡ u = omega arith in
        live_stays q u o (st.moves.task u) (live_ready _ (ap s.task (sym e) ∙ st.moves.acts))
    owner_lives q u h o (p_set a b) = absurd (omega arith)
    owner_lives q u h o (p_blamed a b c) = absurd (omega arith)
    owner_lives q u h o (p_moved c x a b f) =
        let e : c ≡ u = omega arith in
        live_ready _ (ap s'.task (sym e) ∙ f)

    ended_stays : (q u : ℕ) → s'.promise q ≡ blamed_on B u → s.task u ≡ ended_word → TaskMove P B s s' t u
        → s'.task u ≡ ended_word
    ended_stays q u o z (t_same e) = e ∙ z
    ended_stays q u o z (t_woken p a b c) = absurd (omega arith)
    ended_stays q u o z (t_started a b) = absurd (omega arith)
    ended_stays q u o z (t_ended e a) = a
    ended_stays q u o z (t_waits p b e a) = absurd (omega (arith, ap s.task e, st.moves.acts))

    blamed_ends : (q u : ℕ) → u < T → s'.promise q ≡ blamed_on B u → PromiseMove T B s s' t q → s'.task u ≡ ended_word
    blamed_ends q u h o (p_same e) = ended_stays q u o (sd.blamed_ended q u h (sym e ∙ o)) (st.moves.task u)
    blamed_ends q u h o (p_made a b) = absurd (omega (arith, st.moves.below))
    blamed_ends q u h o (p_set a b) = absurd (omega arith)
    blamed_ends q u h o (p_blamed a b c) =
        let e : t ≡ u = omega arith in
        ap s'.task (sym e) ∙ c
    blamed_ends q u h o (p_moved c x a b f) = absurd (omega arith)

    -- the acting task, if something still waits for it
    actor_ground : (q : ℕ) → s'.promise q ≡ owned_by t → TaskMove P B s s' t t → Comes (graph T s') t
    actor_ground q o (t_same e) = ([], here (e ∙ st.moves.acts))
    actor_ground q o (t_woken p a b c) = ([], here c)
    actor_ground q o (t_started a b) = ([], here b)
    actor_ground q o (t_ended e a) = absurd (st.left a q o)
    actor_ground q o (t_waits p b e a) = st.wait p a

    turn_at : (v p u : ℕ) → WaitsFor T s v p t → s'.task v ≡ waits_on p → u < T → s'.promise p ≡ owned_by u
        → PromiseMove T B s s' t p → Comes (graph T s') v
    turn_at v p u k w h o (p_same e) =
        let (l, c) = actor_ground p (e ∙ k.owned) (st.moves.task t) in
        (t ∷ l, link (record { waits = w; owned = e ∙ k.owned; below = st.moves.below }) c)
    turn_at v p u k w h o (p_made a b) = absurd (omega (arith, k.owned))
    turn_at v p u k w h o (p_set a b) = absurd (omega arith)
    turn_at v p u k w h o (p_blamed a b c) = absurd (omega arith)
    turn_at v p u k w h o (p_moved c x a b f) = (c ∷ [], link (record { waits = w; owned = b; below = x }) (here f))

    turn : (v p : ℕ) → WaitsFor T s v p t → TaskMove P B s s' t v → Comes (graph T s') v
    turn v p k (t_same e) =
        let w : s'.task v ≡ waits_on p = e ∙ k.waits in
        let (u, h, o) = st.open_still v p w in
        turn_at v p u k w h o (st.moves.prom p)
    turn v p k (t_woken p' a b c) = ([], here c)
    turn v p k (t_started a b) = ([], here b)
    turn v p k (t_ended e a) = absurd (omega (arith, k.waits, ap s.task e, st.moves.acts))
    turn v p k (t_waits p' b e a) = absurd (omega (arith, k.waits, ap s.task e, st.moves.acts))

    grounded_by : (v p : ℕ) → s'.task v ≡ waits_on p → v ≢ t → TaskMove P B s s' t v → Comes (graph T s') v
    grounded_by v p w n (t_same e) =
        let (l, c) = sd.chain_comes v p (sym e ∙ w) in
        grounds (graph T s) (graph T s') t (det T s) (frame T P B s s' t st.moves)
        (λ x q k. turn x q k (st.moves.task x)) c n
    grounded_by v p w n (t_woken p' a b c) = absurd (omega arith)
    grounded_by v p w n (t_started a b) = absurd (omega arith)
    grounded_by v p w n (t_ended e a) = absurd (n e)
    grounded_by v p w n (t_waits p' b e a) = absurd (n e)

    grounded : (v p : ℕ) → s'.task v ≡ waits_on p → Dec (v ≡ t) → Comes (graph T s') v
    grounded v p w (yes e) = subst (Comes (graph T s')) (sym e) (st.wait p (ap s'.task (sym e) ∙ w))
    grounded v p w (no n) = grounded_by v p w n (st.moves.task v)

    pub sound_step : SoundView T P B s'
    sound_step = record {
      task_word = λ v. task_word_lem v (st.moves.task v) (sd.task_word v);
      promise_word = λ q. prom_word q (st.moves.prom q) (sd.promise_word q);
      owner_live = λ q u h o. owner_lives q u h o (st.moves.prom q);
      awaited_owned = st.open_still;
      blamed_ended = λ q u h o. blamed_ends q u h o (st.moves.prom q);
      chain_comes = λ v p w. grounded v p w (ℕ_discrete v t);
    }
