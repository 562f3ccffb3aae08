-- Chains over any graph of waits: a task has one chain, nobody stands on it twice, and what a step of one task leaves
-- of the others' chains. No words and no tables here: whatever later stands behind a wait, these laws stay. Assumes
-- nothing.
use mathlib.Core.Path.{◌≡◌, refl, sym, ap, ap₂, subst, ◌∙◌}
use mathlib.Core.Logic.{◌⊎◌, inl, inr, ◌≢◌}
use mathlib.Core.List.{List, [], ◌∷◌, ◌++◌}
use Prim.Native.Nat.{ℕ, ◌<◌}
use native.Mathlib.Omega.{arith}
use native.Mathlib.Decide.{ℕ_discrete}
use lib.ListN.{length}
use Rattle.words.specs.Lists.{In, top, pop}
use Rattle.words.proofs.ListLaws.{NoDup, no_more, another, in_nil}
use Rattle.rules.specs.Chains.{Graph, Chain, here, link, Comes, chain_end}

-- A task is not both ready and waiting, and waits for one task.
pub record Det (g : Graph) : Type 0 where
  pub not_both : (t w u : ℕ) → g.ready t → g.link t w u → ⊥
  pub one : (t w u w' u' : ℕ) → g.link t w u → g.link t w' u' → u ≡ u'

pub in_end : (t : ℕ) (l : List ℕ) → In (chain_end t l) (t ∷ l)
in_end t [] = top
in_end t (u ∷ l) = pop (in_end u l)

module _ (g : Graph) where
  -- the chain's end is ready
  pub end_ready : {t : ℕ} {l : List ℕ} → Chain g t l → g.ready (chain_end t l)
  end_ready (here r) = r
  end_ready (link k c) = end_ready c

  -- the part of a chain from one of its tasks on
  pub tail_of : {t x : ℕ} {l : List ℕ} → Chain g t l → In x l → (l' : List ℕ) × Chain g x l' × (length l' < length l)
  tail_of (here r) i = elim i [ ]
  tail_of (link {l = l} k c) top = (l, c, omega arith)
  tail_of (link k c) (pop i) = let (l', c', h) = tail_of c i in (l', c', omega arith)

  -- each task on a chain is ready or waits
  pub on_chain : {t x : ℕ} {l : List ℕ} → Chain g t l → In x (t ∷ l) → g.ready x ⊎ ((w : ℕ) × (u : ℕ) × g.link x w u)
  on_chain (here r) top = inl r
  on_chain (here r) (pop i) = elim i [ ]
  on_chain (link {p = w} {u = u} k c) top = inr (w, u, k)
  on_chain (link k c) (pop i) = on_chain c i

-- a chain stands in any graph that has its links and its end
pub chain_map : (g g' : Graph) → ((v : ℕ) → g.ready v → g'.ready v) → ((v w u : ℕ) → g.link v w u → g'.link v w u)
    → {v : ℕ} {l : List ℕ} → Chain g v l → Chain g' v l
chain_map g g' r k (here h) = here (r _ h)
chain_map g g' r k (link h c) = link (k _ _ _ h) (chain_map g g' r k c)

module _ (g : Graph) (d : Det g) where
  pub unique : {t : ℕ} {l l' : List ℕ} → Chain g t l → Chain g t l' → l ≡ l'
  unique (here r) (here r') = refl
  unique (here r) (link k c) = absurd (d.not_both _ _ _ r k)
  unique (link k c) (here r) = absurd (d.not_both _ _ _ r k)
  unique (link {u = u} k c) (link {u = u'} {l = l'} k' c') =
      let e : u ≡ u' = d.one _ _ _ _ _ k k' in
      ap₂ ◌∷◌ e (unique c (subst (λ (x : ℕ). Chain g x l') (sym e) c'))

  -- a chain does not come back
  pub no_return : {t : ℕ} {l : List ℕ} → Chain g t l → In t l → ⊥
  no_return c i =
      let (l', c', h) = tail_of g c i in
      let e = ap length (unique c c') in
      omega arith

  pub no_dup : {t : ℕ} {l : List ℕ} → Chain g t l → NoDup (t ∷ l)
  no_dup (here r) = another (in_nil _) no_more
  no_dup (link k c) = another (no_return (link k c)) (no_dup c)

  -- a ready task on a chain is its end
  pub ready_is_end : {t x : ℕ} {l : List ℕ} → Chain g t l → In x (t ∷ l) → g.ready x → x ≡ chain_end t l
  ready_is_end (here r) top q = refl
  ready_is_end (here r) (pop i) q = elim i [ ]
  ready_is_end (link k c) top q = absurd (d.not_both _ _ _ q k)
  ready_is_end (link k c) (pop i) q = ready_is_end c i q

-- What a step of the ready task t does to the graph at least: others stay ready, and each link that is not to t stays
-- with its word.
pub record Frame (g g' : Graph) (t : ℕ) : Type 0 where
  pub acts : g.ready t
  pub stay : (v : ℕ) → v ≢ t → g.ready v → g'.ready v
  pub keep : (v w u : ℕ) → u ≢ t → g.link v w u → g'.link v w u

module _ (g g' : Graph) (t : ℕ) (d : Det g) (f : Frame g g' t) where
  -- a waiting task is not the one that acts
  pub waits_not_acts : {v w u : ℕ} → g.link v w u → v ≢ t
  waits_not_acts {v} {w} {u} k e = d.not_both t w u f.acts (subst (λ (x : ℕ). g.link x w u) e k)

  -- a chain that does not end at t stays
  pub chain_stays : {v : ℕ} {l : List ℕ} → Chain g v l → chain_end v l ≢ t → Chain g' v l
  chain_stays (here r) h = here (f.stay _ h r)
  chain_stays (link k (here r)) h = link (f.keep _ _ _ h k) (here (f.stay _ h r))
  chain_stays (link k (link k' c)) h = link (f.keep _ _ _ (waits_not_acts k') k) (chain_stays (link k' c) h)

  -- and so does each word on it
  pub words_stay : {v x w u : ℕ} {l : List ℕ} → Chain g v l → chain_end v l ≢ t → In x (v ∷ l) → g.link x w u
      → g'.link x w u
  words_stay (here r) h top k = absurd (d.not_both _ _ _ r k)
  words_stay (here r) h (pop i) k = elim i [ ]
  words_stay {u = u} (link {u = y} {l = l} k' c) h top k = f.keep _ _ _ far k
    where
      far : u ≢ t
      far e =
          let y≡t : y ≡ t = d.one _ _ _ _ _ k' k ∙ e in
          h (sym (ready_is_end g d c top (subst (λ (x : ℕ). g.ready x) (sym y≡t) f.acts)) ∙ y≡t)
  words_stay (link k' c) h (pop i) k = words_stay c h i k

  -- Tasks other than t that come to a ready task still do, if those that wait for t do.
  pub grounds : ((v w : ℕ) → g.link v w t → Comes g' v) → {v : ℕ} {l : List ℕ} → Chain g v l → v ≢ t → Comes g' v
  grounds turn (here r) h = ([], here (f.stay _ h r))
  grounds turn (link {t = v} {p = w} {u = u} k c) h = go (ℕ_discrete u t) (grounds turn c)
    where
      go : Dec (u ≡ t) → (u ≢ t → Comes g' u) → Comes g' v
      go (yes e) rec = turn v w (subst (λ (x : ℕ). g.link v w x) e k)
      go (no n) rec = let (l', c') = rec n in (u ∷ l', link (f.keep _ _ _ n k) c')

-- Ending the task at the chain's end takes the chain_end link off.
module _ (g g' : Graph) (e : ℕ) (d : Det g) (f : Frame g g' e) (wake : (v w : ℕ) → g.link v w e → g'.ready v) where
  waits_of : {v : ℕ} (l : List ℕ) → Chain g v (l ++ e ∷ []) → (w : ℕ) × (u : ℕ) × g.link v w u
  waits_of [] (link {p = w} {u = u} k c) = (w, u, k)
  waits_of (x ∷ l) (link {p = w} {u = u} k c) = (w, u, k)

  pub shorter : {v : ℕ} (l : List ℕ) → Chain g v (l ++ e ∷ []) → Chain g' v l
  shorter [] (link k (here r)) = here (wake _ _ k)
  shorter (u ∷ l) (link k c) = link (f.keep _ _ _ (waits_not_acts g g' e d f (waits_of l c).2) k) (shorter l c)

  pub shorter_word : {v u : ℕ} (l : List ℕ) → Chain g v (u ∷ (l ++ e ∷ [])) → (w : ℕ) × g.link v w u × g'.link v w u
  shorter_word l (link {p = w} k c) = (w, k, f.keep _ _ _ (waits_not_acts g g' e d f (waits_of l c).2) k)
