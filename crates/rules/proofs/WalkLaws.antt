-- The walks that compute, with a bound on their hops, against the chains: what they find is a chain, and a chain is
-- found if the bound allows for it. The laws of `walk` are said as a loop wants them. Assumes nothing.
use mathlib.Core.Path.{◌≡◌, refl, sym, ap, ap₂, ◌∙◌}
use mathlib.Core.Logic.{◌≢◌}
use mathlib.Core.List.{List, [], ◌∷◌}
use mathlib.Core.Bool.{Bool, true, false, ◌&&◌}
use Prim.Native.Nat.{ℕ, zero, suc, ◌+◌, ◌-◌, ◌≤◌, ◌<◌}
use native.Mathlib.Omega.{arith}
use native.Mathlib.Decide.{ℕ_discrete}
use lib.Dec.{eqb, leb, ltb}
use borrow.Author.Tests.{leb-true, ltb-true, eq-eqb, ne_eqb, le-leb, lt-ltb}
use lib.ListN.{length}
use Rattle.words.specs.Words.{ready_word, first_wait, waits_on, first_owned, owned_by}
use Rattle.words.proofs.BoolLaws.{and_yes, and_split}
use Rattle.rules.specs.Chains.{View, Chain, here, link, Comes, chain_end, graph}
use Rattle.rules.specs.Sound.{ready, lost, to, hop, hop_word, comes}
use Rattle.rules.specs.Steps.{astray, back, free, walk}

module _ (T : ℕ) (s : View) (w : ℕ) where
  -- what a hop from a task's word answers, and when
  pub data HopIs : Type 0 where
    is_ready : w ≡ ready_word → hop_word T s w ≡ ready → HopIs
    is_to : (p u : ℕ) → w ≡ waits_on p → s.promise p ≡ owned_by u → u < T → hop_word T s w ≡ to u → HopIs
    is_lost : w ≢ ready_word → ((p u : ℕ) → w ≡ waits_on p → s.promise p ≡ owned_by u → u < T → ⊥)
        → hop_word T s w ≡ lost
        → HopIs

  pub hop_yes : w ≡ ready_word → hop_word T s w ≡ ready
  hop_yes e = rw (eq-eqb w ready_word e)

  pub hop_to : (p u : ℕ) → w ≡ waits_on p → s.promise p ≡ owned_by u → u < T → hop_word T s w ≡ to u
  hop_to p u e o h =
      let i : w - first_wait ≡ p = omega arith in
      let j : s.promise (w - first_wait) ≡ owned_by u = ap (λ (x : ℕ). s.promise x) i ∙ o in
      let a : eqb w ready_word ≡ false = ne_eqb w ready_word (λ (z : w ≡ ready_word). omega arith) in
      let b : leb first_wait w ≡ true = le-leb first_wait w (omega arith) in
      let c : leb first_wait (s.promise (w - first_wait)) ≡ true =
      le-leb first_wait (s.promise (w - first_wait)) (omega arith) in
      let d : ltb (s.promise (w - first_wait) - first_owned) T ≡ true =
      lt-ltb (s.promise (w - first_wait) - first_owned) T (omega arith) in
      rw (a, b, c, d) (ap to (omega arith))

  pub hop_is : HopIs
  hop_is =
      go (ℕ_discrete w 1) (leb first_wait w) refl
      (leb first_wait (s.promise (w - first_wait)) && ltb (s.promise (w - first_wait) - first_owned) T) refl
    where
      at : (p u : ℕ) → w ≡ waits_on p → s.promise p ≡ owned_by u → s.promise (w - first_wait) ≡ owned_by u
      at p u e o = ap (λ (x : ℕ). s.promise x) (omega arith) ∙ o

      go : Dec (w ≡ ready_word) → (a : Bool) → leb first_wait w ≡ a → (b : Bool)
          → (leb first_wait (s.promise (w - first_wait)) && ltb (s.promise (w - first_wait) - first_owned) T) ≡ b
          → HopIs
      go (yes e) a x b y = is_ready e (hop_yes e)
      go (no n) true x true y =
          let (c, d) = and_split _ _ y in
          let le : first_wait ≤ w = leb-true first_wait w x in
          let lo : 16 ≤ s.promise (w - first_wait) = leb-true first_wait (s.promise (w - first_wait)) c in
          let lt : s.promise (w - first_wait) - first_owned < T = ltb-true _ _ d in
          let o : s.promise (w - first_wait) ≡ 16 + (s.promise (w - first_wait) - first_owned) = omega arith in
          is_to (w - first_wait) (s.promise (w - first_wait) - first_owned) (omega arith) o lt
          (hop_to (w - first_wait) (s.promise (w - first_wait) - first_owned) (omega arith) o lt)
      go (no n) true x false y =
          is_lost n
          (λ p u e o h.
          let j : s.promise (w - first_wait) ≡ owned_by u = at p u e o in
          let z : true ≡ false =
          sym
          (and_yes _ _ (le-leb first_wait (s.promise (w - first_wait)) (omega arith))
          (lt-ltb (s.promise (w - first_wait) - first_owned) T (omega arith)))
          ∙ y in
          let k : ◌≡◌ {A = ℕ} 0 1 = cc in
          omega arith)
          (rw (ne_eqb w ready_word n, x, y))
      go (no n) false x b y =
          is_lost n
          (λ p u e o h.
          let z : true ≡ false = sym (le-leb first_wait w (omega arith)) ∙ x in
          let k : ◌≡◌ {A = ℕ} 0 1 = cc in
          omega arith)
          (rw (ne_eqb w ready_word n, x))

  -- every other word is lost
  pub hop_lost : w ≢ ready_word → ((p u : ℕ) → w ≡ waits_on p → s.promise p ≡ owned_by u → u < T → ⊥)
      → hop_word T s w ≡ lost
  hop_lost n m = go hop_is
    where
      go : HopIs → hop_word T s w ≡ lost
      go (is_ready e h) = absurd (n e)
      go (is_to p u e o b h) = absurd (m p u e o b)
      go (is_lost a b h) = h

  pub hop_below : (u : ℕ) → hop_word T s w ≡ to u → u < T
  hop_below u e = go hop_is
    where
      go : HopIs → u < T
      go (is_ready a h) = let z : ready ≡ to u = sym h ∙ e in absurd (let k : ◌≡◌ {A = ℕ} 0 1 = cc in omega arith)
      go (is_to p x a o b h) = let z : x ≡ u = cc in omega arith
      go (is_lost a b h) = let z : lost ≡ to u = sym h ∙ e in absurd (let k : ◌≡◌ {A = ℕ} 0 1 = cc in omega arith)

-- the laws of the walk, as a loop wants them: n is the fuel that is left
module _ (T : ℕ) (s : View) (t u k : ℕ) where
  pub walk_zero : (n : ℕ) → n ≤ 0 → walk n T s t u k ≡ astray
  unfolding walk hop
  walk_zero zero h = refl
  walk_zero (suc n) h = absurd (omega arith)

  pub walk_here : (n : ℕ) → 0 < n → u ≡ t → walk n T s t u k ≡ back k
  unfolding walk hop
  walk_here zero h e = absurd (omega arith)
  walk_here (suc n) h e = rw (eq-eqb u t e)

  pub walk_ready : (n : ℕ) → 0 < n → u ≢ t → hop T s u ≡ ready → walk n T s t u k ≡ free k
  unfolding walk hop
  walk_ready zero h e f = absurd (omega arith)
  walk_ready (suc n) h e f = rw (ne_eqb u t e, f)

  pub walk_lost : (n : ℕ) → 0 < n → u ≢ t → hop T s u ≡ lost → walk n T s t u k ≡ astray
  unfolding walk hop
  walk_lost zero h e f = absurd (omega arith)
  walk_lost (suc n) h e f = rw (ne_eqb u t e, f)

  pub walk_on : (n x : ℕ) → 0 < n → u ≢ t → hop T s u ≡ to x → walk n T s t u k ≡ walk (n - 1) T s t x (k + 1)
  unfolding walk hop
  walk_on zero x h e f = absurd (omega arith)
  walk_on (suc n) x h e f =
      let i : n ≡ suc n - 1 = omega arith in
      let j : suc k ≡ k + 1 = omega arith in
      rw (ne_eqb u t e, f) (ap₂ (λ (a b : ℕ). walk a T s t x b) i j)

module _ (T : ℕ) (s : View) where
  -- what the test finds is a chain
  pub comes_chain : (n v : ℕ) → comes n T s v ≡ true → Comes (graph T s) v
  unfolding comes hop
  comes_chain zero v e = absurd (let k : ◌≡◌ {A = ℕ} 0 1 = cc in omega arith)
  comes_chain (suc n) v e = go (λ u h. comes_chain n u h) (hop_is T s (s.task v))
    where
      go : ((u : ℕ) → comes n T s u ≡ true → Comes (graph T s) u) → HopIs T s (s.task v) → Comes (graph T s) v
      go rec (is_ready r h) = ([], here r)
      go rec (is_to p u w o b h) =
          let (l, c) = rec u (rw h at e) in
          (u ∷ l, link {p = p} (record { waits = w; owned = o; below = b }) c)
      go rec (is_lost a b h) = let z : false ≡ true = rw h at e in absurd (let k : ◌≡◌ {A = ℕ} 0 1 = cc in omega arith)

  -- a chain is found, if there is fuel for it
  pub chain_comes_lem : (n : ℕ) {v : ℕ} {l : List ℕ} → Chain (graph T s) v l → length l < n → comes n T s v ≡ true
  unfolding comes hop
  chain_comes_lem zero c h = absurd (omega arith)
  chain_comes_lem (suc n) (here {t = v} r) h = rw (hop_yes T s (s.task v) r)
  chain_comes_lem (suc n) (link {t = v} {p = p} {u = u} k c) h =
      let f : hop T s v ≡ to u = hop_to T s (s.task v) p u k.waits k.owned k.below in
      rw f (chain_comes_lem n c (omega arith))

  -- The walk from u on behalf of a ready task t comes back to t if the chain of u ends at t, and otherwise to another
  -- ready task. Either way it has reached the tasks of the chain.
  module _ (t : ℕ) (r : s.task t ≡ ready_word) where
    pub walk_back : (n k : ℕ) {u : ℕ} {l : List ℕ} → Chain (graph T s) u l → length l < n → chain_end u l ≡ t
        → walk n T s t u k ≡ back (k + length l)
    unfolding walk hop
    walk_back zero k c h e = absurd (omega arith)
    walk_back (suc n) k (here {t = u} q) h e = rw (eq-eqb u t e) (ap back (omega arith))
    walk_back (suc n) k (link {t = v} {p = p} {u = u} {l = l} j c) h e =
        let f : hop T s v ≡ to u = hop_to T s (s.task v) p u j.waits j.owned j.below in
        let g : eqb v t ≡ false = ne_eqb v t (λ (z : v ≡ t). omega (arith, j.waits, ap (λ (x : ℕ). s.task x) z)) in
        rw (g, f) (walk_back n (suc k) c (omega arith) e ∙ ap back (omega arith))

    pub walk_free : (n k : ℕ) {u : ℕ} {l : List ℕ} → Chain (graph T s) u l → length l < n → chain_end u l ≢ t
        → walk n T s t u k ≡ free (k + length l)
    unfolding walk hop
    walk_free zero k c h e = absurd (omega arith)
    walk_free (suc n) k (here {t = u} q) h e = rw (ne_eqb u t e, hop_yes T s (s.task u) q) (ap free (omega arith))
    walk_free (suc n) k (link {t = v} {p = p} {u = u} {l = l} j c) h e =
        let f : hop T s v ≡ to u = hop_to T s (s.task v) p u j.waits j.owned j.below in
        let g : eqb v t ≡ false = ne_eqb v t (λ (z : v ≡ t). omega (arith, j.waits, ap (λ (x : ℕ). s.task x) z)) in
        rw (g, f) (walk_free n (suc k) c (omega arith) e ∙ ap free (omega arith))
