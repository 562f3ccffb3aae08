-- What each of the five steps does to the words: `X-moves` in any tables, `X-sound` in sound ones. Assumes nothing.
use mathlib.Core.Path.{◌≡◌, refl, sym, ap, subst, ◌∙◌}
use mathlib.Core.Logic.{◌⊎◌, inl, inr, ◌≢◌}
use mathlib.Core.List.{List, [], ◌∷◌}
use mathlib.Core.Bool.{Bool, true, false}
use Prim.Native.Nat.{ℕ, ◌+◌, ◌-◌, ◌≤◌, ◌<◌}
use native.Mathlib.Omega.{arith}
use native.Mathlib.Decide.{ℕ_discrete}
use lib.Dec.{leb}
use borrow.Author.Tests.{eqb-true, leb-true, eq-eqb, le-leb}
use lib.ListN.{length, get_or, set}
use lib.Seq.{get_or-set_same, get_or-set_other, lt-length-set}
use Rattle.words.specs.Words.{unused_word, ready_word, ended_word, waits_on, first_wait, unmade_word, owned_by}
use Rattle.words.specs.Words.{blamed_on}
use Rattle.words.specs.Lists.{is, replaced, In, top, pop}
use Rattle.words.proofs.BoolLaws.{and_yes, and_no, and_split, true_is_not_false}
use Rattle.words.proofs.ListLaws.{is_hit, is_miss, replaced_hit, replaced_miss, length_replaced}
use Rattle.rules.specs.Tables.{Tables, task_at, promise_at, waiting}
use Rattle.rules.specs.Chains.{View, view, graph, WaitsFor, Chain, link, chain_end}
use Rattle.rules.specs.Sound.{SoundView}
use Rattle.rules.specs.Steps.{with_made, with_set, with_wait, given, with_started, awaits, with_ended}
use Rattle.rules.proofs.GraphLaws.{chain_stays}
use Rattle.rules.proofs.Moves.{det, TaskMove, PromiseMove, Moves, SoundMoves, frame}

-- ---- reads after a change

is_zero : (n : ℕ) → is (first_wait + n) 0 ≡ false
is_zero n = is_miss (first_wait + n) 0 (λ (e : 0 ≡ first_wait + n). omega arith)

module _ (ps : List ℕ) (v : ℕ) where
  pub awaits_hit : (w p : ℕ) → w ≡ waits_on p → get_or ps p 0 ≡ v → awaits ps v w ≡ true
  unfolding awaits
  awaits_hit w p e o =
      let i : w - first_wait ≡ p = omega arith in
      and_yes _ _ (le-leb first_wait w (omega arith)) (eq-eqb _ _ (ap (λ (x : ℕ). get_or ps x 0) i ∙ o))

  pub awaits_miss : (w : ℕ) → ((p : ℕ) → w ≡ waits_on p → get_or ps p 0 ≡ v → ⊥) → awaits ps v w ≡ false
  unfolding awaits
  awaits_miss w n =
      and_no _ _
      (λ (a : leb first_wait w ≡ true) b. n (w - first_wait) (omega (arith, leb-true first_wait w a)) (eqb-true _ _ b))

  pub awaits_true : (w : ℕ) → awaits ps v w ≡ true → (p : ℕ) × (w ≡ waits_on p) × (get_or ps p 0 ≡ v)
  unfolding awaits
  awaits_true w e =
      let (a, b) = and_split (waiting w) _ e in
      (w - first_wait, omega (arith, leb-true first_wait w a), eqb-true _ _ b)

  awaits_zero : awaits ps v 0 ≡ false
  unfolding awaits
  awaits_zero = refl

-- a word after the listed promises were given: as before, or listed and given
pub read_given : (w : ℕ) (l ps : List ℕ) → ((q : ℕ) → In q l → q < length ps) → (q : ℕ)
    → (get_or (given w l ps) q 0 ≡ get_or ps q 0) ⊎ (In q l × (get_or (given w l ps) q 0 ≡ w))
unfolding given
read_given w [] ps h q = inl refl
read_given w (x ∷ l) ps h q =
    go (read_given w l (set ps x w) (λ y i. lt-length-set ps x w (h y (pop i))) q) (ℕ_discrete q x)
  where
    go : (get_or (given w l (set ps x w)) q 0 ≡ get_or (set ps x w) q 0)
        ⊎ (In q l × (get_or (given w l (set ps x w)) q 0 ≡ w))
        → Dec (q ≡ x)
        → (get_or (given w l (set ps x w)) q 0 ≡ get_or ps q 0)
        ⊎ (In q (x ∷ l) × (get_or (given w l (set ps x w)) q 0 ≡ w))
    go (inr i) e = inr (pop i.0, i.1)
    go (inl r) (yes e) =
        inr (
          subst (λ (y : ℕ). In y (x ∷ l)) (sym e) top,
          r ∙ ap (λ (y : ℕ). get_or (set ps x w) y 0) e ∙ get_or-set_same ps x w 0 (h x top),
        )
    go (inl r) (no n) = inl (r ∙ get_or-set_other ps x q w 0 n)

-- ---- what set and end make of a word

module _ (s : Tables) (p v : ℕ) where
  pub set_hit : task_at s v ≡ waits_on p → task_at (with_set s p) v ≡ ready_word
  set_hit e = replaced_hit (is (waits_on p)) ready_word s.tasks v (is_zero p) (is_hit (waits_on p) (task_at s v) e)

  pub set_miss : task_at s v ≢ waits_on p → task_at (with_set s p) v ≡ task_at s v
  set_miss n = replaced_miss (is (waits_on p)) ready_word s.tasks v (is_zero p) (is_miss (waits_on p) (task_at s v) n)

module _ (B : ℕ) (s : Tables) (t : ℕ) where
  pub blame_hit : (q : ℕ) → promise_at s q ≡ owned_by t → promise_at (with_ended B s t) q ≡ blamed_on B t
  blame_hit q e =
      replaced_hit (is (owned_by t)) (blamed_on B t) s.promises q (is_zero t) (is_hit (owned_by t) (promise_at s q) e)

  pub blame_miss : (q : ℕ) → promise_at s q ≢ owned_by t → promise_at (with_ended B s t) q ≡ promise_at s q
  blame_miss q n =
      replaced_miss (is (owned_by t)) (blamed_on B t) s.promises q (is_zero t) (is_miss (owned_by t) (promise_at s q) n)

  -- v waits on a promise of t
  abbrev Waiter : ℕ → Type 0
  Waiter v = (p : ℕ) × (task_at s v ≡ waits_on p) × (promise_at s p ≡ owned_by t)

  waiter? : (v : ℕ) → Dec (Waiter v)
  waiter? v = go (awaits s.promises (owned_by t) (task_at s v)) refl
    where
      go : (b : Bool) → awaits s.promises (owned_by t) (task_at s v) ≡ b → Dec (Waiter v)
      go true e = yes (awaits_true s.promises (owned_by t) (task_at s v) e)
      go false e =
          no (λ k. true_is_not_false (sym (awaits_hit s.promises (owned_by t) (task_at s v) k.0 k.1 k.2) ∙ e))

  abbrev pub woken : List ℕ
  woken = replaced (awaits s.promises (owned_by t)) ready_word s.tasks

  module _ (v : ℕ) (other : v ≢ t) where
    end_other : task_at (with_ended B s t) v ≡ get_or woken v 0
    end_other = get_or-set_other woken t v ended_word 0 other

    pub end_hit : Waiter v → task_at (with_ended B s t) v ≡ ready_word
    end_hit k =
        end_other
        ∙ replaced_hit (awaits s.promises (owned_by t)) ready_word s.tasks v (awaits_zero s.promises (owned_by t))
        (awaits_hit s.promises (owned_by t) (task_at s v) k.0 k.1 k.2)

    pub end_miss : (Waiter v → ⊥) → task_at (with_ended B s t) v ≡ task_at s v
    end_miss n =
        end_other
        ∙ replaced_miss (awaits s.promises (owned_by t)) ready_word s.tasks v (awaits_zero s.promises
        (owned_by t))
        (awaits_miss s.promises (owned_by t) (task_at s v) (λ p a b. n (p, a, b)))

  pub end_actor : t < length s.tasks → task_at (with_ended B s t) t ≡ ended_word
  end_actor b =
      get_or-set_same woken t ended_word 0
      (omega (arith, length_replaced (awaits s.promises (owned_by t)) ready_word s.tasks))

-- ---- in any tables

module _ (T P B : ℕ) (s : Tables) (t : ℕ) (t<T : t < T) (rt : task_at s t ≡ ready_word) where
  module _ (p : ℕ) (p<P : p < length s.promises) (free : promise_at s p ≡ unmade_word) where
    pub new_moves : Moves T P B (view s) (view (with_made s t p)) t
    new_moves = record { below = t<T; acts = rt; task = λ v. TaskMove.t_same refl; prom = λ q. go q (ℕ_discrete q p) }
      where
        go : (q : ℕ) → Dec (q ≡ p) → PromiseMove T B (view s) (view (with_made s t p)) t q
        go q (yes e) =
            PromiseMove.p_made (ap (promise_at s) e ∙ free)
            (ap (λ (x : ℕ). get_or (set s.promises p (owned_by t)) x 0) e
            ∙ get_or-set_same s.promises p (owned_by t) 0 p<P)
        go q (no n) = PromiseMove.p_same (get_or-set_other s.promises p q (owned_by t) 0 n)

  module _ (p : ℕ) (p<P : p < length s.promises) (mine : promise_at s p ≡ owned_by t) where
    pub set_moves : Moves T P B (view s) (view (with_set s p)) t
    set_moves =
        record {
          below = t<T;
          acts = rt;
          task = λ v. task v (ℕ_discrete (task_at s v) (waits_on p));
          prom = λ q. prom q (ℕ_discrete q p);
        }
      where
        task : (v : ℕ) → Dec (task_at s v ≡ waits_on p) → TaskMove P B (view s) (view (with_set s p)) t v
        task v (yes e) = TaskMove.t_woken p e mine (set_hit s p v e)
        task v (no n) = TaskMove.t_same (set_miss s p v n)

        prom : (q : ℕ) → Dec (q ≡ p) → PromiseMove T B (view s) (view (with_set s p)) t q
        prom q (yes e) =
            PromiseMove.p_set (ap (promise_at s) e ∙ mine)
            (ap (λ (x : ℕ). get_or (set s.promises p 1) x 0) e ∙ get_or-set_same s.promises p 1 0 p<P)
        prom q (no n) = PromiseMove.p_same (get_or-set_other s.promises p q 1 0 n)

  module _ (p : ℕ) (p<P : p < P) (t<n : t < length s.tasks) where
    pub get_moves : Moves T P B (view s) (view (with_wait s t p)) t
    get_moves =
        record { below = t<T; acts = rt; task = λ v. task v (ℕ_discrete v t); prom = λ q. PromiseMove.p_same refl }
      where
        task : (v : ℕ) → Dec (v ≡ t) → TaskMove P B (view s) (view (with_wait s t p)) t v
        task v (yes e) =
            TaskMove.t_waits p p<P e
            (ap (λ (x : ℕ). task_at (with_wait s t p) x) e ∙ get_or-set_same s.tasks t (waits_on p) 0 t<n)
        task v (no n) = TaskMove.t_same (get_or-set_other s.tasks t v (waits_on p) 0 n)

  module _ (c : ℕ) (c<T : c < T) (c<n : c < length s.tasks) (fresh : task_at s c ≡ unused_word) (l : List ℕ)
      (inside : (q : ℕ) → In q l → q < length s.promises) (mine : (q : ℕ) → In q l → promise_at s q ≡ owned_by t) where
    pub async_moves : Moves T P B (view s) (view (with_started s c l)) t
    async_moves =
        record {
          below = t<T;
          acts = rt;
          task = λ v. task v (ℕ_discrete v c);
          prom = λ q. prom q (read_given (owned_by c) l s.promises inside q);
        }
      where
        task : (v : ℕ) → Dec (v ≡ c) → TaskMove P B (view s) (view (with_started s c l)) t v
        task v (yes e) =
            TaskMove.t_started (ap (task_at s) e ∙ fresh)
            (ap (λ (x : ℕ). task_at (with_started s c l) x) e ∙ get_or-set_same s.tasks c 1 0 c<n)
        task v (no n) = TaskMove.t_same (get_or-set_other s.tasks c v 1 0 n)

        prom : (q : ℕ)
            → (promise_at (with_started s c l) q ≡ promise_at s q)
            ⊎ (In q l × (promise_at (with_started s c l) q ≡ owned_by c))
            → PromiseMove T B (view s) (view (with_started s c l)) t q
        prom q (inl e) = PromiseMove.p_same e
        prom q (inr i) = PromiseMove.p_moved c c<T (mine q i.0) i.1 (get_or-set_same s.tasks c 1 0 c<n)

module _ (T P B : ℕ) (s : Tables) (t : ℕ) (t<T : t < T) (rt : task_at s t ≡ ready_word) (t<n : t < length s.tasks)
  where
    pub end_moves : Moves T P B (view s) (view (with_ended B s t)) t
    end_moves =
        record {
          below = t<T;
          acts = rt;
          task = λ v. task v (ℕ_discrete v t) (waiter? B s t v);
          prom = λ q. prom q (ℕ_discrete (promise_at s q) (owned_by t));
        }
      where
        task : (v : ℕ) → Dec (v ≡ t) → Dec (Waiter B s t v) → TaskMove P B (view s) (view (with_ended B s t)) t v
        task v (yes e) x = TaskMove.t_ended e (ap (task_at (with_ended B s t)) e ∙ end_actor B s t t<n)
        task v (no n) (yes k) = TaskMove.t_woken k.0 k.1 k.2 (end_hit B s t v n k)
        task v (no n) (no m) = TaskMove.t_same (end_miss B s t v n m)

        prom : (q : ℕ) → Dec (promise_at s q ≡ owned_by t) → PromiseMove T B (view s) (view (with_ended B s t)) t q
        prom q (yes e) = PromiseMove.p_blamed e (blame_hit B s t q e) (end_actor B s t t<n)
        prom q (no n) = PromiseMove.p_same (blame_miss B s t q n)

    -- whoever waited on t is ready
    pub end_wakes : (v p : ℕ) → WaitsFor T (view s) v p t → task_at (with_ended B s t) v ≡ ready_word
    end_wakes v p k = end_hit B s t v (λ (e : v ≡ t). omega (arith, k.waits, ap (task_at s) e)) (p, k.waits, k.owned)

-- ---- in sound tables

module _ (T P B : ℕ) (fits : 16 + T ≤ B) (s : Tables) (sd : SoundView T P B (view s)) (t : ℕ) (t<T : t < T)
    (rt : task_at s t ≡ ready_word) where
  module _ (p : ℕ) (p<P : p < length s.promises) (free : promise_at s p ≡ unmade_word) where
    pub new_sound : SoundMoves T P B (view s) (view (with_made s t p)) t
    new_sound = record {
      moves = new_moves T P B s t t<T rt p p<P free;
      open_still = λ v q w.
          let (u, h, o) = sd.awaited_owned v q w in (
            u,
            h,
            get_or-set_other s.promises p q (owned_by t) 0 (λ (e : q ≡ p). omega (arith, ap (promise_at s) e)) ∙ o,
          );
      left = λ e. absurd (omega arith);
      wait = λ q e. absurd (omega arith);
    }

  module _ (p : ℕ) (p<P : p < length s.promises) (mine : promise_at s p ≡ owned_by t) where
    set_open : (v q : ℕ) → task_at (with_set s p) v ≡ waits_on q → Dec (task_at s v ≡ waits_on p)
        → (u : ℕ) × (u < T) × (promise_at (with_set s p) q ≡ owned_by u)
    set_open v q w (yes e) = absurd (omega (arith, set_hit s p v e))
    set_open v q w (no n) =
        let z : task_at s v ≡ waits_on q = sym (set_miss s p v n) ∙ w in
        let (u, h, o) = sd.awaited_owned v q z in
        (u, h, get_or-set_other s.promises p q 1 0 (λ (e : q ≡ p). n (omega arith)) ∙ o)

    set_actor : task_at (with_set s p) t ≡ 1
    set_actor = set_miss s p t (λ (e : task_at s t ≡ waits_on p). omega arith) ∙ rt

    pub set_sound : SoundMoves T P B (view s) (view (with_set s p)) t
    set_sound = record {
      moves = set_moves T P B s t t<T rt p p<P mine;
      open_still = λ v q w. set_open v q w (ℕ_discrete (task_at s v) (waits_on p));
      left = λ e. absurd (omega (arith, set_actor));
      wait = λ q e. absurd (omega (arith, set_actor));
    }

  module _ (p o : ℕ) (o<T : o < T) (owns : promise_at s p ≡ owned_by o) (p<P : p < P) (t<n : t < length s.tasks)
      (l : List ℕ) (c : Chain (graph T (view s)) o l) (apart : chain_end o l ≢ t) where
    abbrev get_after : View
    get_after = view (with_wait s t p)

    get_actor : task_at (with_wait s t p) t ≡ waits_on p
    get_actor = get_or-set_same s.tasks t (waits_on p) 0 t<n

    get_open : (v q : ℕ) → task_at (with_wait s t p) v ≡ waits_on q → Dec (v ≡ t)
        → (u : ℕ) × (u < T) × (promise_at s q ≡ owned_by u)
    get_open v q w (yes e) =
        let z : p ≡ q = omega (arith, ap (λ (x : ℕ). task_at (with_wait s t p) x) e, get_actor) in
        (o, o<T, ap (promise_at s) (sym z) ∙ owns)
    get_open v q w (no n) = sd.awaited_owned v q (sym (get_or-set_other s.tasks t v (waits_on p) 0 n) ∙ w)

    -- the chain of t from now on
    pub get_chain : Chain (graph T get_after) t (o ∷ l)
    get_chain =
        link {p = p} (record { waits = get_actor; owned = owns; below = o<T })
        (chain_stays (graph T (view s)) (graph T get_after) t (det T (view s))
        (frame T P B (view s) get_after t (get_moves T P B s t t<T rt p p<P t<n)) c apart)

    pub get_sound : SoundMoves T P B (view s) get_after t
    get_sound = record {
      moves = get_moves T P B s t t<T rt p p<P t<n;
      open_still = λ v q w. get_open v q w (ℕ_discrete v t);
      left = λ e. absurd (omega (arith, get_actor));
      wait = λ q e. (o ∷ l, get_chain);
    }

  module _ (c : ℕ) (c<T : c < T) (c<n : c < length s.tasks) (fresh : task_at s c ≡ unused_word) (l : List ℕ)
      (inside : (q : ℕ) → In q l → q < length s.promises) (mine : (q : ℕ) → In q l → promise_at s q ≡ owned_by t) where
    async_open₁ : (v q : ℕ) → task_at s v ≡ waits_on q
        → (promise_at (with_started s c l) q ≡ promise_at s q)
        ⊎ (In q l × (promise_at (with_started s c l) q ≡ owned_by c))
        → (u : ℕ) × (u < T) × (promise_at (with_started s c l) q ≡ owned_by u)
    async_open₁ v q w (inl e) = let (u, h, o) = sd.awaited_owned v q w in (u, h, e ∙ o)
    async_open₁ v q w (inr i) = (c, c<T, i.1)

    async_open : (v q : ℕ) → task_at (with_started s c l) v ≡ waits_on q → Dec (v ≡ c)
        → (u : ℕ) × (u < T) × (promise_at (with_started s c l) q ≡ owned_by u)
    async_open v q w (yes e) =
        absurd (omega (arith, ap (λ (x : ℕ). task_at (with_started s c l) x) e, get_or-set_same s.tasks c 1 0 c<n))
    async_open v q w (no n) =
        async_open₁ v q (sym (get_or-set_other s.tasks c v 1 0 n) ∙ w)
        (read_given (owned_by c) l s.promises inside q)

    async_actor : task_at (with_started s c l) t ≡ 1
    async_actor = get_or-set_other s.tasks c t 1 0 (λ (e : t ≡ c). omega (arith, ap (task_at s) e)) ∙ rt

    pub async_sound : SoundMoves T P B (view s) (view (with_started s c l)) t
    async_sound = record {
      moves = async_moves T P B s t t<T rt c c<T c<n fresh l inside mine;
      open_still = λ v q w. async_open v q w (ℕ_discrete v c);
      left = λ e. absurd (omega (arith, async_actor));
      wait = λ q e. absurd (omega (arith, async_actor));
    }

  module _ (t<n : t < length s.tasks) where
    end_open₁ : (v q : ℕ) → task_at (with_ended B s t) v ≡ waits_on q → v ≢ t → Dec (Waiter B s t v)
        → (u : ℕ) × (u < T) × (promise_at (with_ended B s t) q ≡ owned_by u)
    end_open₁ v q w n (yes k) = absurd (omega (arith, end_hit B s t v n k))
    end_open₁ v q w n (no m) =
        let z : task_at s v ≡ waits_on q = sym (end_miss B s t v n m) ∙ w in
        let (u, h, o) = sd.awaited_owned v q z in
        (u, h, blame_miss B s t q (λ (e : promise_at s q ≡ owned_by t). m (q, z, e)) ∙ o)

    end_open : (v q : ℕ) → task_at (with_ended B s t) v ≡ waits_on q → Dec (v ≡ t)
        → (u : ℕ) × (u < T) × (promise_at (with_ended B s t) q ≡ owned_by u)
    end_open v q w (yes e) = absurd (omega (arith, ap (task_at (with_ended B s t)) e, end_actor B s t t<n))
    end_open v q w (no n) = end_open₁ v q w n (waiter? B s t v)

    end_left : (q : ℕ) → promise_at (with_ended B s t) q ≡ owned_by t → Dec (promise_at s q ≡ owned_by t) → ⊥
    end_left q o (yes e) = omega (arith, blame_hit B s t q e)
    end_left q o (no n) = n (sym (blame_miss B s t q n) ∙ o)

    pub end_sound : SoundMoves T P B (view s) (view (with_ended B s t)) t
    end_sound = record {
      moves = end_moves T P B s t t<T rt t<n;
      open_still = λ v q w. end_open v q w (ℕ_discrete v t);
      left = λ e q o. end_left q o (ℕ_discrete (promise_at s q) (owned_by t));
      wait = λ q e. absurd (omega (arith, end_actor B s t t<n));
    }
