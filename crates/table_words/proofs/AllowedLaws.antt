-- Laws of specs/Allowed.antt: what a loop that notes has after i turns, the largest word, and what the filled look-up
-- table says. Assumes nothing.
use Prim.Native.Nat.{ℕ, zero, suc, ◌+◌, ◌-◌, ◌≤◌, ◌<◌, max}
use mathlib.Core.Path.{◌≡◌, refl, sym, ap, subst, ◌∙◌}
use mathlib.Core.Logic.{◌≢◌, ◌⊎◌, inl, inr}
use mathlib.Core.List.{List, [], ◌∷◌}
use mathlib.Core.Bool.{Bool, true, false, cond, ◌&&◌, ◌||◌}
use native.Mathlib.Omega.{arith}
use native.Mathlib.Decide.{ℕ_discrete, dec_lt}
use lib.Dec.{eqb, leb, ltb}
use borrow.Author.Tests.{lt-ltb, le-ltb, le-leb, lt-leb, ne_eqb, eq-eqb, eqb-true, leb-true, ltb-true}
use lib.ListN.{length, get_or, set, replicate, length-set, length-replicate}
use Rattle.std.proofs.Math.Bool.{and_assoc}
use Rattle.std.proofs.lemmas.List.{get_or-take, length-take}
use Rattle.std.specs.List.{fold, slice_range}
use Rattle.words.specs.Words.{small}
use Rattle.words.specs.Words.{ended_word, unmade_word, set_word, first_owned}
use Rattle.words.specs.Lists.{all_below, is}
use Rattle.words.proofs.BoolLaws.{and_split, and_false, and_true, or_split, or_left, or_right, true_is_not_false}
use Rattle.words.proofs.ListLaws.{set_each, get_or_replicate_same, all_below_same, all_below_at, all_below_make}
use Rattle.rules.specs.Tables.{tables, live}
use Rattle.rules.specs.Sound.{promise_word_passes, promise_passes}
use Rattle.table_words.specs.Allowed.{every_word, below, allowed, noted, Noted, MayHold, Fills}
use Rattle.table_words.specs.Allowed.{LargestOf, not_between, owners_up_to, OnlyOwners}

-- ---- a loop that notes of each task, from `from` on, whether its word passes f

pub record Noting (f : ℕ → Bool) (ts : List ℕ) (from : ℕ) (before now : List Bool) (i : ℕ) : Type 0 where
  pub within : i ≤ length ts
  pub same : length now ≡ length before
  pub each : (w : ℕ) → get_or now w false
      ≡ cond (leb from w && ltb (w - from) i) (f (get_or ts (w - from) 0)) (get_or before w false)

module _ (f : ℕ → Bool) (ts : List ℕ) (from : ℕ) where
  -- x is what a table that was `before` says of w after i turns
  abbrev Says : List Bool → ℕ → ℕ → Bool → Type 0
  Says before i w x = x ≡ cond (leb from w && ltb (w - from) i) (f (get_or ts (w - from) 0)) (get_or before w false)

  pub noting_start : (before : List Bool) → Noting f ts from before before 0
  noting_start before = record {
    within = omega arith;
    same = refl;
    each = λ w. rw (le-ltb (w - from) 0 (omega arith), and_false (leb from w));
  }

  pub noting_turn : {before now : List Bool} {i : ℕ} {b : Bool} → Noting f ts from before now i → i < length ts
      → from + length ts ≤ length before → b ≡ f (get_or ts i 0)
      → Noting f ts from before (set now (from + i) b) (i + 1)
  noting_turn {before} {now} {i} {b} r h room e = record {
    within = omega arith;
    same = length-set now (from + i) b ∙ r.same;
    each = set_each (λ w x. Says before (i + 1) w x) now (from + i) b false (omega (arith, r.same)) new old;
  }
    where
      new : Says before (i + 1) (from + i) b
      new =
          let k : from + i - from ≡ i = omega arith in
          rw (le-leb from (from + i) (omega arith), k, lt-ltb i (i + 1) (omega arith)) e

      old : (j : ℕ) → j ≢ from + i → Says before (i + 1) j (get_or now j false)
      old j n = r.each j ∙ go (dec_lt j from) (dec_lt (j - from) i)
        where
          go : Dec (j < from) → Dec (j - from < i)
              → cond (leb from j && ltb (j - from) i) (f (get_or ts (j - from) 0)) (get_or before j false)
              ≡ cond (leb from j && ltb (j - from) (i + 1)) (f (get_or ts (j - from) 0)) (get_or before j false)
          go (yes a) d = rw (lt-leb from j a)
          go (no a) (yes d) = rw (lt-ltb (j - from) i d, lt-ltb (j - from) (i + 1) (omega arith))
          go (no a) (no d) = rw (le-ltb (j - from) i (omega arith), le-ltb (j - from) (i + 1) (omega arith))

  pub noting_end : {before now : List Bool} {i : ℕ} → Noting f ts from before now i → length ts ≤ i
      → Noted f ts from before now
  unfolding noted
  noting_end {i = i} r h = λ w. let e : i ≡ length ts = omega (arith, r.within) in rw (← e) (r.each w)

-- ---- the largest word

below_larger : (v w n : ℕ) → (ltb v n && ltb w n) ≡ ltb (max v w) n
below_larger v w n = go (dec_lt v n) (dec_lt w n)
  where
    go : Dec (v < n) → Dec (w < n) → (ltb v n && ltb w n) ≡ ltb (max v w) n
    go (yes a) (yes b) = rw (lt-ltb v n a, lt-ltb w n b, lt-ltb (max v w) n (omega arith))
    go (yes a) (no b) = rw (lt-ltb v n a, le-ltb w n (omega arith), le-ltb (max v w) n (omega arith))
    go (no a) b = rw (le-ltb v n (omega arith), le-ltb (max v w) n (omega arith))

-- the first, and the rest
all_below_cons : (n : ℕ) (f : ℕ → Bool) → all_below (suc n) f ≡ (f 0 && all_below n (λ i. f (suc i)))
unfolding all_below
all_below_cons zero f = sym (and_true (f 0))
all_below_cons (suc n) f = rw (all_below_cons n f) (and_assoc (f 0) (all_below n (λ i. f (suc i))) (f (suc n)))

every_word_cons : (f : ℕ → Bool) (w : ℕ) (ws : List ℕ) → every_word f (w ∷ ws) ≡ (f w && every_word f ws)
every_word_cons f w ws = all_below_cons (length ws) (λ i. f (get_or (w ∷ ws) i 0))

below_fold : (ws : List ℕ) (v n : ℕ) → (ltb v n && every_word (below n) ws) ≡ ltb (fold max v ws) n
unfolding below all_below
below_fold [] v n = and_true (ltb v n)
below_fold (w ∷ ws) v n =
    let e = and_assoc (ltb v n) (ltb w n) (every_word (below n) ws) in
    rw (every_word_cons (below n) w ws, ← e, below_larger v w n) (below_fold ws (max v w) n)

pub largest_of_all : (ws : List ℕ) → LargestOf ws (fold max 0 ws)
largest_of_all ws n h = rw (lt-ltb 0 n h) at (below_fold ws 0 n)

-- ---- only owners

first_two : (w : ℕ) → w ≤ set_word → (eqb w unmade_word || eqb w set_word) ≡ true
first_two w h = go (ℕ_discrete w unmade_word)
  where
    go : Dec (w ≡ unmade_word) → (eqb w unmade_word || eqb w set_word) ≡ true
    go (yes e) = or_left (eqb w unmade_word) (eqb w set_word) (eq-eqb w unmade_word e)
    go (no n) = or_right (eqb w unmade_word) (eqb w set_word) (eq-eqb w set_word (omega arith))

owner_passes : (B : ℕ) (ts ps : List ℕ) (w : ℕ) → first_owned ≤ w → w - first_owned < length ts
    → live (get_or ts (w - first_owned) 0) ≡ true → promise_word_passes B (tables ts ps) w ≡ true
owner_passes B ts ps w h k l =
    rw (le-leb first_owned w h, lt-ltb (w - first_owned) (length ts) k)
    (second (eqb w unmade_word || eqb w set_word) (live (get_or ts (w - first_owned) 0))
    (leb B w && ltb (w - B) (length ts) && eqb (get_or ts (w - B) 0) ended_word) l)
  where
    second : (a x y : Bool) → x ≡ true → ((a || x) || y) ≡ true
    second true x y e = refl
    second false x y e = rw e

pub only_owners : (ts ps : List ℕ) (most : ℕ) → LargestOf ps most
    → every_word live (slice_range ts 0 (owners_up_to most)) ≡ true
    → owners_up_to most ≤ length ts → every_word not_between ps ≡ true → OnlyOwners ts ps
unfolding promise_passes below not_between
only_owners ts ps most l live_so few no_gap B =
    all_below_make (length ps) (promise_passes B (tables ts ps)) (λ q z. passes q z (or_split _ _ (apart q z)))
  where
    apart : (q : ℕ) → q < length ps → (leb (get_or ps q 0) set_word || leb first_owned (get_or ps q 0)) ≡ true
    apart q z =
        all_below_at (length ps) (λ k. leb (get_or ps k 0) set_word || leb first_owned (get_or ps k 0)) no_gap q z

    small : (q : ℕ) → q < length ps → get_or ps q 0 < suc most
    small q z =
        ltb-true _ _
        (all_below_at (length ps) (λ k. ltb (get_or ps k 0) (suc most))
        (l (suc most) (omega arith) ∙ lt-ltb most (suc most) (omega arith)) q z)

    lives : (t : ℕ) → t < owners_up_to most → live (get_or ts t 0) ≡ true
    lives t z =
        let n = owners_up_to most in
        let within : t < length (slice_range ts 0 n) = omega (arith, length-take (n - 0) ts) in
        let owner = λ (k : ℕ). live (get_or (slice_range ts 0 n) k 0) in
        rw (get_or-take (n - 0) ts t 0 (omega arith)) at
        (all_below_at (length (slice_range ts 0 n)) owner live_so t within)

    passes : (q : ℕ) → q < length ps
        → (leb (get_or ps q 0) set_word ≡ true) ⊎ (leb first_owned (get_or ps q 0) ≡ true)
        → promise_word_passes B (tables ts ps) (get_or ps q 0) ≡ true
    passes q z (inl e) = rw (first_two (get_or ps q 0) (leb-true _ _ e))
    passes q z (inr e) =
        let h = leb-true first_owned (get_or ps q 0) e in
        let below_most = small q z in
        let named : get_or ps q 0 - first_owned < owners_up_to most = omega arith in
        owner_passes B ts ps (get_or ps q 0) h (omega (arith, named, few))
        (lives (get_or ps q 0 - first_owned) named)

-- ---- what the filled table says

-- unmade and set have been allowed
abbrev pub opened : List Bool → List Bool
opened may = set (set may unmade_word true) set_word true

pub opened_length : (may : List Bool) → length (opened may) ≡ length may
opened_length may = length-set (set may unmade_word true) set_word true ∙ length-set may unmade_word true

opened_says : (n w : ℕ) → 2 ≤ n → get_or (opened (replicate n false)) w false ≡ (eqb w unmade_word || eqb w set_word)
opened_says n w h =
    set_each (λ j x. x ≡ (eqb j unmade_word || eqb j set_word)) (set (replicate n false) unmade_word true) set_word true
    false (omega (arith, length-set (replicate n false) unmade_word true, length-replicate {A = Bool} n false)) refl
    other w
  where
    other : (j : ℕ) → j ≢ set_word
        → get_or (set (replicate n false) unmade_word true) j false ≡ (eqb j unmade_word || eqb j set_word)
    other j k =
        set_each (λ i x. i ≢ set_word → x ≡ (eqb i unmade_word || eqb i set_word)) (replicate n false) unmade_word true
        false (omega (arith, length-replicate {A = Bool} n false)) (λ z. refl)
        (λ i z y. rw (ne_eqb i unmade_word z, ne_eqb i set_word y) (get_or_replicate_same n i false)) j k

-- at most one of three parts applies to a word: what it may be otherwise, its owner's, and who is blamed
one_part : (a b x y st : Bool) → (a ≡ true → st ≡ false) → (b ≡ true → st ≡ false) → (a ≡ true → b ≡ false)
    → cond b y (cond a x st) ≡ ((st || (a && x)) || (b && y))
one_part true true x y st p q r = true_is_not_false (r refl)
one_part true false true y st p q r = rw (p refl)
one_part true false false y st p q r = rw (p refl)
one_part false true x y st p q r = rw (q refl)
one_part false false x y true p q r = refl
one_part false false x y false p q r = refl

module _ (B : ℕ) (ts : List ℕ) (apart : first_owned + length ts ≤ B) where
  -- w names one of the tasks from the word `from` on
  abbrev names : ℕ → ℕ → Bool
  names from w = leb from w && ltb (w - from) (length ts)

  named_from : (from w : ℕ) → names from w ≡ true → (from ≤ w) × (w - from < length ts)
  named_from from w e = let (a, b) = and_split _ _ e in (leb-true from w a, ltb-true _ _ b)

  filled : (n : ℕ) → 2 ≤ n → (owned all : List Bool) → Noted live ts first_owned (opened (replicate n false)) owned
      → Noted (is ended_word) ts B owned all → Fills B ts all
  unfolding allowed noted is
  filled n h owned all o e = λ w.
      e w ∙ rw (o w, opened_says n w h)
      (one_part (names first_owned w) (names B w) (live (get_or ts (w - first_owned) 0))
      (eqb (get_or ts (w - B) 0) ended_word) (eqb w unmade_word || eqb w set_word) (low w) (high w) (lower w))
    where
      neither : (w : ℕ) → 16 ≤ w → (eqb w unmade_word || eqb w set_word) ≡ false
      neither w k = rw (ne_eqb w unmade_word (λ z. omega arith), ne_eqb w set_word (λ z. omega arith))

      low : (w : ℕ) → names first_owned w ≡ true → (eqb w unmade_word || eqb w set_word) ≡ false
      low w k = neither w (named_from first_owned w k).0

      high : (w : ℕ) → names B w ≡ true → (eqb w unmade_word || eqb w set_word) ≡ false
      high w k = neither w (omega (arith, apart, (named_from B w k).0))

      lower : (w : ℕ) → names first_owned w ≡ true → names B w ≡ false
      lower w k =
          let (a, b) = named_from first_owned w k in
          rw (lt-leb B w (omega (arith, a, b, apart)))

  -- no word past the last that blames a task may stand in the table
  passes_below : (n w : ℕ) → B + length ts ≤ n → promise_word_passes B (tables ts []) w ≡ true → w < n
  passes_below n w room e = go (or_split _ _ e)
    where
      least : (eqb w unmade_word || eqb w set_word) ≡ true → w < 2
      least f = by (or_split _ _ f)
        where
          by : (eqb w unmade_word ≡ true) ⊎ (eqb w set_word ≡ true) → w < 2
          by (inl z) = let k = eqb-true w unmade_word z in omega arith
          by (inr z) = let k = eqb-true w set_word z in omega arith

      lower : ((eqb w unmade_word || eqb w set_word) ≡ true)
          ⊎ ((names first_owned w && live (get_or ts (w - first_owned) 0)) ≡ true) → w < n
      lower (inl f) = omega (arith, least f, apart, room)
      lower (inr f) =
          let (a, b) = named_from first_owned w (and_split (names first_owned w) _ f).0 in
          omega (arith, a, b, apart, room)

      go : (((eqb w unmade_word || eqb w set_word) || (names first_owned w && live (get_or ts (w - first_owned) 0)))
          ≡ true)
          ⊎ ((names B w && eqb (get_or ts (w - B) 0) ended_word) ≡ true) → w < n
      go (inl f) = lower (or_split _ _ f)
      go (inr f) =
          let (a, b) = named_from B w (and_split (names B w) _ f).0 in
          omega (arith, a, b, room)

  module _ (ps : List ℕ) where
    -- every word is looked up
    pub looked_up_lem : (all : List Bool) → Fills B ts all
        → every_word (allowed all) ps ≡ all_below (length ps) (promise_passes B (tables ts ps))
    unfolding promise_passes
    looked_up_lem all h =
        all_below_same (length ps) (λ q. allowed all (get_or ps q 0)) (promise_passes B (tables ts ps))
        (λ q z. h (get_or ps q 0))

    -- unless one is past the table's end
    pub too_large : (n : ℕ) → B + length ts ≤ n → every_word (below n) ps ≡ false
        → all_below (length ps) (promise_passes B (tables ts ps)) ≡ false
    unfolding promise_passes below
    too_large n room e = go (all_below (length ps) (promise_passes B (tables ts ps))) refl
      where
        go : (b : Bool) → all_below (length ps) (promise_passes B (tables ts ps)) ≡ b
            → all_below (length ps) (promise_passes B (tables ts ps)) ≡ false
        go false f = f
        go true f =
            true_is_not_false
            (sym
            (all_below_make (length ps) (λ q. ltb (get_or ps q 0) n)
            (λ q z. lt-ltb _ _
            (passes_below n (get_or ps q 0) room (all_below_at (length ps) (promise_passes B (tables ts ps)) f q z))))
            ∙ e)

-- the table that is lent says no of every word
pub fills : (B : ℕ) (ts : List ℕ) (may owned all : List Bool) → MayHold B (length ts) may
    → Noted live ts first_owned (opened may) owned → Noted (is ended_word) ts B owned all → Fills B ts all
fills B ts may owned all m o e =
    filled B ts m.apart (length may) (omega (arith, m.apart, m.room)) owned all
    (subst (λ (k : List Bool). Noted live ts first_owned (opened k) owned) m.empty o) e

-- each word that is looked up stands within the table
pub every_word_below_at : (n : ℕ) (ps : List ℕ) (q : ℕ) → every_word (below n) ps ≡ true → q < length ps
    → get_or ps q 0 < n
unfolding below
every_word_below_at n ps q e h = ltb-true _ _ (all_below_at (length ps) (λ i. ltb (get_or ps i 0) n) e q h)

-- ---- where no word is high enough to blame, it does not matter where the blamed words begin

largest_at : (ps : List ℕ) (most : ℕ) → LargestOf ps most → (q : ℕ) → q < length ps → get_or ps q 0 < suc most
unfolding below
largest_at ps most l q z =
    ltb-true _ _
    (all_below_at (length ps) (λ k. ltb (get_or ps k 0) (suc most))
    (l (suc most) (omega arith) ∙ lt-ltb most (suc most) (omega arith)) q z)

unblamed_alike : (B B' : ℕ) (ts ps : List ℕ) (most : ℕ) → LargestOf ps most → most < B → most < B'
    → all_below (length ps) (promise_passes B (tables ts ps))
    ≡ all_below (length ps) (promise_passes B' (tables ts ps))
unfolding promise_passes
unblamed_alike B B' ts ps most l h h' =
    all_below_same (length ps) (promise_passes B (tables ts ps)) (promise_passes B' (tables ts ps))
    (λ q z. let low = largest_at ps most l q z in
    rw (lt-leb B (get_or ps q 0) (omega arith), lt-leb B' (get_or ps q 0) (omega arith)))

pub small_does_as_well : (B : ℕ) (ts ps : List ℕ) (most : ℕ) → LargestOf ps most → small.base ≤ B
    → (eqb B small.base || ltb most small.base) ≡ true
    → all_below (length ps) (promise_passes small.base (tables ts ps))
    ≡ all_below (length ps) (promise_passes B (tables ts ps))
small_does_as_well B ts ps most l h e = go (or_split _ _ e)
  where
    go : (eqb B small.base ≡ true) ⊎ (ltb most small.base ≡ true)
        → all_below (length ps) (promise_passes small.base (tables ts ps))
        ≡ all_below (length ps) (promise_passes B (tables ts ps))
    go (inl a) = ap (λ (b : ℕ). all_below (length ps) (promise_passes b (tables ts ps))) (sym (eqb-true _ _ a))
    go (inr a) = let low = ltb-true _ _ a in unblamed_alike small.base B ts ps most l low (omega (arith, low, h))
