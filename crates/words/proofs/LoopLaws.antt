-- What a loop through a table holds after i turns, over any test and any change of a word: a law for the start, a turn
-- and the end. Assumes nothing.
use Prim.Native.Nat.{ℕ, ◌+◌, ◌-◌, ◌≤◌, ◌<◌}
use mathlib.Core.Path.{◌≡◌, refl, sym, ap, ◌∙◌}
use mathlib.Core.List.{List, map}
use mathlib.Core.Bool.{Bool, true, false, ◌&&◌}
use native.Mathlib.Omega.{arith}
use native.Mathlib.Decide.{ℕ_discrete}
use native.Mathlib.Numerals.{add-one}
use lib.ListN.{length, get_or, set, drop, length-set}
use lib.Seq.{sets}
use Rattle.words.specs.Lists.{all_below, places}
use Rattle.words.proofs.ListLaws.{mapped, mapped_none, mapped_more, mapped_get, mapped_all, places_step}
use Rattle.words.proofs.ListLaws.{places_end, all_below_make}

-- ---- a loop that rewrites each word by g

pub record Rewritten (g : ℕ → ℕ) (before now : List ℕ) (i : ℕ) : Type 0 where
  pub within : i ≤ length before
  pub same : length now ≡ length before
  pub table : now ≡ mapped g i before

module _ (g : ℕ → ℕ) where
  pub rewritten_start : (ws : List ℕ) → Rewritten g ws ws 0
  rewritten_start ws = record { within = omega arith; same = refl; table = mapped_none g ws }

  pub rewritten_turn : {before now : List ℕ} {i x : ℕ} → Rewritten g before now i → i < length before
      → x ≡ g (get_or now i 0) → Rewritten g before (set now i x) (i + 1)
  rewritten_turn {before} {now} {i} {x} r h e = record {
    within = omega arith;
    same = length-set now i x ∙ r.same;
    table = rw (e, r.table, mapped_get) (mapped_more g i before);
  }

  pub rewritten_end : {before now : List ℕ} {i : ℕ} → Rewritten g before now i → length before ≤ i → now ≡ map g before
  rewritten_end {before} {now} {i} r h =
      let e : i ≡ length before = omega (arith, r.within) in
      r.table ∙ ap (λ (k : ℕ). mapped g k before) e ∙ mapped_all g before

-- ---- a loop that writes the places of the words that pass f, from `from` on

pub record Collected (f : ℕ → Bool) (ws before : List ℕ) (from : ℕ) (now : List ℕ) (i n : ℕ) : Type 0 where
  pub within : i ≤ length ws
  pub least : from ≤ n
  pub most : n ≤ from + i
  pub same : length now ≡ length before
  pub counted : from + length (places f 0 ws) ≡ n + length (places f i (drop i ws))
  pub written : sets before from (places f 0 ws) ≡ sets now n (places f i (drop i ws))

module _ (f : ℕ → Bool) where
  pub collected_start : (ws before : List ℕ) (from : ℕ) → Collected f ws before from before 0 from
  collected_start ws before from =
      record
      { within = omega arith; least = omega arith; most = omega arith; same = refl; counted = refl; written = refl }

  pub collected_hit : {ws before now : List ℕ} {from i n : ℕ} → Collected f ws before from now i n → i < length ws
      → f (get_or ws i 0) ≡ true → Collected f ws before from (set now n i) (i + 1) (n + 1)
  collected_hit {ws} {before} {now} {from} {i} {n} c h e =
      let s = places_step f ws i h in
      record {
        within = omega arith;
        least = omega (arith, c.least);
        most = omega (arith, c.most);
        same = length-set now n i ∙ c.same;
        counted = rw (c.counted, s, e) (omega arith);
        written = rw (c.written, s, e, add-one n);
      }

  pub collected_miss : {ws before now : List ℕ} {from i n : ℕ} → Collected f ws before from now i n → i < length ws
      → f (get_or ws i 0) ≡ false → Collected f ws before from now (i + 1) n
  collected_miss {ws} {before} {now} {from} {i} {n} c h e =
      let s = places_step f ws i h in
      record {
        within = omega arith;
        least = c.least;
        most = omega (arith, c.most);
        same = c.same;
        counted = rw (c.counted, s, e);
        written = rw (c.written, s, e);
      }

  pub collected_end : {ws before now : List ℕ} {from i n : ℕ} → Collected f ws before from now i n → length ws ≤ i
      → (n ≡ from + length (places f 0 ws)) × (now ≡ sets before from (places f 0 ws))
  collected_end {ws} {before} {now} {from} {i} {n} c h =
      let e = places_end f ws i h in
      rw (c.counted, c.written, e) (omega arith, refl)

-- ---- a loop that tests each number below n, and the words of a table by them

-- `good` says whether every number below i passes
pub record Tested (f : ℕ → Bool) (n : ℕ) (good : Bool) (i : ℕ) : Type 0 where
  pub within : i ≤ n
  pub below : good ≡ all_below i f

module _ (f : ℕ → Bool) (n : ℕ) where
  pub tested_start : Tested f n true 0
  unfolding all_below
  tested_start = record { within = omega arith; below = refl }

  pub tested_turn : {good now : Bool} {i : ℕ} → Tested f n good i → i < n → now ≡ f i → Tested f n (good && now) (i + 1)
  unfolding all_below
  tested_turn t h e = record { within = omega arith; below = rw (add-one, t.below, e) }

  pub tested_end : {good : Bool} {i : ℕ} → Tested f n good i → n ≤ i → good ≡ all_below n f
  tested_end {i = i} t h = let e : i ≡ n = omega (arith, t.within) in t.below ∙ ap (λ (k : ℕ). all_below k f) e

-- a loop that goes down from n: those from i on pass
pub record TestedFrom (f : ℕ → Bool) (n i : ℕ) : Type 0 where
  pub within : i ≤ n
  pub above : (k : ℕ) → i ≤ k → k < n → f k ≡ true

module _ (f : ℕ → Bool) (n : ℕ) where
  pub tested_from_start : TestedFrom f n n
  tested_from_start = record { within = omega arith; above = λ k a b. absurd (omega arith) }

  pub tested_from_turn : {i : ℕ} → TestedFrom f n i → 0 < i → f (i - 1) ≡ true → TestedFrom f n (i - 1)
  tested_from_turn {i} t h e =
      record { within = omega (arith, t.within); above = λ k a b. go k b a (ℕ_discrete k (i - 1)) }
    where
      go : (k : ℕ) → k < n → i - 1 ≤ k → Dec (k ≡ i - 1) → f k ≡ true
      go k b a (yes z) = ap f z ∙ e
      go k b a (no z) = t.above k (omega arith) b

  pub tested_from_end : {i : ℕ} → TestedFrom f n i → i ≤ 0 → true ≡ all_below n f
  tested_from_end t h = sym (all_below_make n f (λ k b. t.above k (omega arith) b))
