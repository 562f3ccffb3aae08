-- What a walk with marks holds at each turn: it speaks of `hop` and `comes` alone. Assumes nothing.
use Prim.Native.Nat.{ℕ, suc, ◌+◌, ◌-◌, ◌≤◌, ◌<◌}
use mathlib.Core.Path.{◌≡◌, refl, sym, ap, ◌∙◌}
use mathlib.Core.Logic.{◌≢◌}
use mathlib.Core.List.{List}
use mathlib.Core.Bool.{true, false}
use native.Mathlib.Omega.{arith}
use borrow.Author.Tests.{le-leb, lt-leb}
use lib.ListN.{length, get_or, set, replicate, length-set}
use Rattle.words.specs.Words.{first_wait}
use Rattle.words.proofs.ListLaws.{set_each, get_or_replicate_same}
use Rattle.rules.specs.Tables.{Tables, task_at}
use Rattle.rules.specs.Chains.{view}
use Rattle.rules.specs.Sound.{ready, lost, to, hop, comes, comes_in_time}
use Rattle.rules.proofs.SoundTest.{comes_in_time_lem}
use Rattle.rules.proofs.WalkLaws.{hop_below}
use Rattle.table_chains.specs.Marks.{Marked, MarksFor, chain_passes}
use Rattle.table_chains.proofs.ComesLaws.{comes_zero, comes_ready, comes_lost, comes_on}

module _ (s : Tables) where
  abbrev T : ℕ
  T = length s.tasks

  -- a hop to a task whose chain ends well begins one that does
  comes_hop : (y x : ℕ) → hop T (view s) y ≡ to x → comes_in_time s x ≡ true → comes_in_time s y ≡ true
  comes_hop y x e k =
      let f : suc T - 1 ≡ T = omega arith in
      comes_in_time_lem s (suc T) y
      (comes_on T (view s) y (suc T) x (omega arith) e ∙ ap (λ (n : ℕ). comes n T (view s) x) f ∙ k)

  comes_here : (y : ℕ) → hop T (view s) y ≡ ready → comes_in_time s y ≡ true
  comes_here y e = comes_in_time_lem s 1 y (comes_ready T (view s) y 1 (omega arith) e)

  -- an owner is a task of the table
  hop_to_below : (y x : ℕ) → hop T (view s) y ≡ to x → x < T
  unfolding hop
  hop_to_below y x e = hop_below T (view s) (task_at s y) x e

-- ---- the marks, where the walk from v has come to u

pub record Marking (s : Tables) (ms : List ℕ) (v u : ℕ) : Type 0 where
  pub old : (y : ℕ) → get_or ms y 0 ≢ 0 → get_or ms y 0 ≢ v + 1 → comes_in_time s y ≡ true
  pub way : (y : ℕ) → get_or ms y 0 ≢ 0 → comes_in_time s u ≡ true → comes_in_time s y ≡ true
  pub from : comes_in_time s u ≡ true → comes_in_time s v ≡ true

module _ (s : Tables) (ms : List ℕ) (v : ℕ) where
  -- u is marked, and the walk stays there
  marking_mark : (u me : ℕ) → u < length ms → me ≡ v + 1 → Marking s ms v u → Marking s (set ms u me) v u
  marking_mark u me h own m = record {
    old =
        set_each (λ y k. k ≢ 0 → k ≢ v + 1 → comes_in_time s y ≡ true) ms u me 0 h (λ a b. absurd (b own))
        (λ y n. m.old y);
    way =
        set_each (λ y k. k ≢ 0 → comes_in_time s u ≡ true → comes_in_time s y ≡ true) ms u me 0 h (λ a k. k)
        (λ y n. m.way y);
    from = m.from;
  }

  -- the walk goes on
  marking_on : (u x : ℕ) → Marking s ms v u → hop (length s.tasks) (view s) u ≡ to x → Marking s ms v x
  marking_on u x m e = record {
    old = m.old;
    way = λ y a k. m.way y a (comes_hop s u x e k);
    from = λ k. m.from (comes_hop s u x e k);
  }

-- ---- the walk

-- The walk from v, whose mark is me, has come to u with the fuel `left`, and the marks `before` have become `now`.
pub record Walking (s : Tables) (v me : ℕ) (before now : List ℕ) (u left : ℕ) : Type 0 where
  pub below : u < length s.tasks
  pub room : length s.tasks ≤ length now
  pub same : length now ≡ length before
  pub own : me ≡ v + 1
  pub rest : comes left (length s.tasks) (view s) u ≡ comes_in_time s v
  pub marks : Marking s now v u

-- a walk that ends well: what it answers, and the marks that it leaves
abbrev pub Walked : Tables → ℕ → List ℕ → Type 0
Walked s v ms = (true ≡ comes_in_time s v) × (true ≡ true → Marked s ms)

pub walking_start : (s : Tables) (v : ℕ) (ms : List ℕ) → v < length s.tasks → MarksFor s ms
    → Walking s v (v + 1) ms ms v (length s.tasks)
walking_start s v ms h m = record {
  below = h;
  room = m.room;
  same = refl;
  own = refl;
  rest = refl;
  marks = record { old = λ y a b. m.marked y a; way = λ y a k. m.marked y a; from = λ k. k };
}

module _ {s : Tables} {v me : ℕ} {before now : List ℕ} {u left : ℕ} (w : Walking s v me before now u left) where
  pub within : u < length now
  within = omega (arith, w.below, w.room)

  pub as_long : length (set now u me) ≡ length before
  as_long = length-set now u me ∙ w.same

  abbrev marked_here : Marking s (set now u me) v u
  marked_here = marking_mark s now v u me within w.own w.marks

  -- where an earlier walk has been
  pub walking_known : get_or now u 0 ≢ 0 → get_or now u 0 ≢ me → Walked s v now
  walking_known a b =
      let k = w.marks.old u a (λ z. b (z ∙ sym w.own)) in
      (sym (w.marks.from k), λ z y n. w.marks.way y n k)

  pub walking_ready : hop (length s.tasks) (view s) u ≡ ready → Walked s v (set now u me)
  walking_ready h =
      let k = comes_here s u h in
      (sym (w.marks.from k), λ z y n. marked_here.way y n k)

  pub walking_lost : 0 < left → hop (length s.tasks) (view s) u ≡ lost → false ≡ comes_in_time s v
  walking_lost f h = sym (comes_lost _ _ _ _ f h) ∙ w.rest

  pub walking_on : (x : ℕ) → 0 < left → hop (length s.tasks) (view s) u ≡ to x
      → Walking s v me before (set now u me) x (left - 1)
  walking_on x f h = record {
    below = hop_to_below s u x h;
    room = omega (arith, w.room, w.same, as_long);
    same = as_long;
    own = w.own;
    rest = sym (comes_on _ _ _ _ x f h) ∙ w.rest;
    marks = marking_on s (set now u me) v u x marked_here h;
  }

  -- no fuel is left: a ring
  pub walking_out : left ≤ 0 → false ≡ comes_in_time s v
  walking_out f = sym (comes_zero _ _ _ _ f) ∙ w.rest

module _ (s : Tables) (v : ℕ) where
  pub idle_passes : task_at s v < first_wait → chain_passes s v ≡ true
  unfolding chain_passes
  idle_passes h = rw (lt-leb first_wait (task_at s v) h)

  pub waiting_passes : first_wait ≤ task_at s v → chain_passes s v ≡ comes_in_time s v
  unfolding chain_passes
  waiting_passes h = rw (le-leb first_wait (task_at s v) h)

-- no mark at all
pub marked_none : (s : Tables) (n : ℕ) → Marked s (replicate n 0)
marked_none s n = λ u h. absurd (h (get_or_replicate_same n u 0))
