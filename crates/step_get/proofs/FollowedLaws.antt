-- Laws of `followed` and `got`: what each way out of a get gives, from the facts that the code has there. A trail r
-- stands for what was found, f. Assumes nothing.
use Prim.Native.Nat.{ℕ, ◌*◌, ◌-◌, ◌≤◌, ◌<◌}
use mathlib.Core.Path.{◌≡◌, refl, sym, ap, ◌∙◌}
use mathlib.Core.Logic.{◌≢◌}
use mathlib.Core.List.{List}
use native.Mathlib.Omega.{arith}
use lib.ListN.{length, set}
use lib.Seq.{sets}
use borrow.Author.Tests.{eq-eqb, ne_eqb, le-leb, lt-leb}
use Rattle.words.specs.Words.{small, set_word, first_owned, waits_on, blamed_on}
use Rattle.words.specs.States.{ReadsPromise}
use Rattle.words.specs.declared.PromiseState.{PromiseState}
use Rattle.words.specs.declared.PromiseState.TheVariants.{Unmade, Set, Owned, Damaged, Blamed as BlamedOn}
use Rattle.words.proofs.ListLaws.{over_none, over_sets}
use Rattle.rules.specs.Tables.{Tables, with_tasks}
use Rattle.rules.specs.Chains.{view}
use Rattle.rules.specs.Steps.{Found, walk_from, pairs, followed, got}
use Rattle.rules.proofs.Counts.{pairs_length}
use Rattle.rules.specs.StepContracts.{Gives}
use Rattle.rules.specs.declared.Answer.{Answer}
use Rattle.rules.specs.declared.Answer.TheVariants.{Value, Blamed, Waits, Cycle}
use Rattle.table_walks.specs.Trails.{found_read}
use Rattle.table_walks.specs.declared.Trail.{Trail}
use Rattle.table_walks.specs.declared.Trail.TheVariants.{Astray, Back, Free}

module _ (s : Tables) (t p : ℕ) {rs : List ℕ} where
  module _ {r : Trail} {f : Found} (e : found_read r ≡ f) where
    pub followed_back : {k : ℕ} {rs' : List ℕ} → r ≡ Back k → 2 * k ≤ length rs → rs' ≡ sets rs 0 (pairs k (view s) t p)
        → Gives (followed s t p f) rs (Cycle k) s rs'
    unfolding followed
    followed_back {k = k} h room w =
        let l = pairs_length k (view s) t p in
        let written = sym (over_sets (pairs k (view s) t p) rs (omega (arith, l))) in
        rw (← e, h) (record { answer = refl; after = refl; report = w ∙ written })

    pub followed_free : {k : ℕ} {ts' : List ℕ} → r ≡ Free k → ts' ≡ set s.tasks t (waits_on p)
        → Gives (followed s t p f) rs (Waits k) (with_tasks s ts') rs
    unfolding followed
    followed_free h w = rw (← e, h) (record { answer = refl; after = ap (with_tasks s) w; report = sym (over_none rs) })

    pub followed_astray : {ts' : List ℕ} → r ≡ Astray → ts' ≡ set s.tasks t (waits_on p)
        → Gives (followed s t p f) rs (Waits (length s.tasks)) (with_tasks s ts') rs
    unfolding followed
    followed_astray h w =
        rw (← e, h) (record { answer = refl; after = ap (with_tasks s) w; report = sym (over_none rs) })

  -- w is the promise's word, B where the blamed words begin
  module _ (B w : ℕ) where
    pub got_set : w ≡ set_word → Gives (got B s t p w) rs Value s rs
    unfolding got
    got_set e = rw (eq-eqb w set_word e) (record { answer = refl; after = refl; report = sym (over_none rs) })

    pub got_blamed : w ≢ set_word → B ≤ w → Gives (got B s t p w) rs (Blamed (w - B)) s rs
    unfolding got
    got_blamed n h =
        rw (ne_eqb w set_word n, le-leb B w h) (record { answer = refl; after = refl; report = sym (over_none rs) })

    pub got_followed : {a : Answer} {s' : Tables} {rs' : List ℕ} → w ≢ set_word → w < B
        → Gives (followed s t p (walk_from s t (w - first_owned))) rs a s' rs' → Gives (got B s t p w) rs a s' rs'
    unfolding got
    got_followed n h g = rw (ne_eqb w set_word n, lt-leb B w h) g

  -- w is the promise's word, of the small form
  module _ (w : ℕ) where
    pub got_blamed_on : {b : ℕ} → w ≡ blamed_on small.base b → Gives (got small.base s t p w) rs (Blamed b) s rs
    got_blamed_on {b} e =
        let value : w - small.base ≡ b = omega arith in
        rw (← value) (got_blamed small.base w (λ (z : w ≡ set_word). omega arith) (omega arith))

    -- neither set nor blamed
    pub got_open : (state : PromiseState) {a : Answer} {s' : Tables} {rs' : List ℕ} → ReadsPromise w state
        → (state ≡ Set → ⊥) → ((b : ℕ) → state ≡ BlamedOn b → ⊥)
        → Gives (followed s t p (walk_from s t (w - first_owned))) rs a s' rs'
        → Gives (got small.base s t p w) rs a s' rs'
    got_open Unmade e n m g = got_followed small.base w (λ z. omega arith) (omega arith) g
    got_open Set e n m g = absurd (n refl)
    got_open (Owned u) e n m g = got_followed small.base w (λ z. omega (arith, e.0)) e.1 g
    got_open (BlamedOn b) e n m g = absurd (m b refl)
    got_open Damaged e n m g = got_followed small.base w (λ z. omega (arith, e.0)) (omega (arith, e.1)) g
