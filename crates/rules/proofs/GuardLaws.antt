-- Laws of `guarded`, `got` and `started` (specs/Steps.antt), by their cases: a guard refuses, or lets the outcome
-- through; a get answers value, blamed, cycle or waits; an async is refused for an entry, or starts its child. Assumes
-- nothing.
use mathlib.Core.Path.{◌≡◌, refl, sym, subst}
use mathlib.Core.Logic.{◌≢◌}
use mathlib.Core.List.{List, []}
use mathlib.Core.Bool.{Bool, true, false, cond}
use Prim.Native.Nat.{ℕ, ◌-◌, ◌≤◌, ◌<◌}
use native.Mathlib.Decide.{ℕ_discrete}
use lib.Dec.{eqb, leb, ltb}
use lib.ListN.{length}
use borrow.Author.Tests.{eq-eqb, ne_eqb, ltb-true, ltb-false}
use Rattle.words.specs.Words.{set_word, first_owned}
use Rattle.rules.specs.Tables.{Tables}
use Rattle.rules.specs.Chains.{view}
use Rattle.rules.specs.Steps.{Outcome, outcome, with_wait, with_started, Found, astray, back, free, walk_from, pairs}
use Rattle.rules.specs.Steps.{followed, got, guarded, entry_refused, started}
use Rattle.rules.specs.declared.Answer.{Answer}
use Rattle.rules.specs.declared.Answer.TheVariants.{Value, Blamed, Waits, Cycle, Started}

module _ (f : ℕ → Answer) (r : ℕ) (s : Tables) (o : Outcome) where
  pub guarded_none : r ≡ 0 → guarded f r s o ≡ o
  unfolding guarded
  guarded_none e = rw (eq-eqb r 0 e)

  pub guarded_some : r ≢ 0 → guarded f r s o ≡ outcome (f r) s []
  unfolding guarded
  guarded_some n = rw (ne_eqb r 0 n)

-- what holds of an outcome, by the two cases
pub guarded_by : (Q : Outcome → Type 0) (f : ℕ → Answer) (r : ℕ) (s : Tables) (o : Outcome)
    → (r ≢ 0 → Q (outcome (f r) s [])) → (r ≡ 0 → Q o) → Q (guarded f r s o)
guarded_by Q f r s o refused passed = go (ℕ_discrete r 0)
  where
    go : Dec (r ≡ 0) → Q (guarded f r s o)
    go (yes z) = subst Q (sym (guarded_none f r s o z)) (passed z)
    go (no m) = subst Q (sym (guarded_some f r s o m)) (refused m)

-- and of the tables after it
pub guarded_is : (f : ℕ → Answer) (r : ℕ) (s : Tables) (o : Outcome) (Q : Tables → Type 0) → Q s
    → (r ≡ 0 → Q o.after) → Q (guarded f r s o).after
guarded_is f r s o Q stays passed = guarded_by (λ (x : Outcome). Q x.after) f r s o (λ m. stays) passed

-- a get that is not refused answers value, blamed, cycle or waits
pub got_cases : (Q : Outcome → Type 0) (B : ℕ) (s : Tables) (t p w : ℕ) → Q (outcome Value s [])
    → ((b : ℕ) → Q (outcome (Blamed b) s []))
    → ((k : ℕ) → Q (outcome (Cycle k) s (pairs k (view s) t p)))
    → ((k : ℕ) → Q (outcome (Waits k) (with_wait s t p) []))
    → Q (got B s t p w)
unfolding got followed
got_cases Q B s t p w v b c k = go (eqb w set_word) (leb B w) (walk_from s t (w - first_owned))
  where
    go : (x y : Bool) (f : Found)
        → Q (cond x (outcome Value s []) (cond y (outcome (Blamed (w - B)) s []) (followed s t p f)))
    go true y f = v
    go false true f = b (w - B)
    go false false (back i) = c i
    go false false (free i) = k i
    go false false astray = k (length s.tasks)

-- i is the first bad place, or the list's end
pub started_by : (Q : Outcome → Type 0) (B : ℕ) (s : Tables) (t c : ℕ) (list : List ℕ) (i : ℕ)
    → (i < length list → Q (outcome (entry_refused B s t list i) s []))
    → (length list ≤ i → Q (outcome Started (with_started s c list) [])) → Q (started B s t c list i)
unfolding started
started_by Q B s t c list i refused passed = go (ltb i (length list)) refl
  where
    go : (b : Bool) → ltb i (length list) ≡ b
        → Q (cond b (outcome (entry_refused B s t list i) s []) (outcome Started (with_started s c list) []))
    go true e = refused (ltb-true i (length list) e)
    go false e = passed (ltb-false i (length list) e)
