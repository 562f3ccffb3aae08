-- Laws of specs/Contracts.antt, for the functions of the steps: how a refusal number that the code holds, and the three
-- equations of what follows it, make up the outcome of a guarded step; how two numbers joined by `earlier` make up that
-- of two lists of rows; and what it says that refusals 1 and 2 were not given. Assumes nothing.
use Prim.Native.Nat.{ℕ}
use mathlib.Core.Path.{◌≡◌, refl, sym, ◌∙◌}
use mathlib.Core.Logic.{◌≢◌}
use mathlib.Core.List.{List, ◌++◌}
use mathlib.Core.Bool.{true}
use borrow.Author.Tests.{eq-eqb, ne_eqb, eqb-false}
use Rattle.words.specs.Words.{Form}
use Rattle.words.proofs.ListLaws.{over_none}
use Rattle.rules.specs.Tables.{Tables, in_bounds}
use Rattle.rules.specs.Sound.{sound_test}
use Rattle.rules.specs.Refusals.{Row, first, earlier, table_rows}
use Rattle.rules.specs.Steps.{Outcome, guarded}
use Rattle.rules.specs.StepContracts.{Gives}
use Rattle.rules.specs.declared.Answer.{Answer}
use Rattle.rules.proofs.RefusalLaws.{Numbered, first_append, tests_past}

pub rows_joined : {xs : List Row} (ys : List Row) {a b n : ℕ} → Numbered xs → a ≡ first xs → b ≡ first ys
    → n ≡ earlier a b → n ≡ first (xs ++ ys)
rows_joined ys m e f g = rw (g, e, f) (sym (first_append ys m))

-- "Each refusal returns its number and writes to no table and no report"
pub gives_refused : (f : ℕ → Answer) {r n : ℕ} (s : Tables) (o : Outcome) (rs : List ℕ) → n ≡ r → n ≢ 0
    → Gives (guarded f r s o) rs (f n) s rs
unfolding guarded
gives_refused f {r} {n} s o rs e h =
    rw (← e, ne_eqb n 0 h) (record { answer = refl; after = refl; report = sym (over_none rs) })

pub gives_passed : (f : ℕ → Answer) {r n : ℕ} (s : Tables) {o : Outcome} {s' : Tables} {rs rs' : List ℕ} {a : Answer}
    → n ≡ r → n ≡ 0 → Gives o rs a s' rs'
    → Gives (guarded f r s o) rs a s' rs'
unfolding guarded
gives_passed f {r} {n} s e z g = rw (← e, eq-eqb n 0 z) g

-- refusals 1 and 2 are not given: the bounds hold, and the tables pass the test
pub table_rows_none : (F : Form) (n : ℕ) (s : Tables) → first (table_rows F n s) ≡ 0
    → (in_bounds F n s ≡ true) × (sound_test F.base s ≡ true)
table_rows_none F n s e =
    let (a, b, z) = tests_past (in_bounds F n s) (sound_test F.base s) _ (eqb-false 1 0 refl) (eqb-false 2 0 refl) e in
    (a, b)

-- so the bounds hold for what follows
pub bounds_given : (F : Form) (n : ℕ) (s : Tables) {r : ℕ} → r ≡ first (table_rows F n s) → r ≡ 0
    → in_bounds F n s ≡ true
bounds_given F n s e z = (table_rows_none F n s (sym e ∙ z)).0
