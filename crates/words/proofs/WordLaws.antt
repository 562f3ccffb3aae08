-- Laws of specs/Words.antt: the bounds as a test and as facts, and what every form that has a name fits.
-- Assumes nothing.
use Prim.Native.Nat.{ℕ, ◌+◌, ◌≤◌}
use mathlib.Core.Path.{◌≡◌}
use mathlib.Core.Bool.{true, ◌&&◌}
use lib.Dec.{leb}
use borrow.Author.Tests.{leb-true, le-leb}
use native.Mathlib.Omega.{arith}
use Rattle.words.specs.Words.{Form, small, large, form_of, first_owned, sizes_in_bounds}
use Rattle.words.specs.declared.FormName.{FormName}
use Rattle.words.specs.declared.FormName.TheVariants.{Small, Large}
use Rattle.words.proofs.BoolLaws.{and_split, and_yes}

-- T and P are within their bounds
pub record Sizes (F : Form) (T P : ℕ) : Type 0 where
  pub some : 1 ≤ T
  pub tasks : T ≤ F.most_tasks
  pub promises : P ≤ F.most_promises

pub sizes_in_bounds_true : (F : Form) (T P : ℕ) → sizes_in_bounds F T P ≡ true → Sizes F T P
unfolding sizes_in_bounds
sizes_in_bounds_true F T P e =
    let (ab, c) = and_split (leb 1 T && leb T F.most_tasks) (leb P F.most_promises) e in
    let (a, b) = and_split (leb 1 T) (leb T F.most_tasks) ab in
    record { some = leb-true 1 T a; tasks = leb-true T F.most_tasks b; promises = leb-true P F.most_promises c }

pub sizes_in_bounds_of : (F : Form) (T P : ℕ) → Sizes F T P → sizes_in_bounds F T P ≡ true
unfolding sizes_in_bounds
sizes_in_bounds_of F T P b =
    and_yes _ _ (and_yes _ _ (le-leb 1 T b.some) (le-leb T F.most_tasks b.tasks))
    (le-leb P F.most_promises b.promises)

-- what every form has: owned and blamed words do not meet, and nothing of it is larger than in the large form
pub record FormFits (F : Form) : Type 0 where
  pub words : first_owned + F.most_tasks ≤ F.base
  pub least : small.base ≤ F.base
  pub base : F.base ≤ large.base
  pub tasks : F.most_tasks ≤ large.most_tasks
  pub promises : F.most_promises ≤ large.most_promises

pub form_fits : (form : FormName) → FormFits (form_of form)
form_fits Small = record {
  words = omega arith;
  least = omega arith;
  base = omega arith;
  tasks = omega arith;
  promises = omega arith;
}
form_fits Large = record {
  words = omega arith;
  least = omega arith;
  base = omega arith;
  tasks = omega arith;
  promises = omega arith;
}

-- so tables of any form are within the bounds of the large one
pub within_large : (form : FormName) (T P : ℕ) → sizes_in_bounds (form_of form) T P ≡ true
    → sizes_in_bounds large T P ≡ true
within_large form T P e =
    let s = sizes_in_bounds_true (form_of form) T P e in
    let f = form_fits form in
    sizes_in_bounds_of large T P (record {
      some = s.some;
      tasks = omega (arith, s.tasks, f.tasks);
      promises = omega (arith, s.promises, f.promises);
    })
