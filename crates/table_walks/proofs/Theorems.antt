-- 01, "How much each contract must say": any two outcomes that the contract of `follow` allows coincide, since an
-- answer is read as one finding and no other. The other contracts of this crate are equations to a definition, and so
-- leave one answer. Assumes nothing.
use mathlib.Core.Path.{◌≡◌, refl, sym, ap, ◌∙◌}
use Rattle.words.proofs.BoolLaws.{clash}
use Rattle.rules.specs.Steps.{Found}
use Rattle.table_walks.specs.declared.Trail.{Trail}
use Rattle.table_walks.specs.declared.Trail.TheVariants.{Astray, Back, Free}
use Rattle.table_walks.specs.Trails.{found_read}

found_read_one : (r q : Trail) → found_read r ≡ found_read q → r ≡ q
found_read_one Astray Astray e = refl
found_read_one Astray (Back k) e = clash cc
found_read_one Astray (Free k) e = clash cc
found_read_one (Back k) Astray e = clash cc
found_read_one (Back k) (Back j) e = let z : k ≡ j = cc in ap Back z
found_read_one (Back k) (Free j) e = clash cc
found_read_one (Free k) Astray e = clash cc
found_read_one (Free k) (Back j) e = clash cc
found_read_one (Free k) (Free j) e = let z : k ≡ j = cc in ap Free z

pub follow_unique : {f : Found} {r q : Trail} → found_read r ≡ f → found_read q ≡ f → r ≡ q
follow_unique {r = r} {q = q} e f = found_read_one r q (e ∙ sym f)
