-- 01, "How much each contract must say": any two outcomes that the contract of `hop` allows coincide, since an answer
-- is read as one hop and no other. The other contracts of this crate are equations to a definition, and so leave one
-- answer. Assumes nothing.
use mathlib.Core.Path.{◌≡◌, refl, sym, ap, ◌∙◌}
use Rattle.words.proofs.BoolLaws.{clash}
use Rattle.rules.specs.Sound.{Hop}
use Rattle.table_hops.specs.declared.Next.{Next}
use Rattle.table_hops.specs.declared.Next.TheVariants.{Ready, Lost, To}
use Rattle.table_hops.specs.Hops.{hop_read}

hop_read_one : (r q : Next) → hop_read r ≡ hop_read q → r ≡ q
hop_read_one Ready Ready e = refl
hop_read_one Ready Lost e = clash cc
hop_read_one Ready (To v) e = clash cc
hop_read_one Lost Ready e = clash cc
hop_read_one Lost Lost e = refl
hop_read_one Lost (To v) e = clash cc
hop_read_one (To u) Ready e = clash cc
hop_read_one (To u) Lost e = clash cc
hop_read_one (To u) (To v) e = let z : u ≡ v = cc in ap To z

pub hop_unique : {h : Hop} {r q : Next} → hop_read r ≡ h → hop_read q ≡ h → r ≡ q
hop_unique {r = r} {q = q} e f = hop_read_one r q (e ∙ sym f)
