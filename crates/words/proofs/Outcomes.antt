-- 01, "How much each contract must say": any two outcomes that a contract allows coincide. Of a contract that says that
-- an answer, or what a lent slice holds then, is what a definition gives, it is this law. docs/DECISIONS.md names the
-- functions that have such a contract and no theorem of their own. Assumes nothing.
use mathlib.Core.Path.{◌≡◌, sym, ◌∙◌}

pub one_answer : {A : Type 0} {given x y : A} → x ≡ given → y ≡ given → x ≡ y
one_answer e f = e ∙ sym f
