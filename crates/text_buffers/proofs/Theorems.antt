-- 01, "How much each contract must say": any two outcomes that a contract over `Wrote` or `Added` allows coincide.
-- `add_byte` answers by `Added`; every writer above answers by one of the two.
-- Assumes nothing.
use Prim.Native.Nat.{ℕ}
use mathlib.Core.List.{List}
use mathlib.Core.Path.{◌≡◌, sym, ◌∙◌}
use Rattle.text_buffers.specs.Buffers.{Wrote, Added}

pub wrote_unique : {t o x y : List ℕ} {r q : ℕ} → Wrote t o x r → Wrote t o y q → (x ≡ y) × (r ≡ q)
wrote_unique v w = (v.text ∙ sym w.text, v.count ∙ sym w.count)

pub added_unique : {t o x y : List ℕ} {at r q : ℕ} → Added t o at x r → Added t o at y q → (x ≡ y) × (r ≡ q)
added_unique v w = (v.text ∙ sym w.text, v.end ∙ sym w.end)
