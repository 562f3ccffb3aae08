-- What is promised of numbers. `number` and `put_digits` have contracts that any two outcomes meet alike; and reading
-- and printing belong together: a field is read as n exactly if it is the printed form of n, and n is at most 65535.
-- Assumes nothing.
use Prim.Native.Nat.{ℕ, ◌≤◌}
use mathlib.Core.List.{List}
use mathlib.Core.Path.{◌≡◌, sym, ap, ◌∙◌}
use Rattle.text_buffers.specs.Buffers.{Wrote}
use Rattle.text_buffers.proofs.Theorems.{wrote_unique}
use Rattle.std.specs.Prelude.{Result, Ok}
use Rattle.text_fields.specs.declared.BadByte.{BadByte}
use Rattle.text_numbers.specs.Numbers.{largest, number_in, dec}
use Rattle.text_numbers.proofs.PrintLaws.{number_in_print, number_in_printed}

-- "1 to 5 digits, no leading zero but in 0 itself, and is at most 65535", both ways
pub reads_the_printed : (s : List ℕ) (n : ℕ) → n ≤ largest → s ≡ dec n → number_in s ≡ Ok n
reads_the_printed s n m e = ap number_in e ∙ number_in_print n m

pub reads_nothing_else : (s : List ℕ) (n : ℕ) → number_in s ≡ Ok n → (n ≤ largest) × (s ≡ dec n)
reads_nothing_else s n e = number_in_printed s n e

-- 01, "How much each contract must say"
pub number_unique : (s : List ℕ) {p q : Result ℕ BadByte} → p ≡ number_in s → q ≡ number_in s → p ≡ q
number_unique s e f = e ∙ sym f

pub put_digits_unique : (n : ℕ) {r q : ℕ} {o x y : List ℕ} → Wrote (dec n) o x r → Wrote (dec n) o y q
    → (x ≡ y) × (r ≡ q)
put_digits_unique n v w = wrote_unique v w
