-- 01, "How much each contract must say": any two outcomes that the contract of a writer allows coincide, the line's
-- other bytes included. Each is the theorem of `text_buffers` for its text. How many bytes a text takes is
-- `fields_text_six` and `fields_text_four` of WriterLaws.antt.
-- Assumes nothing.
use Prim.Native.Nat.{ℕ}
use mathlib.Core.List.{List}
use mathlib.Core.Path.{◌≡◌}
use Rattle.text_buffers.specs.Buffers.{Wrote, Added}
use Rattle.text_buffers.proofs.Theorems.{wrote_unique, added_unique}
use Rattle.text_numbers.specs.Numbers.{dec}
use Rattle.text_writers.specs.Texts.{field_text, fields_text, stretch_of}

module _ {o x y : List ℕ} {r q : ℕ} where
  pub put_bytes_unique : (t : List ℕ) → Wrote t o x r → Wrote t o y q → (x ≡ y) × (r ≡ q)
  put_bytes_unique t v w = wrote_unique v w

  pub put_number_unique : (n : ℕ) → Wrote (field_text n) o x r → Wrote (field_text n) o y q → (x ≡ y) × (r ≡ q)
  put_number_unique n v w = wrote_unique v w

  pub put_numbers_unique : (ns : List ℕ) → Wrote (fields_text ns) o x r → Wrote (fields_text ns) o y q
      → (x ≡ y) × (r ≡ q)
  put_numbers_unique ns v w = wrote_unique v w

  pub put_part_unique : (s : List ℕ) (from n : ℕ) → Wrote (fields_text (stretch_of s from n)) o x r
      → Wrote (fields_text (stretch_of s from n)) o y q → (x ≡ y) × (r ≡ q)
  put_part_unique s from n v w = wrote_unique v w

  module _ {at : ℕ} where
    pub add_bytes_unique : (t : List ℕ) → Added t o at x r → Added t o at y q → (x ≡ y) × (r ≡ q)
    add_bytes_unique t v w = added_unique v w

    pub add_digits_unique : (n : ℕ) → Added (dec n) o at x r → Added (dec n) o at y q → (x ≡ y) × (r ≡ q)
    add_digits_unique n v w = added_unique v w

    pub add_number_unique : (n : ℕ) → Added (field_text n) o at x r → Added (field_text n) o at y q → (x ≡ y) × (r ≡ q)
    add_number_unique n v w = added_unique v w

    pub add_part_unique : (s : List ℕ) (from n : ℕ) → Added (fields_text (stretch_of s from n)) o at x r
        → Added (fields_text (stretch_of s from n)) o at y q
        → (x ≡ y) × (r ≡ q)
    add_part_unique s from n v w = added_unique v w
