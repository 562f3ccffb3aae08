-- 01, "How much each contract must say": any two outcomes that the contracts of this crate allow coincide. That a
-- record is what the paper's forms say is the theorem of `text_forms`.
-- Assumes nothing.
use Prim.Native.Nat.{ℕ}
use mathlib.Core.List.{List}
use mathlib.Core.Path.{◌≡◌, sym, ◌∙◌}
use Rattle.std.specs.Prelude.{Result}
use Rattle.text_fields.specs.declared.BadByte.{BadByte}
use Rattle.text_records.specs.declared.LineRecord.{LineRecord}
use Rattle.text_records.specs.Records.{number_at, pair_at, record_of}

pub number_at_unique : (s : List ℕ) (a : ℕ) {p q : Result (ℕ × ℕ) BadByte} → p ≡ number_at s a → q ≡ number_at s a
    → p ≡ q
number_at_unique s a p q = p ∙ sym q

pub pair_at_unique : (s : List ℕ) (a : ℕ) {p q : Result (ℕ × ℕ × ℕ) BadByte} → p ≡ pair_at s a → q ≡ pair_at s a → p ≡ q
pair_at_unique s a p q = p ∙ sym q

pub record_of_unique : (s : List ℕ) {p q : Result LineRecord BadByte} → p ≡ record_of s → q ≡ record_of s → p ≡ q
record_of_unique s p q = p ∙ sym q
