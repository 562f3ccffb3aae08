-- Laws of `number_in` and `digits_from`, the reading half of specs/Numbers.antt: one for each way out of a step of a
-- loop over the field, and that a bad byte's place lies within the field.
-- Assumes nothing.
use Prim.Native.Nat.{ℕ, suc, ◌+◌, ◌*◌, ◌≤◌, ◌<◌}
use mathlib.Core.List.{List, [], ◌∷◌}
use mathlib.Core.Bool.{Bool, true, false}
use lib.Dec.{ltb, leb, eqb}
use mathlib.Core.Path.{◌≡◌, refl, sym, ap, ◌∙◌}
use native.Mathlib.Omega.{arith}
use native.Mathlib.Decide.{dec_lt}
use native.Mathlib.Numerals.{add-one}
use borrow.Author.Tests.{eq-eqb, ne_eqb, lt-ltb, le-ltb, le-leb, lt-leb}
use lib.ListN.{length, drop, get_or, drop_of_length-le}
use lib.Seq.{drop-cons}
use Rattle.std.specs.Prelude.{Ok, Err, Option, Some, None, SomeIff}
use Rattle.text_fields.specs.Fields.{bad_byte}
use Rattle.text_fields.specs.declared.BadByte.{BadByte}
use Rattle.text_numbers.specs.Numbers.{largest, digit_of, digits_from, after_zero, number_in}

-- ---- the ways out

pub number_in_empty : (s : List ℕ) → length s ≡ 0 → number_in s ≡ Err (bad_byte 0)
unfolding after_zero number_in
number_in_empty [] h = refl
number_in_empty (b ∷ s) h = absurd (omega arith)

pub number_in_zero : (s : List ℕ) → get_or s 0 0 ≡ 48 → length s ≡ 1 → number_in s ≡ Ok 0
unfolding after_zero number_in
number_in_zero [] z h = absurd (omega arith)
number_in_zero (b ∷ []) z h = rw (eq-eqb _ _ z)
number_in_zero (b ∷ a ∷ s) z h = absurd (omega arith)

pub number_in_zero_more : (s : List ℕ) → get_or s 0 0 ≡ 48 → (length s ≡ 1 → ⊥) → number_in s ≡ Err (bad_byte 1)
unfolding after_zero number_in
number_in_zero_more [] z h = absurd (omega arith)
number_in_zero_more (b ∷ []) z h = absurd (h refl)
number_in_zero_more (b ∷ a ∷ s) z h = rw (eq-eqb _ _ z)

pub number_in_start : (s : List ℕ) → (length s ≡ 0 → ⊥) → (get_or s 0 0 ≡ 48 → ⊥) → number_in s ≡ digits_from 0 0 s
unfolding after_zero number_in
number_in_start [] h z = absurd (h refl)
number_in_start (b ∷ s) h z = rw (ne_eqb _ _ z)

module _ (s : List ℕ) (v k i : ℕ) where
  pub digits_from_end : length s ≤ i → digits_from v k (drop i s) ≡ Ok v
  unfolding digits_from
  digits_from_end h = rw drop_of_length-le

  module _ (h : i < length s) where
    abbrev digit : ℕ
    digit = digit_of (get_or s i 0)

    pub digits_from_stop : ((digit < 10) × (v * 10 + digit ≤ largest) → ⊥)
        → digits_from v k (drop i s) ≡ Err (bad_byte k)
    unfolding digits_from
    digits_from_stop n = rw (drop-cons s i 0) (go (dec_lt digit 10) (dec_lt largest (v * 10 + digit)))
      where
        go : Dec (digit < 10) → Dec (largest < v * 10 + digit)
            → digits_from v k (get_or s i 0 ∷ drop (suc i) s) ≡ Err (bad_byte k)
        go (no f) o = rw (le-ltb digit 10 (omega arith))
        go (yes f) (yes o) = rw (lt-ltb _ _ f, lt-leb _ _ o)
        go (yes f) (no o) = absurd (n (f, omega arith))

    pub digits_from_go : (digit < 10) × (v * 10 + digit ≤ largest)
        → digits_from v k (drop i s) ≡ digits_from (v * 10 + digit) (k + 1) (drop (i + 1) s)
    unfolding digits_from
    digits_from_go (n, o) = rw (add-one i, drop-cons s i 0, lt-ltb _ _ n, le-leb _ _ o)

-- what the next byte makes of it, as code tells it: r is the number with that byte, if there is one
module _ (s : List ℕ) (v k i : ℕ) (h : i < length s) (r : Option ℕ)
    (p : SomeIff r ((digit_of (get_or s i 0) < 10) × (v * 10 + digit_of (get_or s i 0) ≤ largest))
    (v * 10 + digit_of (get_or s i 0))) where
  pub digits_from_some : (n : ℕ) → r ≡ Some n → digits_from v k (drop i s) ≡ digits_from n (k + 1) (drop (i + 1) s)
  digits_from_some n e =
      let q = rw e at p in
      digits_from_go s v k i h q.0 ∙ ap (λ (w : ℕ). digits_from w (k + 1) (drop (i + 1) s)) (sym q.1)

  pub digits_from_none : r ≡ None → digits_from v k (drop i s) ≡ Err (bad_byte k)
  digits_from_none e = digits_from_stop s v k i h (rw e at p)

-- the place of a bad byte is within the field, or at its end
pub never : {b : BadByte} {n : ℕ} {A : Type 0} → Ok n ≡ Err b → A
never e = absurd (cc)

within_step : (b v k : ℕ) (j : BadByte) (s : List ℕ)
    → (digits_from (v * 10 + digit_of b) (k + 1) s ≡ Err j → j.place ≤ k + 1 + length s)
    → (x : Bool) → ltb (digit_of b) 10 ≡ x → (y : Bool) → leb (v * 10 + digit_of b) largest ≡ y
    → digits_from v k (b ∷ s) ≡ Err j → j.place ≤ k + suc (length s)
unfolding digits_from
within_step b v k j s ih false d y o e =
    let r = rw d at e in
    let q : bad_byte k ≡ j = cc in
    omega (arith, ap (λ (b : BadByte). b.place) q)
within_step b v k j s ih true d false o e =
    let r = rw (d, o) at e in
    let q : bad_byte k ≡ j = cc in
    omega (arith, ap (λ (b : BadByte). b.place) q)
within_step b v k j s ih true d true o e = omega (arith, ih (rw (d, o) at e))

digits_from_within : (s : List ℕ) (v k : ℕ) (j : BadByte) → digits_from v k s ≡ Err j → j.place ≤ k + length s
unfolding digits_from
digits_from_within [] v k j e = never e
digits_from_within (b ∷ s) v k j e =
    within_step b v k j s (digits_from_within s (v * 10 + digit_of b) (k + 1) j) (ltb (digit_of b) 10) refl
    (leb (v * 10 + digit_of b) largest) refl e

bad_step : (b : ℕ) (j : BadByte) (s : List ℕ) (x : Bool) → eqb b 48 ≡ x → number_in (b ∷ s) ≡ Err j
    → j.place ≤ suc (length s)
unfolding number_in after_zero
bad_step b j [] true z e = never (rw z at e)
bad_step b j (a ∷ s) true z e =
    let r = rw z at e in
    let q : bad_byte 1 ≡ j = cc in
    omega (arith, ap (λ (b : BadByte). b.place) q)
bad_step b j s false z e = omega (arith, digits_from_within (b ∷ s) 0 0 j (rw z at e))

pub number_in_bad_within : (s : List ℕ) (j : BadByte) → number_in s ≡ Err j → j.place ≤ length s
unfolding number_in
number_in_bad_within [] j e = let q : bad_byte 0 ≡ j = cc in omega (arith, ap (λ (b : BadByte). b.place) q)
number_in_bad_within (b ∷ s) j e = bad_step b j s (eqb b 48) refl e

-- a number has a digit
pub number_in_is_nonempty : (s : List ℕ) (v : ℕ) → number_in s ≡ Ok v → 0 < length s
unfolding number_in
number_in_is_nonempty [] v e = never (sym e)
number_in_is_nonempty (b ∷ s) v e = omega arith
