-- Laws of specs/Texts.antt: a text written byte by byte and field by field, a part of the words as a slice, and how
-- many bytes the fields of numbers take.
-- Assumes nothing.
use Prim.Native.Nat.{ℕ, zero, suc, ◌+◌, ◌-◌, ◌*◌, ◌≤◌, ◌<◌, min}
use mathlib.Core.List.{List, [], ◌∷◌, ◌++◌, append_assoc, append-nil}
use mathlib.Core.Path.{◌≡◌, ap, sym}
use native.Mathlib.Omega.{arith}
use native.Mathlib.Numerals.{add-one}
use native.Mathlib.Nat.{mul-suc, zero-min, min-zero, suc-min-suc}
use lib.ListN.{length, take, drop, get_or, length-append, length-drop}
use lib.ListN.{drop_of_length-le}
use lib.Seq.{take-suc, take-nil}
use Rattle.text_buffers.specs.Buffers.{Wrote, Added}
use Rattle.text_buffers.proofs.BufferLaws.{wrote_none, wrote_added}
use Rattle.text_numbers.proofs.PrintLaws.{dec_three, dec_five}
use Rattle.text_writers.specs.Texts.{field_text, fields_text, stretch_of, Every, no_more, one_more}

-- ---- one more

fields_text_snoc : (ns : List ℕ) (n : ℕ) → fields_text (ns ++ (n ∷ [])) ≡ fields_text ns ++ field_text n
unfolding fields_text
fields_text_snoc [] n = append-nil (field_text n)
fields_text_snoc (m ∷ ns) n =
    rw (fields_text_snoc ns n) (sym (append_assoc (field_text m) (fields_text ns) (field_text n)))

-- of a list of numbers
pub fields_more : (ns : List ℕ) (i : ℕ) {o x y : List ℕ} {at r : ℕ} → i < length ns
    → Wrote (fields_text (take i ns)) o x at
    → Added (field_text (get_or ns i 0)) x at y r → Wrote (fields_text (take (i + 1) ns)) o y r
fields_more ns i h w a = rw (add-one, take-suc ns i 0 h, fields_text_snoc (take i ns) (get_or ns i 0)) (wrote_added w a)

pub fields_none : (o : List ℕ) → Wrote (fields_text []) o o 0
unfolding fields_text
fields_none o = wrote_none o

-- ---- a part of the words

pub stretch_of_none : (s : List ℕ) (from n : ℕ) → length s ≤ from → stretch_of s from n ≡ []
stretch_of_none s from n h = rw (drop_of_length-le s h) (take-nil n)

-- the part as a slice
pub stretch_of_slice : (s : List ℕ) (from n e : ℕ) → e ≡ from + min n (length s - from)
    → take (e - from) (drop from s) ≡ stretch_of s from n
stretch_of_slice s from n e q = go n (drop from s) (e - from) (rw length-drop (omega arith))
  where
    go : (n : ℕ) (t : List ℕ) (k : ℕ) → k ≡ min n (length t) → take k t ≡ take n t
    go n t k p = rw p (cut n t)
      where
        cut : (n : ℕ) (t : List ℕ) → take (min n (length t)) t ≡ take n t
        cut zero t = rw zero-min
        cut (suc n) [] = rw (min-zero, take-nil)
        cut (suc n) (b ∷ t) = rw suc-min-suc (ap (λ (r : List ℕ). b ∷ r) (cut n t))

-- ---- a property of every number

module _ (P : ℕ → Type 0) where
  pub every_append : {xs ys : List ℕ} → Every P xs → Every P ys → Every P (xs ++ ys)
  every_append no_more b = b
  every_append (one_more p a) b = one_more p (every_append a b)

  every_take : (n : ℕ) {xs : List ℕ} → Every P xs → Every P (take n xs)
  every_take zero a = no_more
  every_take (suc n) no_more = no_more
  every_take (suc n) (one_more p a) = one_more p (every_take n a)

  every_drop : (n : ℕ) {xs : List ℕ} → Every P xs → Every P (drop n xs)
  every_drop zero a = a
  every_drop (suc n) no_more = no_more
  every_drop (suc n) (one_more p a) = every_drop n a

  pub every_stretch : (from n : ℕ) {ws : List ℕ} → Every P ws → Every P (stretch_of ws from n)
  every_stretch from n a = every_take n (every_drop from a)

  pub every_parted : (xs : List ℕ) {ys : List ℕ} → Every P (xs ++ ys) → Every P xs × Every P ys
  every_parted [] a = (no_more, a)
  every_parted (x ∷ xs) (one_more p a) = let (b, c) = every_parted xs a in (one_more p b, c)

-- ---- how many bytes there are

-- w bytes a field
fields_text_wide : (w : ℕ) (P : ℕ → Type 0) → ((n : ℕ) → P n → length (field_text n) ≤ w) → (ns : List ℕ) → Every P ns
    → length (fields_text ns) ≤ w * length ns
unfolding fields_text
fields_text_wide w P h [] no_more = omega arith
fields_text_wide w P h (n ∷ ns) (one_more p a) =
    rw length-append (omega (arith, h n p, fields_text_wide w P h ns a, mul-suc w (length ns)))

-- numbers of 16 bits take at most 6 bytes each
pub fields_text_six : (ns : List ℕ) → Every (λ n. n < 65536) ns → length (fields_text ns) ≤ 6 * length ns
fields_text_six ns a = fields_text_wide 6 (λ n. n < 65536) (λ n h. omega (arith, dec_five n h)) ns a

-- and numbers below 1000 at most 4
pub fields_text_four : (ns : List ℕ) → Every (λ n. n < 1000) ns → length (fields_text ns) ≤ 4 * length ns
fields_text_four ns a = fields_text_wide 4 (λ n. n < 1000) (λ n h. omega (arith, dec_three n h)) ns a
