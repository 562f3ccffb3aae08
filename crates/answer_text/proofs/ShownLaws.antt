-- Laws of `fields_of` for what an answer shows of the report: with enough words written at the report's start, the
-- fields are the same as from these words alone, whatever the report held before; there are at most four more of them
-- than words; and they are as small as the answer's own numbers and the words are.
-- Assumes nothing.
use Prim.Native.Nat.{ℕ, zero, suc, ◌+◌, ◌-◌, ◌≤◌, min}
use mathlib.Core.List.{List, [], ◌∷◌, ◌++◌}
use mathlib.Core.Bool.{Bool, true, false}
use Rattle.std.specs.Prelude.{Option, Some, None}
use mathlib.Core.Path.{◌≡◌, refl, ap}
use native.Mathlib.Omega.{arith}
use lib.ListN.{length, drop, length-append, length-take, length-drop}
use Rattle.words.specs.Lists.{over, In, top, pop}
use Rattle.text_writers.specs.Texts.{stretch_of, Every, no_more, one_more}
use Rattle.text_writers.proofs.WriterLaws.{every_append, every_stretch, every_parted}
use Rattle.rules.specs.Answers.{laid, number_of, words_of, value_in, values_of, word_count}
use Rattle.rules.specs.declared.Answer.{Answer}
use Rattle.rules.specs.declared.Part.{Part}
use Rattle.answer_text.specs.AnswerText.{number_shown, part_shown, fields_in, fields_of}

-- ---- the report's first words

stretch_of_append : (from n : ℕ) (xs ys : List ℕ) → from + n ≤ length xs
    → stretch_of (xs ++ ys) from n ≡ stretch_of xs from n
stretch_of_append zero zero xs ys h = refl
stretch_of_append zero (suc n) [] ys h = absurd (omega arith)
stretch_of_append zero (suc n) (x ∷ xs) ys h = ap (λ (r : List ℕ). x ∷ r) (stretch_of_append zero n xs ys (omega arith))
stretch_of_append (suc from) n [] ys h = absurd (omega arith)
stretch_of_append (suc from) n (x ∷ xs) ys h = stretch_of_append from n xs ys (omega arith)

-- a part of the words that were written is theirs, and not the older report's
pub stretch_of_over : (from n : ℕ) (ws rs : List ℕ) → from + n ≤ length ws
    → stretch_of (over ws rs) from n ≡ stretch_of ws from n
unfolding over
stretch_of_over from n ws rs h = stretch_of_append from n ws (drop (length ws) rs) h

shown_over : (o : Option Part) (ws rs : List ℕ) (from : ℕ) → from + words_of o ≤ length ws
    → part_shown o (over ws rs) from ≡ part_shown o ws from
shown_over None ws rs from h = refl
shown_over (Some p) ws rs from h = rw (stretch_of_over from p.words ws rs h)

pub fields_of_over : (a : Answer) (ws rs : List ℕ) → word_count a ≤ length ws
    → fields_of a (over ws rs) ≡ fields_of a ws
unfolding fields_in
fields_of_over a ws rs h =
    let l = laid a in
    rw (
      shown_over l.first ws rs 0 (omega arith),
      shown_over l.second ws rs (words_of l.first) (omega arith),
      shown_over l.third ws rs (words_of l.first + words_of l.second) (omega arith),
    )

-- ---- how many fields there are

shown_length : (o : Option Part) (ws : List ℕ) (from : ℕ)
    → length (part_shown o ws from) ≤ 1 + min (words_of o) (length ws - from)
shown_length None ws from = omega arith
shown_length (Some p) ws from = omega (arith, length-take p.words (drop from ws), length-drop from ws)

number_length : (b : Bool) (n : ℕ) → length (number_shown b n) ≤ 1
number_length true n = omega arith
number_length false n = omega arith

pub fields_of_length : (a : Answer) (ws : List ℕ) → length (fields_of a ws) ≤ 4 + length ws
unfolding fields_in
fields_of_length a ws =
    let l = laid a in
    rw (length-append, length-append, length-append)
    (omega (
      arith,
      number_length l.refuses l.number,
      shown_length l.first ws 0,
      shown_length l.second ws (words_of l.first),
      shown_length l.third ws (words_of l.first + words_of l.second),
    ))

-- ---- how large they are

module _ (P : ℕ → Type 0) where
  pub every_in : (xs : List ℕ) → ((x : ℕ) → In x xs → P x) → Every P xs
  every_in [] h = no_more
  every_in (x ∷ xs) h = one_more (h x top) (every_in xs (λ y i. h y (pop i)))

  number_every : (b : Bool) (n : ℕ) → P n → Every P (number_shown b n)
  number_every true n p = one_more p no_more
  number_every false n p = no_more

  shown_every : (o : Option Part) (from : ℕ) {ws : List ℕ} → Every P (value_in o) → Every P ws
      → Every P (part_shown o ws from)
  shown_every None from v w = no_more
  shown_every (Some p) from (one_more q u) w = one_more q (every_stretch P from p.words w)

  -- what holds of the answer's number, its values and the words holds of the fields
  pub fields_of_every : (a : Answer) (ws : List ℕ) → P (number_of a) → Every P (values_of a) → Every P ws
      → Every P (fields_of a ws)
  unfolding fields_in
  fields_of_every a ws n v w =
      let l = laid a in
      let (both, third) = every_parted P (value_in l.first ++ value_in l.second) v in
      let (first, second) = every_parted P (value_in l.first) both in
      every_append P
      (every_append P (every_append P (number_every l.refuses l.number n) (shown_every l.first 0 first w))
      (shown_every l.second (words_of l.first) second w))
      (shown_every l.third (words_of l.first + words_of l.second) third w)
