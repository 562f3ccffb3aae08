-- What is promised of lines out of blocks: block by block the buffer holds the line so far, whole if it has room for
-- it; and its count tells a line that is too long from one that just fits. Any two outcomes of a function coincide.
-- Assumes nothing.
use Prim.Native.Nat.{ℕ, ◌+◌, ◌≤◌, ◌<◌}
use Rattle.std.proofs.Common.{Option}
use mathlib.Core.List.{List, [], ◌++◌, append-nil}
use mathlib.Core.Bool.{Bool}
use mathlib.Core.Path.{◌≡◌, refl, ap, sym, ◌∙◌}
use native.Mathlib.Omega.{arith}
use native.Mathlib.Decide.{dec_lt}
use lib.ListN.{length, take, drop, length-append, drop_of_length-le}
use lib.Seq.{take_all, take-append_seam}
use Rattle.words.specs.Lists.{over}
use Rattle.text_buffers.specs.Buffers.{fitting, Wrote, Added}
use Rattle.words.proofs.ListLaws.{over_none, over_length}
use Rattle.text_buffers.proofs.BufferLaws.{over_is, fitting_none, fitting_room, fitting_most, fitting_full}
use Rattle.text_buffers.proofs.BufferLaws.{fitting_past, wrote_added}
use Rattle.line_gather.specs.declared.Got.{Got}
use Rattle.line_gather.specs.Gather.{piece_of, counted, got_of, Gathered, Holds, is_last, number_after}

-- ---- the line so far

-- a line begins
pub holds_none : (o : List ℕ) → Holds [] o o 0
unfolding counted
holds_none o = record { bytes = sym (rw fitting_none (over_none o)); count = omega arith }

counted_more : (L t k : ℕ) → counted L (counted L t + k) ≡ counted L (t + k)
unfolding counted
counted_more L t k = omega arith

counted_is : (L t : ℕ) → t ≤ L → counted L t ≡ t
unfolding counted
counted_is L t h = omega arith

counted_long : (L t : ℕ) → L < t → counted L t ≡ L + 1
unfolding counted
counted_long L t h = omega arith

pub holds_length : {t o x : List ℕ} {n : ℕ} → Holds t o x n → length x ≡ length o
holds_length {t} {o} h = ap length h.bytes ∙ over_length (fitting t o) o (fitting_most t o)

-- EACH BLOCK ADDS ITS PIECE
pub holds_piece : (t o x y s : List ℕ) (n from : ℕ) → Holds t o x n → (r : Got) → Gathered x n s from y r
    → Holds (t ++ piece_of s from) o y (counted (length x) (n + length (piece_of s from)))
holds_piece t o x y s n from h r g = record { bytes = go (dec_lt (length o) (length t)); count = counts }
  where
    counts : counted (length x) (n + length (piece_of s from)) ≡ counted (length o) (length (t ++ piece_of s from))
    counts = rw (holds_length h, h.count, length-append) (counted_more (length o) (length t) (length (piece_of s from)))

    go : Dec (length o < length t) → y ≡ over (fitting (t ++ piece_of s from) o) o
    go (no l) =
        let k : length t ≤ length o = omega arith in
        let size = h.count ∙ counted_is (length o) (length t) k ∙ sym (ap length (fitting_room t o k)) in
        let w : Wrote t o x n = record { count = size; text = h.bytes } in
        let end = n + length (fitting (piece_of s from) (drop n x)) in
        let a : Added (piece_of s from) x n y end = record { end = refl; text = g.bytes } in
        (wrote_added w a).text
    go (yes l) =
        let m : length x ≤ n = omega (arith, h.count, counted_long (length o) (length t) l, holds_length h) in
        let d : drop n x ≡ [] = drop_of_length-le x m in
        let past = fitting_past t (piece_of s from) o (omega arith) in
        g.bytes
        ∙ rw (d, fitting_full (piece_of s from) [] refl, over_none, append-nil, take_all n x m)
        (h.bytes ∙ sym (ap (λ (u : List ℕ). over u o) past))

-- and that count is the one that the answer holds
pub gathered_counts : (o s x : List ℕ) (have from : ℕ) (r : Got) → Gathered o have s from x r
    → r.count ≡ counted (length o) (have + length (piece_of s from))
unfolding got_of
gathered_counts o s x have from r g = ap (λ (h : Got). h.count) g.answer

-- A LINE THAT FITS IS THERE, WHOLE
pub holds_whole : (t o x : List ℕ) (n : ℕ) → Holds t o x n → n ≤ length o → (n ≡ length t) × (take n x ≡ t)
holds_whole t o x n h l = (c, rw (held, c) (take-append_seam t (drop (length t) o)))
  where
    k : length t ≤ length o
    k = go (dec_lt (length o) (length t))
      where
        go : Dec (length o < length t) → length t ≤ length o
        go (yes g) = absurd (omega (arith, h.count, counted_long (length o) (length t) g))
        go (no g) = omega arith

    c : n ≡ length t
    c = h.count ∙ counted_is (length o) (length t) k

    held : x ≡ t ++ drop (length t) o
    held = h.bytes ∙ ap (λ (u : List ℕ). over u o) (fitting_room t o k) ∙ over_is t o

-- AND THE COUNT PAST THE BUFFER SAYS THAT THE LINE IS TOO LONG
pub holds_long : (t o x : List ℕ) (n : ℕ) → Holds t o x n → length o < n → length o < length t
unfolding counted
holds_long t o x n h l = omega (arith, h.count)

-- ---- 01, "How much each contract must say": any two outcomes that a contract allows coincide

pub gather_unique : {o s x y : List ℕ} {have from : ℕ} {p q : Got} → Gathered o have s from x p
    → Gathered o have s from y q → (x ≡ y) × (p ≡ q)
gather_unique a b = (a.bytes ∙ sym b.bytes, a.answer ∙ sym b.answer)

pub is_last_unique : (have : ℕ) {p q : Bool} → p ≡ is_last have → q ≡ is_last have → p ≡ q
is_last_unique have e f = e ∙ sym f

pub number_after_unique : (n : ℕ) {p q : Option ℕ} → p ≡ number_after n → q ≡ number_after n → p ≡ q
number_after_unique n e f = e ∙ sym f
