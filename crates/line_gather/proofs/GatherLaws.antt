-- Laws of specs/Gather.antt: the piece of a line that a block holds, and what gathering it comes to.
-- Assumes nothing.
use Prim.Native.Nat.{ℕ, ◌+◌, ◌-◌, ◌≤◌, ◌<◌, min}
use mathlib.Core.List.{List, []}
use mathlib.Core.Path.{◌≡◌, ap, sym, ◌∙◌}
use native.Mathlib.Omega.{arith}
use native.Mathlib.Decide.{dec_lt}
use Rattle.std.proofs.Common.{Some, None, ◌⊎◌, inl, inr}
use borrow.Author.Tests.{lt-ltb, le-ltb}
use lib.ListN.{length, take, drop, drop_of_length-le}
use lib.Seq.{take-nil, length-take-le}
use Rattle.text_buffers.specs.Buffers.{Added}
use Rattle.text_fields.specs.Fields.{line_end, run_to, end_from}
use Rattle.text_fields.proofs.FieldLaws.{run_to_most, end_from_from}
use Rattle.line_gather.specs.Gather.{piece_of, counted, gathered_in, got_of, Gathered}

-- ---- the piece

module _ (s : List ℕ) (from e : ℕ) (q : e ≡ end_from line_end s from) where
  long : e - from ≡ run_to line_end (drop from s)
  unfolding end_from
  long = omega arith

  -- as a part of the block
  pub piece_of_part : take (e - from) (drop from s) ≡ piece_of s from
  unfolding piece_of
  piece_of_part = ap (λ (n : ℕ). take n (drop from s)) long

  pub piece_of_length : length (piece_of s from) ≡ e - from
  unfolding piece_of
  piece_of_length =
      let r = run_to line_end (drop from s) in
      length-take-le r (drop from s) (run_to_most line_end (drop from s)) ∙ sym long

pub piece_of_past : (s : List ℕ) (from : ℕ) → length s ≤ from → piece_of s from ≡ []
unfolding piece_of
piece_of_past s from h = rw (drop_of_length-le s h) (take-nil (run_to line_end []))

-- ---- where the block goes on, within it

module _ (s : List ℕ) (from f : ℕ) (q : f ≡ min from (length s)) where
  past_or_same : Dec (length s < from) → (f ≡ from) ⊎ ((length s < from) × (f ≡ length s))
  past_or_same (yes l) = inr (l, omega arith)
  past_or_same (no l) = inl (omega arith)

  piece_within : piece_of s f ≡ piece_of s from
  piece_within = go (past_or_same (dec_lt (length s) from))
    where
      go : (f ≡ from) ⊎ ((length s < from) × (f ≡ length s)) → piece_of s f ≡ piece_of s from
      go (inl e) = ap (piece_of s) e
      go (inr (l, e)) = piece_of_past s f (omega arith) ∙ sym (piece_of_past s from (omega arith))

  end_within : end_from line_end s f < length s → end_from line_end s f ≡ end_from line_end s from
  end_within h =
      let e : f ≡ from = omega (arith, end_from_from line_end s f) in ap (end_from line_end s) e

  end_past : length s ≤ end_from line_end s f → length s ≤ end_from line_end s from
  end_past h = go (past_or_same (dec_lt (length s) from))
    where
      go : (f ≡ from) ⊎ ((length s < from) × (f ≡ length s)) → length s ≤ end_from line_end s from
      go (inl e) = rw e at h
      go (inr (l, e)) = omega (arith, end_from_from line_end s from)

-- ---- what a block brings

module _ (o : List ℕ) (have : ℕ) (s : List ℕ) (from f e n r : ℕ) (x : List ℕ) (w : f ≡ min from (length s))
    (q : e ≡ end_from line_end s f) (m : n ≡ min (have + (e - f)) (length o + 1))
    (a : Added (take (e - f) (drop f s)) o have x r) where
  count : n ≡ counted (length o) (have + length (piece_of s from))
  unfolding counted
  count =
      m
      ∙ ap (λ (k : ℕ). min (have + k) (length o + 1))
      (sym (piece_of_length s f e q) ∙ ap length (piece_within s from f w))

  bytes : x ≡ gathered_in o have s from
  bytes = rw (piece_of_part s f e q, piece_within s from f w) at a.text

  -- the line ends here
  pub gathered_line : e < length s → Gathered o have s from x (record { count = n; next = Some (e + 1) })
  unfolding got_of
  gathered_line h =
      let l : end_from line_end s f < length s = omega arith in
      let k : e ≡ end_from line_end s from = q ∙ end_within s from f w l in
      record {
        answer = rw (lt-ltb (end_from line_end s from) (length s) (omega arith), ← count, ← k);
        bytes = bytes;
      }

  -- the block ends before
  pub gathered_more : length s ≤ e → Gathered o have s from x (record { count = n; next = None })
  unfolding got_of
  gathered_more h =
      let l = end_past s from f w (omega arith) in
      record { answer = rw (le-ltb (end_from line_end s from) (length s) l, ← count); bytes = bytes }
