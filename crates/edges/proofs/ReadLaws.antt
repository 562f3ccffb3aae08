-- Bytes that are read one part after another. Assumes nothing.
use Rattle.std.proofs.Common.{◌≡◌, ℕ, ◌+◌, ◌-◌, ◌≤◌, List, [], ◌++◌, length, take, drop, Option, Some, None, sym, ap}
use Rattle.std.proofs.Common.{◌∙◌, append_assoc, append-nil, arith, length-drop, drop_of_length-le, length-take-le}
use Rattle.std.proofs.Math.Seq.{take-add}
use Rattle.std.proofs.lemmas.List.{take_at, drop_at}
use Rattle.std.specs.Io.KnownBytes.{Consumes}
use borrow.Rule.Slice.PartMut.{put_mid}

consumes_then : (u v w : Option (List ℕ)) (s t : List ℕ) → Consumes u v s → Consumes v w t → Consumes u w (s ++ t)
consumes_then None v w s t h k = tt
consumes_then (Some a) None w s t h k = absurd h
consumes_then (Some a) (Some b) None s t h k = k
consumes_then (Some a) (Some b) (Some c) s t h k = h ∙ ap (λ (z : List ℕ). s ++ z) k ∙ sym (append_assoc s t c)

-- the rest, given back with t in it
put_back : (s t : List ℕ) (n : ℕ) → put_mid n (length s - n) s t ≡ take n s ++ t
put_back s t n =
    let z : drop (length s - n) (drop n s) ≡ [] =
    drop_of_length-le (drop n s) {i = length s - n} (rw length-drop (omega arith)) in
    rw (z, append-nil)

-- what a read put into the rest of the array follows what was read before it
pub consumes_on : (u v w : Option (List ℕ)) (s t : List ℕ) (at n : ℕ) → at ≤ length s → Consumes u v (take at s)
    → Consumes v w (take n t) → Consumes u w (take (at + n) (put_mid at (length s - at) s t))
consumes_on u v w s t at n l h k =
    let first : take at (take at s ++ t) ≡ take at s = take_at (take at s) t at (length-take-le at s l) in
    let rest : drop at (take at s ++ t) ≡ t = drop_at (take at s) t at (length-take-le at s l) in
    rw (put_back s t at, take-add at n, first, rest) (consumes_then u v w (take at s) (take n t) h k)
