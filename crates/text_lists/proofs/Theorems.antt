-- What is promised of the list of async: nothing overflows and nothing is cut where one word is lent for two bytes,
-- as 1,024 words are for a line of 2,048; the answer counts the entries; and any two outcomes coincide.
-- Assumes nothing.
use Prim.Native.Nat.{ℕ, ◌*◌, ◌≤◌}
use mathlib.Core.List.{List}
use mathlib.Core.Path.{◌≡◌, ap, sym, ◌∙◌}
use native.Mathlib.Omega.{arith}
use lib.ListN.{length}
use Rattle.words.specs.Lists.{over}
use Rattle.text_buffers.proofs.BufferLaws.{fitting_room}
use Rattle.std.specs.Prelude.{Result, Ok}
use Rattle.text_fields.specs.declared.BadByte.{BadByte}
use Rattle.text_lists.specs.Lists.{list_entries, Listing}
use Rattle.text_lists.proofs.ListLaws.{list_entries_most, list_of_count}

-- NOTHING IS CUT: with a word for two bytes, the lent words begin with every entry, in order
pub list_whole : {s o x : List ℕ} {r : Result ℕ BadByte} → Listing s o x r → length s ≤ 2 * length o
    → x ≡ over (list_entries s) o
list_whole {s} {o} l h =
    let m = list_entries_most s in
    l.words ∙ ap (λ (t : List ℕ). over t o) (fitting_room (list_entries s) o (omega arith))

-- the answer counts them, and they are at most one for two bytes: 1,019 in a line of 2,048, whose word, actor and
-- child take 9
pub list_counted : {s o x : List ℕ} {n : ℕ} → Listing s o x (Ok n) → (n ≡ length (list_entries s)) × (2 * n ≤ length s)
list_counted {s} {o} {x} {n} l =
    let c = list_of_count s n (sym l.answer) in
    (c, omega (arith, list_entries_most s))

-- 01, "How much each contract must say": any two outcomes that the contracts of `list` and `list_after` allow coincide
pub listing_unique : {s o x y : List ℕ} {p q : Result ℕ BadByte} → Listing s o x p → Listing s o y q → (x ≡ y) × (p ≡ q)
listing_unique a b = (a.words ∙ sym b.words, a.answer ∙ sym b.answer)
