-- A report in two parts: a run of stores from the start, and a second one from where the first came to, make up the
-- two lists after each other at the report's start. Assumes nothing.
use Prim.Native.Nat.{ℕ, ◌+◌, ◌≤◌}
use mathlib.Core.Path.{◌≡◌, sym, ◌∙◌}
use mathlib.Core.List.{List, ◌++◌}
use lib.ListN.{length, length-append}
use lib.Seq.{sets}
use Rattle.words.specs.Lists.{over}
use Rattle.words.proofs.ListLaws.{over_sets, sets_append}

pub over_append : (xs ys ws : List ℕ) {mid out : List ℕ} {m : ℕ} → length xs + length ys ≤ length ws
    → m ≡ 0 + length xs → mid ≡ sets ws 0 xs → out ≡ sets mid m ys → out ≡ over (xs ++ ys) ws
over_append xs ys ws h e f g =
    let room : length (xs ++ ys) ≤ length ws = rw length-append h in
    rw (g, e, f) (sym (over_sets (xs ++ ys) ws room ∙ sets_append ws 0 xs ys))
