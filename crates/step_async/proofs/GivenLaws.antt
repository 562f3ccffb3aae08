-- What a loop that hands out a list of promises holds after i entries: the rest of the list is still to be handed
-- out. A law for the start, a turn and the end, over `given` of the rules. Assumes nothing.
use Prim.Native.Nat.{ℕ, ◌+◌, ◌≤◌, ◌<◌}
use mathlib.Core.Path.{◌≡◌, refl, ◌∙◌}
use mathlib.Core.List.{List}
use native.Mathlib.Omega.{arith}
use native.Mathlib.Numerals.{add-one}
use lib.ListN.{length, get_or, set, drop, drop_of_length-le, length-set}
use lib.Seq.{drop-cons}
use Rattle.rules.specs.Steps.{given}

pub record HandedOut (w : ℕ) (list before now : List ℕ) (i : ℕ) : Type 0 where
  pub within : i ≤ length list
  pub same : length now ≡ length before
  pub rest : given w list before ≡ given w (drop i list) now

pub handed_out_start : (w : ℕ) (list ps : List ℕ) → HandedOut w list ps ps 0
handed_out_start w list ps = record { within = omega arith; same = refl; rest = refl }

pub handed_out_turn : {w : ℕ} {list before now : List ℕ} {i : ℕ} → HandedOut w list before now i → i < length list
    → HandedOut w list before (set now (get_or list i 0) w) (i + 1)
unfolding given
handed_out_turn {w} {list} {before} {now} {i} r h = record {
  within = omega arith;
  same = length-set now (get_or list i 0) w ∙ r.same;
  rest = rw (r.rest, add-one, drop-cons list i 0 h);
}

pub handed_out_end : {w : ℕ} {list before now : List ℕ} {i : ℕ} → HandedOut w list before now i → length list ≤ i
    → now ≡ given w list before
unfolding given
handed_out_end {w} {list} {before} {now} {i} r h = rw (r.rest, drop_of_length-le list h)
