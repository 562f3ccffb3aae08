-- The rules give each row of the proved set (specs/ProvedSet.antt), and of the sets of later requests
-- (specs/LaterSets.antt), by computation. Assumes nothing.
use mathlib.Core.Path.{◌≡◌, refl}
use mathlib.Core.List.{map}
use Rattle.words.specs.Words.{sizes_in_bounds}
use Rattle.words.specs.Lists.{all_below, is, places, changed}
use Rattle.rules.specs.Tables.{sizes_fit, in_bounds}
use Rattle.rules.specs.Sound.{hop, comes, task_passes, promise_passes, sound_test}
use Rattle.rules.specs.Answers.{refused_with, refused_at_with}
use Rattle.rules.specs.Refusals.{first, differs, entry_refusal, first_bad}
use Rattle.rules.specs.Steps.{given, awaits, walk, pairs, followed, got, guarded, started}
use Rattle.rules.specs.ProvedSet.{proved_set, taken, expected}
use Rattle.rules.specs.LaterSets.{blamed_set, ring_set, taken_untested}

pub proved_set_lem : map taken proved_set ≡ map expected proved_set
unfolding sizes_in_bounds sizes_fit in_bounds all_below is places changed hop comes task_passes promise_passes
    sound_test first
    differs entry_refusal first_bad given awaits walk pairs followed got guarded started refused_with refused_at_with
proved_set_lem = refl

pub blamed_set_lem : map taken blamed_set ≡ map expected blamed_set
unfolding sizes_in_bounds sizes_fit in_bounds all_below is places changed hop comes task_passes promise_passes
    sound_test first
    differs entry_refusal first_bad given awaits walk pairs followed got guarded started refused_with refused_at_with
blamed_set_lem = refl

pub ring_set_lem : map taken_untested ring_set ≡ map expected ring_set
unfolding sizes_in_bounds sizes_fit in_bounds all_below is places changed hop comes task_passes promise_passes
    sound_test first
    differs entry_refusal first_bad given awaits walk pairs followed got guarded started refused_with refused_at_with
ring_set_lem = refl
