-- The worked batch of specs/WorkedBatch.antt, by computation: with just enough room, and refused with a word less.
-- Assumes nothing.
use mathlib.Core.Path.{◌≡◌, refl}
use mathlib.Core.List.{[]}
use Rattle.words.specs.Words.{small, sizes_in_bounds}
use Rattle.words.specs.Lists.{all_below, is, places, changed}
use Rattle.rules.specs.Tables.{fresh, sizes_fit, in_bounds}
use Rattle.rules.specs.Sound.{hop, comes, task_passes, promise_passes, sound_test}
use Rattle.rules.specs.Answers.{laid, refused_with, refused_at_with}
use Rattle.rules.specs.Refusals.{first, differs, entry_refusal, first_bad}
use Rattle.rules.specs.Steps.{given, awaits, walk, pairs, followed, got, guarded, started}
use Rattle.answer_words.specs.AnswerWords.{answer_words}
use Rattle.step_kinds.specs.Kinds.{shape_of, takes_list}
use Rattle.batch.specs.Batches.{one_by_one, last_tables, all_answers, all_words, has_room, called, batched}
use Rattle.batch.specs.WorkedBatch.{worked_list, worked_records, worked_outcome}
use Rattle.std.specs.Prelude.{Err}

pub worked_batch : batched small worked_list (fresh 3 4) worked_records 150 60 ≡ worked_outcome
unfolding sizes_in_bounds sizes_fit in_bounds all_below is places changed hop comes task_passes promise_passes
    sound_test
    laid first differs entry_refusal first_bad given awaits walk pairs followed got guarded started
    answer_words shape_of takes_list one_by_one last_tables all_answers all_words has_room called refused_with
    refused_at_with
worked_batch = refl

pub one_word_less : batched small worked_list (fresh 3 4) worked_records 149 60 ≡
    record { answer = Err 1; after = fresh 3 4; words = []; answers = [] }
unfolding sizes_in_bounds first has_room called
one_word_less = refl

pub one_answer_less : batched small worked_list (fresh 3 4) worked_records 150 59 ≡
    record { answer = Err 1; after = fresh 3 4; words = []; answers = [] }
unfolding sizes_in_bounds first has_room called
one_answer_less = refl
