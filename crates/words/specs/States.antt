-- What a word of the two tables says, as a case of its own.
--
--   ReadsTask w s     the word w of the task table says s
--   ReadsPromise w s  the word w of the promise table says s
-- Assumes nothing.
use Rattle.std.specs.Prelude.{ℕ, ◌≡◌, ◌<◌}
use Rattle.words.specs.declared.TaskState.{TaskState}
use Rattle.words.specs.declared.TaskState.TheVariants.{Unused, Ready, Ended, Waits}
use Rattle.words.specs.declared.PromiseState.{PromiseState}
use Rattle.words.specs.declared.PromiseState.TheVariants.{Unmade, Set, Owned, Blamed}
use Rattle.words.specs.declared.TaskState.TheVariants.{Damaged as DamagedTask}
use Rattle.words.specs.declared.PromiseState.TheVariants.{Damaged as DamagedPromise}
use Rattle.words.specs.Words.{unused_word, ready_word, ended_word, first_wait, waits_on}
use Rattle.words.specs.Words.{unmade_word, set_word, first_owned, owned_by, blamed_on, small}

abbrev pub ReadsTask : ℕ → TaskState → Type 0
ReadsTask w Unused = w ≡ unused_word
ReadsTask w Ready = w ≡ ready_word
ReadsTask w Ended = w ≡ ended_word
ReadsTask w (Waits p) = w ≡ waits_on p
ReadsTask w DamagedTask = (ended_word < w) × (w < first_wait)

-- of the small form
abbrev pub ReadsPromise : ℕ → PromiseState → Type 0
ReadsPromise w Unmade = w ≡ unmade_word
ReadsPromise w Set = w ≡ set_word
ReadsPromise w (Owned t) = (w ≡ owned_by t) × (w < small.base)
ReadsPromise w (Blamed t) = w ≡ blamed_on small.base t
ReadsPromise w DamagedPromise = (set_word < w) × (w < first_owned)
