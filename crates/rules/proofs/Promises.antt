-- The page of promises: what the rules promise, each in one statement whose proof is a name. The definitions that it
-- speaks of stand in specs/; no other proof file has to be read. F is any form whose owned and blamed words do not meet
-- (`small` is one), n the report's length, s any tables. Assumes nothing.
use mathlib.Core.Path.{◌≡◌, refl, sym, ◌∙◌}
use mathlib.Core.Logic.{◌⊎◌, ◌≢◌}
use mathlib.Core.List.{List, [], ◌∷◌, ◌++◌, map}
use mathlib.Core.Bool.{true}
use Prim.Native.Nat.{ℕ, ◌+◌, ◌≤◌, ◌<◌}
use lib.Dec.{ltb, lit≤}
use lib.ListN.{length, get_or, replicate}
use Rattle.words.specs.Words.{Form, small, unused_word, ready_word, ended_word, waits_on, unmade_word, set_word}
use Rattle.words.specs.Words.{first_owned, form_of}
use Rattle.words.specs.declared.FormName.{FormName}
use Rattle.words.proofs.WordLaws.{form_fits}
use Rattle.words.specs.Words.{owned_by, blamed_on}
use Rattle.words.specs.Lists.{In}
use Rattle.rules.specs.Tables.{Tables, tables, sizes_fit, room_of, task_at, promise_at, Live, live_tasks, closed}
use Rattle.rules.specs.Tables.{blamed_task, fresh}
use Rattle.rules.specs.Chains.{Chain, waits, view}
use Rattle.rules.specs.Sound.{Sound, sound_test, is_sound}
use Rattle.rules.specs.Answers.{laid, number_of, values_of, word_count, answer_of, SameWords, refused_at_with}
use Rattle.rules.specs.Refusals.{table_rows, entry_rows}
use Rattle.rules.specs.Steps.{Step, step_new, step_set, step_get, step_async, step_end, Outcome, outcome}
use Rattle.rules.specs.Steps.{with_wait, pairs, rows, step_refused, step, untested, LentStep, ran, run}
use Rattle.rules.specs.ProvedSet.{proved_set, taken, expected}
use Rattle.rules.specs.LaterSets.{blamed_set, ring_set, taken_untested}
use Rattle.rules.specs.Demands.{Apart, Good, numbers, paper_rows, paper_entry_rows, paper_numbers, FirstGiven}
use Rattle.rules.specs.Demands.{NoneGiven, BadPlace, Refusal, HowRefused, OwnersFrom, Alarm, Wait, Named, Woken}
use Rattle.rules.specs.Demands.{Demand3, had_waited, Pair, Stands, RunsInto}
use Rattle.rules.specs.Published.{NewRule, SetRule, SpawnRule, GetRule, EndRule, Asserted}
use Rattle.rules.specs.StepContracts.{Gives, Freshens}
use Rattle.rules.specs.declared.Answer.{Answer}
use Rattle.rules.specs.declared.Answer.TheVariants.{Made, Set, Value, Blamed, Waits, Cycle, Started, Ended}
use Rattle.rules.specs.declared.Answer.TheVariants.{Refused, RefusedAt, RefusedBlamed, RefusedBlamedAt}
use Rattle.rules.proofs.Alarms as alarms
use Rattle.rules.proofs.Blame as blame
use Rattle.rules.proofs.Blocked as blocked
use Rattle.rules.proofs.Cases as cases
use Rattle.rules.proofs.Counts as counts
use Rattle.rules.proofs.InTurn as in_turn
use Rattle.rules.proofs.Kept as kept
use Rattle.rules.proofs.Named as named
use Rattle.rules.proofs.Once as once
use Rattle.rules.proofs.Order as order
use Rattle.rules.proofs.Policy as policy
use Rattle.rules.proofs.Rings as rings
use Rattle.rules.proofs.SoundTest as test
use Rattle.rules.proofs.Told as told
use Rattle.rules.proofs.Waiting as waiting

-- ---- the proved set

pub the_proved_set : map taken proved_set ≡ map expected proved_set
the_proved_set = cases.proved_set_lem

pub small_apart : Apart small
small_apart = lit≤ tt

-- and so is every form that a name stands for
pub forms_are_apart : (form : FormName) → Apart (form_of form)
forms_are_apart form = (form_fits form).words

-- ---- the soundness test is what the paper says of sound tables, however far it follows a chain

pub test_means_sound : (B : ℕ) (s : Tables) → first_owned + length s.tasks ≤ B → sound_test B s ≡ true → Sound B s
test_means_sound B s fits e = test.sound_test_sound B s fits e

pub sound_passes_test : (B : ℕ) (s : Tables) → Sound B s → sound_test B s ≡ true
sound_passes_test B s sd = test.sound_sound_test B s sd

-- the public test, of tables of any lengths, finds exactly those that are within their bounds and sound
pub is_sound_means_good : (F : Form) → Apart F → (s : Tables) → is_sound F s ≡ true → Good F s
is_sound_means_good = kept.is_sound_good

pub good_is_sound : (F : Form) → Apart F → (s : Tables) → Good F s → is_sound F s ≡ true
good_is_sound = kept.good_is_sound_test

-- "All-zero tables are sound and have no live task."
pub all_zero_are_sound : (B T P : ℕ) → first_owned ≤ B
    → Sound B (tables (replicate T 0) (replicate P 0))
    × ((v : ℕ) → Live (task_at (tables (replicate T 0) (replicate P 0)) v) → ⊥)
all_zero_are_sound B T P b = (kept.zero_sound B T P b, kept.zero_not_live T P)

-- ---- DEMAND 1

module _ (F : Form) (n : ℕ) (s : Tables) where
  -- "Bad input is refused by number in a fixed order": the rows stand in the paper's order
  pub in_the_papers_order : (x : Step) → numbers (table_rows F n s ++ rows F s x) ≡ paper_rows x
  in_the_papers_order = order.papers_order F n s

  pub entries_in_the_papers_order : (t : ℕ) (list : List ℕ) (i : ℕ)
      → numbers (entry_rows F.base s.promises t list i) ≡ paper_entry_rows
  entries_in_the_papers_order t list i = refl

  -- refused by r exactly when r is the first of the rows that applies; `step_refused` is the answer that returns r, and
  -- for an entry `refused_at_with` is
  pub refused_by_the_first : (x : Step) (r : ℕ) → (step F n s x).answer ≡ step_refused F s x r
      → FirstGiven r (table_rows F n s ++ rows F s x)
  refused_by_the_first = order.refused_first F n s

  pub the_first_refuses : (x : Step) (r : ℕ) → FirstGiven r (table_rows F n s ++ rows F s x)
      → step F n s x ≡ outcome (step_refused F s x r) s []
  the_first_refuses = order.first_refused F n s

  -- and a list entry exactly when it is the first bad one, by the first of its rows that applies, with its place
  pub entry_refused_by_the_first : (t c : ℕ) (list : List ℕ) (r i b : ℕ)
      → (step F n s (step_async t c list)).answer ≡ refused_at_with b i r
      → NoneGiven (table_rows F n s ++ rows F s (step_async t c list)) × BadPlace F.base s.promises t list r i
  entry_refused_by_the_first = order.placed_first F n s

  pub the_first_entry_refuses : (t c : ℕ) (list : List ℕ) (r i : ℕ)
      → NoneGiven (table_rows F n s ++ rows F s (step_async t c list)) → BadPlace F.base s.promises t list r i
      → step F n s (step_async t c list) ≡ outcome (refused_at_with (blamed_task F.base s (get_or list i 0)) i r) s []
  the_first_entry_refuses = order.first_placed F n s

  -- and there is no other refusal
  pub by_a_row_or_for_an_entry : (x : Step) → Refusal (step F n s x).answer → HowRefused F s x (step F n s x).answer
  by_a_row_or_for_an_entry = order.how_refused F n s

  -- the number of the answer (specs/Answers.antt) is then r; it has no value, and for an entry its place, but for 17
  -- (request 3, below). An answer that is no refusal has a number from 100 on
  pub refused_by_number : (x : Step) (r : ℕ) → FirstGiven r (table_rows F n s ++ rows F s x)
      → (number_of (step F n s x).answer ≡ r) × (r ≢ 17 → values_of (step F n s x).answer ≡ [])
  refused_by_number = order.first_number F n s

  pub entry_refused_by_number : (t c : ℕ) (list : List ℕ) (r i : ℕ)
      → NoneGiven (table_rows F n s ++ rows F s (step_async t c list)) → BadPlace F.base s.promises t list r i
      → (number_of (step F n s (step_async t c list)).answer ≡ r)
      × (r ≢ 17 → values_of (step F n s (step_async t c list)).answer ≡ i ∷ [])
  entry_refused_by_number = order.placed_number F n s

  pub a_number_below_100_refuses : (x : Step) → number_of (step F n s x).answer < 100 → Refusal (step F n s x).answer
  a_number_below_100_refuses x = order.number_refuses (step F n s x).answer

  -- and no step is refused by a number that the paper does not give it
  pub refused_by_a_number_of_its_own : (x : Step) → Refusal (step F n s x).answer
      → In (number_of (step F n s x).answer) (paper_numbers x)
  refused_by_a_number_of_its_own = order.own_number F n s

  -- the number and the values of an answer tell which it is, and with which counts: no two answers of steps are told
  -- alike
  pub the_number_and_the_values_tell_the_answer : (x : Step)
      → answer_of (number_of (step F n s x).answer) (values_of (step F n s x).answer) ≡ (step F n s x).answer
  the_number_and_the_values_tell_the_answer x = (told.step_told F n s x).0

  -- so do its four words, the number and the three values, 0 where there is none, for one given step: whatever the
  -- tables and the report, two answers to it with the same four words are the same. A new refused by 6 and an async
  -- refused by 6 for its first entry have the same four words
  pub the_four_words_tell_the_answer : (x : Step) (n' : ℕ) (s' : Tables)
      → SameWords (step F n s x).answer (step F n' s' x).answer → (step F n s x).answer ≡ (step F n' s' x).answer
  the_four_words_tell_the_answer x n' s' = told.words_tell F x n n' s s'

  -- and the answer is laid out as a refusal if its number is below 100
  pub a_number_below_100_is_laid_out_as_a_refusal : (x : Step)
      → (laid (step F n s x).answer).refuses ≡ ltb (number_of (step F n s x).answer) 100
  a_number_below_100_is_laid_out_as_a_refusal x = (told.step_told F n s x).1

  -- a place is at most P, however long the list is
  pub a_place_is_at_most_P : (t c : ℕ) (list : List ℕ) (r i b : ℕ)
      → (step F n s (step_async t c list)).answer ≡ refused_at_with b i r → i ≤ length s.promises
  a_place_is_at_most_P = order.placed_within F n s

  -- "a refusal changes no table and no report"
  pub a_refusal_changes_nothing : (x : Step) → Refusal (step F n s x).answer
      → ((step F n s x).after ≡ s) × ((step F n s x).words ≡ [])
  a_refusal_changes_nothing = order.refusal_unchanged F n s

  -- "a report of at least P + 2T words": the words that a step reports are as many as its answer counts, and never more
  -- than that
  pub the_answer_counts_its_words : (x : Step) → length (step F n s x).words ≡ word_count (step F n s x).answer
  the_answer_counts_its_words = counts.step_counted F n s

  pub the_words_have_room : (x : Step) → length (step F n s x).words ≤ room_of s
  the_words_have_room = counts.step_room F s n

-- any two outcomes that the contract of a step allows coincide
pub one_outcome : {o : Outcome} {rs : List ℕ} {a a' : Answer} {s s' : Tables} {after after' : List ℕ}
    → Gives o rs a s after → Gives o rs a' s' after'
    → (a ≡ a') × (s ≡ s') × (after ≡ after')
one_outcome g h = (g.answer ∙ sym h.answer, g.after ∙ sym h.after, g.report ∙ sym h.report)

pub one_freshening : {F : Form} {s : Tables} {r r' : ℕ} {x x' : Tables} → Freshens F s r x → Freshens F s r' x'
    → (r ≡ r') × (x ≡ x')
one_freshening g h = (g.number ∙ sym h.number, g.after ∙ sym h.after)

-- ---- the published policy (specs/Published.antt)

module _ (F : Form) (n : ℕ) (s : Tables) where
  -- an accepted step does what the rules of 001, section 3.2, say
  pub new_by_the_policy : (t p : ℕ) → (step F n s (step_new t p)).answer ≡ Made
      → NewRule s (step F n s (step_new t p)).after t p
  new_by_the_policy = policy.new_rule F n s

  pub set_by_the_policy : (t p m : ℕ) → (step F n s (step_set t p)).answer ≡ Set m
      → SetRule s (step F n s (step_set t p)).after t p
  set_by_the_policy = policy.set_rule F n s

  pub async_by_the_policy : (t c : ℕ) (list : List ℕ) → (step F n s (step_async t c list)).answer ≡ Started
      → SpawnRule s (step F n s (step_async t c list)).after t c list
  async_by_the_policy = policy.spawn_rule F n s

  pub get_by_the_policy : (t p : ℕ) (a : Answer) → (Refusal a → ⊥) → (step F n s (step_get t p)).answer ≡ a
      → GetRule s (step F n s (step_get t p)).after p a
  get_by_the_policy = policy.get_rule F n s

  pub end_by_the_policy : (t m k : ℕ) → (step F n s (step_end t)).answer ≡ Ended m k
      → EndRule s (step F n s (step_end t)).after t
  end_by_the_policy = policy.end_rule F n s

  -- of the tasks a new changes no word, and an async makes the child ready and changes no other word
  pub new_changes_no_task : (t p : ℕ) → (step F n s (step_new t p)).answer ≡ Made
      → (step F n s (step_new t p)).after.tasks ≡ s.tasks
  new_changes_no_task = policy.new_tasks F n s

  pub async_starts_the_child : (t c : ℕ) (list : List ℕ) → (step F n s (step_async t c list)).answer ≡ Started
      → (task_at (step F n s (step_async t c list)).after c ≡ ready_word)
      × ((v : ℕ) → v ≢ c → task_at (step F n s (step_async t c list)).after v ≡ task_at s v)
  async_starts_the_child = policy.spawn_tasks F n s

  -- a step whose rules assert what does not hold is refused
  pub forbidden_is_refused : (x : Step) → (Asserted s x → ⊥) → Refusal (step F n s x).answer
  forbidden_is_refused = policy.forbidden_refused F n s

  -- 000, Definition 2.1: "get p blocks the current task until after set p": a step leaves the word of a task that waits
  -- on p, or closes p and makes the task ready
  pub blocks_until_closed : (v p : ℕ) → task_at s v ≡ waits_on p → (x : Step)
      → (task_at (step F n s x).after v ≡ waits_on p)
      ⊎ ((task_at (step F n s x).after v ≡ ready_word) × (closed F.base (promise_at (step F n s x).after p) ≡ true))
  blocks_until_closed v p w x = blocked.blocks F s v p w n x

-- ---- DEMAND 2

-- good tables: fresh ones, and whatever steps make of good ones. A step, with whatever report, leaves the tables as
-- long as they were, so that a report which has room for them still has it
pub fresh_tables_are_good : (F : Form) → Apart F → (T P : ℕ) → 1 ≤ T → T ≤ F.most_tasks → P ≤ F.most_promises
    → Good F (fresh T P)
fresh_tables_are_good F apart T P some = kept.fresh_good T P some F apart

pub fresh_tables_have_T_and_P_words : (T P : ℕ)
    → (length (fresh T P).tasks ≡ T) × (length (fresh T P).promises ≡ P)
fresh_tables_have_T_and_P_words = kept.fresh_lengths

module _ (F : Form) (apart : Apart F) (n : ℕ) (s : Tables) (x : Step) where
  pub a_step_leaves_good_tables_good : Good F s → Good F (step F n s x).after
  a_step_leaves_good_tables_good = kept.good_step F apart n s x

  pub a_step_leaves_the_lengths : (length (step F n s x).after.tasks ≡ length s.tasks)
      × (length (step F n s x).after.promises ≡ length s.promises)
  a_step_leaves_the_lengths = let l = kept.step_lengths F apart n s x in (l.tasks, l.promises)

-- and so do any steps, each with a report of its own
module _ (F : Form) (apart : Apart F) (s : Tables) (xs : List LentStep) where
  pub steps_leave_good_tables_good : Good F s → Good F (run F s xs)
  steps_leave_good_tables_good = kept.good_run F apart s xs

  pub steps_leave_the_lengths : (length (run F s xs).tasks ≡ length s.tasks)
      × (length (run F s xs).promises ≡ length s.promises)
  steps_leave_the_lengths = let l = kept.run_lengths F apart s xs in (l.tasks, l.promises)

-- in good tables, with a report that has room ..
module _ (F : Form) (apart : Apart F) (n : ℕ) (s : Tables) (good : Good F s) (room : room_of s ≤ n) where
  -- "if p is set, answer value. If p is blamed on b, answer blamed b", and nothing changes
  pub value_if_set : (t p : ℕ) → task_at s t ≡ ready_word → promise_at s p ≡ set_word
      → step F n s (step_get t p) ≡ outcome Value s []
  value_if_set = alarms.get_value F apart n s good room

  pub blamed_if_blamed : (t p b : ℕ) → task_at s t ≡ ready_word → promise_at s p ≡ blamed_on F.base b
      → step F n s (step_get t p) ≡ outcome (Blamed b) s []
  blamed_if_blamed = alarms.get_blamed F apart n s good room

  -- "A get alarms exactly when the chain of owners and waits leads back to the asker", and then reports that ring and
  -- changes no table
  pub alarms_if_back : (t p : ℕ) (l : List ℕ) → task_at s t ≡ ready_word → OwnersFrom s p l → In t l
      → step F n s (step_get t p) ≡ outcome (Cycle (length l)) s (pairs (length l) (view s) t p)
  alarms_if_back = alarms.get_alarms F apart n s good room

  -- otherwise it waits, and the owners reached are its chain
  pub waits_if_not_back : (t p : ℕ) (l : List ℕ) → task_at s t ≡ ready_word → OwnersFrom s p l → (In t l → ⊥)
      → (step F n s (step_get t p) ≡ outcome (Waits (length l)) (with_wait s t p) [])
      × Chain (waits (with_wait s t p)) t l
  waits_if_not_back = alarms.get_waits F apart n s good room

-- the owners from a promise: one list for each owned promise, with at most as many as there are live tasks
module _ (F : Form) (apart : Apart F) (s : Tables) (good : Good F s) where
  pub owners_exist : (p u : ℕ) → u < length s.tasks → promise_at s p ≡ owned_by u → (l : List ℕ) × OwnersFrom s p l
  owners_exist = alarms.owners_some F s (kept.fits F apart s good.sizes) good.sound

  pub owners_unique : (p : ℕ) (l l' : List ℕ) → OwnersFrom s p l → OwnersFrom s p l' → l ≡ l'
  owners_unique = alarms.owners_one s

  pub owners_at_most_live : (p : ℕ) (l : List ℕ) → OwnersFrom s p l → length l ≤ live_tasks s
  owners_at_most_live = alarms.owners_bound s

-- .. and exactly then, whatever the tables
module _ (F : Form) (apart : Apart F) (n : ℕ) (s : Tables) where
  pub only_if_set : (t p : ℕ) → (step F n s (step_get t p)).answer ≡ Value
      → (task_at s t ≡ ready_word) × (promise_at s p ≡ set_word)
  only_if_set = alarms.value_means F apart n s

  pub only_if_blamed : (t p b : ℕ) → (step F n s (step_get t p)).answer ≡ Blamed b
      → (task_at s t ≡ ready_word) × (promise_at s p ≡ blamed_on F.base b)
  only_if_blamed = alarms.blamed_means F apart n s

  pub only_if_back : (t p k : ℕ) → (step F n s (step_get t p)).answer ≡ Cycle k
      → Alarm s t p k (step F n s (step_get t p)).words
  only_if_back = alarms.alarm_means F apart n s

  pub an_alarm_changes_no_table : (t p k : ℕ) → (step F n s (step_get t p)).answer ≡ Cycle k
      → (step F n s (step_get t p)).after ≡ s
  an_alarm_changes_no_table = alarms.alarm_unchanged F apart n s

  -- the owners reached are as many as it answers, come to a ready task and do not lead back to the asker
  pub waits_only_if_not_back : (t p k : ℕ) → (step F n s (step_get t p)).answer ≡ Waits k → Wait s t p k
  waits_only_if_not_back = alarms.wait_means F apart n s

  -- "A task that ends still owning promises is named for exactly those": these become blamed on it, who waited on them
  -- becomes ready, it has ended, and no other word changes
  pub named_for_exactly_those : (t m k : ℕ) → (step F n s (step_end t)).answer ≡ Ended m k
      → Named F.base s t m k (step F n s (step_end t))
  named_for_exactly_those t m k e =
      named.end_names F n s (kept.accepted_good F apart n s (step_end t) (Ended m k) (λ r. elim r [ ]) e).sound t m k e

  -- a set makes ready exactly those who waited on it; it is set, and no other word changes
  pub wakes_exactly_those : (t p m : ℕ) → (step F n s (step_set t p)).answer ≡ Set m
      → Woken s p m (step F n s (step_set t p))
  wakes_exactly_those = named.set_wakes F n s

-- each step, accepted, refused or alarmed, leaves sound tables sound, from any sound tables
pub sound_stays_sound : (F : Form) → Apart F → (n : ℕ) (s : Tables) → Sound F.base s → (x : Step)
    → Sound F.base (step F n s x).after
sound_stays_sound = kept.sound_kept

-- "A number is used once in a session": from any tables, after any steps, each with a report of its own, a promise that
-- was made is still made and a task that was used is still used
pub a_number_is_used_once : (F : Form) → Apart F → (s : Tables) (xs : List LentStep)
    → ((p : ℕ) → promise_at s p ≢ unmade_word → promise_at (run F s xs) p ≢ unmade_word)
    × ((t : ℕ) → task_at s t ≢ unused_word → task_at (run F s xs) t ≢ unused_word)
a_number_is_used_once F apart s xs = (once.promise_stays_made F apart s xs, once.task_stays_used F apart s xs)

-- so that the promise is not made again, and the task not started again
pub not_made_again : (F : Form) → Apart F → (s : Tables) (p : ℕ) → promise_at s p ≢ unmade_word
    → (xs : List LentStep) (n t : ℕ) → Refusal (step F n (run F s xs) (step_new t p)).answer
not_made_again = once.made_once

pub not_started_again : (F : Form) → Apart F → (s : Tables) (c : ℕ) → task_at s c ≢ unused_word
    → (xs : List LentStep) (n t : ℕ) (list : List ℕ) → Refusal (step F n (run F s xs) (step_async t c list)).answer
not_started_again = once.started_once

-- ---- DEMAND 3

-- of any good tables
pub demand_3_of : (F : Form) → Apart F → (s : Tables) → Good F s → Demand3 F s
demand_3_of F apart s g = record {
  some_ready = waiting.some_ready F.base s g.sound;
  one_chain = waiting.one_chain F.base s g.sound;
  kept = λ n. waiting.chain_kept F apart n s;
  in_turn = λ v l c n. in_turn.ends_in_turn F apart n s g v l c;
}

-- "From fresh tables, after any steps", each with a report of its own, refusal 1 among them: all four sentences of
-- specs/Demands.antt, `Demand3`
pub demand_3 : (F : Form) → Apart F → (T P : ℕ) → 1 ≤ T → T ≤ F.most_tasks → P ≤ F.most_promises
    → (xs : List LentStep) → Demand3 F (run F (fresh T P) xs)
demand_3 F apart T P some most most' xs =
    demand_3_of F apart (run F (fresh T P) xs)
    (kept.good_run F apart (fresh T P) xs (kept.fresh_good T P some F apart most most'))

-- ---- REQUEST 3, "Blamed is not set"

pub the_blamed_set : map taken blamed_set ≡ map expected blamed_set
the_blamed_set = cases.blamed_set_lem

module _ (F : Form) (apart : Apart F) (n : ℕ) (s : Tables) where
  -- "A set .. on a blamed promise must tell the blamed task": exactly then, and nothing changes
  pub set_tells_the_blamed : Good F s → room_of s ≤ n → (t p b : ℕ) → task_at s t ≡ ready_word
      → promise_at s p ≡ blamed_on F.base b → step F n s (step_set t p) ≡ outcome (RefusedBlamed b) s []
  set_tells_the_blamed g room t p b = blame.set_blamed F apart n s t p g room b

  pub set_tells_only_the_blamed : (t p b : ℕ) → (step F n s (step_set t p)).answer ≡ RefusedBlamed b
      → (task_at s t ≡ ready_word) × (promise_at s p ≡ blamed_on F.base b)
  set_tells_only_the_blamed = blame.blamed_set_lem F apart n s

  -- "9 is given for a set promise alone"
  pub nine_if_set : Good F s → room_of s ≤ n → (t p : ℕ) → task_at s t ≡ ready_word → promise_at s p ≡ set_word
      → step F n s (step_set t p) ≡ outcome (Refused 9) s []
  nine_if_set g room t p = blame.set_nine F apart n s t p g room

  pub nine_only_if_set : (t p : ℕ) → (step F n s (step_set t p)).answer ≡ Refused 9
      → (task_at s t ≡ ready_word) × (promise_at s p ≡ set_word)
  nine_only_if_set = blame.nine_set F apart n s

  -- "for async the place before it": of the first entry that something is wrong with
  pub async_tells_the_blamed : (t c : ℕ) (list : List ℕ) (i b : ℕ)
      → NoneGiven (table_rows F n s ++ rows F s (step_async t c list)) → i < length list
      → ((j : ℕ) → j < i → NoneGiven (entry_rows F.base s.promises t list j))
      → promise_at s (get_or list i 0) ≡ blamed_on F.base b
      → step F n s (step_async t c list) ≡ outcome (RefusedBlamedAt i b) s []
  async_tells_the_blamed t c list i b none h good = blame.async_blamed F apart n s t c list i b (none, h, good)

  pub async_tells_only_the_blamed : (t c : ℕ) (list : List ℕ) (i b : ℕ)
      → (step F n s (step_async t c list)).answer ≡ RefusedBlamedAt i b
      → BadPlace F.base s.promises t list 17 i × (promise_at s (get_or list i 0) ≡ blamed_on F.base b)
  async_tells_only_the_blamed = blame.blamed_async F apart n s

  pub async_nine_if_set : (t c : ℕ) (list : List ℕ) (i : ℕ)
      → NoneGiven (table_rows F n s ++ rows F s (step_async t c list)) → i < length list
      → ((j : ℕ) → j < i → NoneGiven (entry_rows F.base s.promises t list j))
      → promise_at s (get_or list i 0) ≡ set_word
      → step F n s (step_async t c list) ≡ outcome (RefusedAt 9 i) s []
  async_nine_if_set t c list i none h good = blame.async_nine F apart n s t c list i (none, h, good)

  pub async_nine_only_if_set : (t c : ℕ) (list : List ℕ) (i : ℕ)
      → (step F n s (step_async t c list)).answer ≡ RefusedAt 9 i → promise_at s (get_or list i 0) ≡ set_word
  async_nine_only_if_set = blame.nine_async F apart n s

-- of a promise that is blamed on b in good tables
module _ (F : Form) (apart : Apart F) (s : Tables) (good : Good F s) (p b : ℕ)
    (blamed : promise_at s p ≡ blamed_on F.base b) where
  -- b has ended
  pub who_is_blamed_has_ended : (b < length s.tasks) × (task_at s b ≡ ended_word)
  who_is_blamed_has_ended = blame.blamed_ended_lem F apart s good p b blamed

  -- and after any steps, each with a report of its own, the promise is still blamed on b
  pub the_blame_stays : (xs : List LentStep) → promise_at (run F s xs) p ≡ blamed_on F.base b
  the_blame_stays xs = blame.blame_stays F apart s xs good p b blamed

-- ---- REQUEST 4, "Show that the alarm is real"

pub the_ring_set : map taken_untested ring_set ≡ map expected ring_set
the_ring_set = cases.ring_set_lem

-- "the step rules, read without the soundness test" are `untested` (specs/Steps.antt): in sound tables the same rules
pub untested_is_the_same_where_sound : (F : Form) (n : ℕ) (s : Tables) → Sound F.base s → (x : Step)
    → untested F n s x ≡ step F n s x
untested_is_the_same_where_sound = rings.untested_sound

-- whatever the tables, if the get of p by t alarms, and whatever steps might have followed, each with a report of its
-- own
module _ (F : Form) (apart : Apart F) (n : ℕ) (s : Tables) (t p k : ℕ)
    (alarm : (step F n s (step_get t p)).answer ≡ Cycle k) (xs : List LentStep) where
  -- the ring that the alarm reports
  abbrev ring : List ℕ
  ring = (step F n s (step_get t p)).words

  -- "had the alarmed wait been entered anyway, then after any further accepted steps": refused and alarmed ones may be
  -- among them
  abbrev later : Tables
  later = had_waited F s t p xs

  -- "every task of the reported ring would still wait on the same promise"
  pub the_ring_still_waits : (u q : ℕ) → Pair u q ring → task_at later u ≡ waits_on q
  the_ring_still_waits = rings.alarm_real F apart n s t p k alarm xs

  -- and the next task of the ring still owns it
  pub the_ring_stands : Stands later t p ring
  the_ring_stands = rings.alarm_stays F apart n s t p k alarm xs

  sizes : sizes_fit F later ≡ true
  sizes = rings.alarm_sizes F apart n s t p k alarm xs

  -- "An outsider's get whose chain runs into the ring counts as a wait entered": with a report that has room it answers
  -- waits, with the number of all tasks, and from then on the outsider waits too
  pub an_outsiders_wait_is_entered : (m : ℕ) → room_of later ≤ m → (v q u : ℕ) → task_at later v ≡ ready_word
      → promise_at later q ≡ owned_by u → RunsInto later ring u
      → (untested F m later (step_get v q) ≡ outcome (Waits (length later.tasks)) (with_wait later v q) [])
      × ((ys : List LentStep) → task_at (ran (untested F) (with_wait later v q) ys) v ≡ waits_on q)
  an_outsiders_wait_is_entered m room v q u r o i = (
    rings.outsider_entered later t p ring the_ring_stands F apart sizes m room v q u r o i,
    rings.outsider_stays later t p ring the_ring_stands F v q u r o i,
  )

  -- so does everybody who waited for a task of the ring already
  pub who_runs_into_the_ring_still_waits : (v q : ℕ) → RunsInto later ring v → task_at later v ≡ waits_on q
      → (ys : List LentStep) → task_at (ran (untested F) later ys) v ≡ waits_on q
  who_runs_into_the_ring_still_waits = rings.into_stays later t p ring the_ring_stands F

  -- with the test every step on these tables, with a report that has room, is refused by 2
  pub the_test_finds_the_ring : (m : ℕ) → room_of later ≤ m → (x : Step)
      → step F m later x ≡ outcome (Refused 2) later []
  the_test_finds_the_ring = rings.ring_refused later t p ring the_ring_stands F apart sizes

-- an alarm of the rules without the test, on a promise that a task owns, is as real, whatever the tables
pub real_without_the_test : (F : Form) → Apart F → (n : ℕ) (s : Tables) (t p k u : ℕ) → u < length s.tasks
    → promise_at s p ≡ owned_by u
    → (untested F n s (step_get t p)).answer ≡ Cycle k → (xs : List LentStep)
    → Stands (had_waited F s t p xs) t p (untested F n s (step_get t p)).words
real_without_the_test = rings.untested_stays
