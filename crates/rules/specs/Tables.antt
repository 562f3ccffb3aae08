-- The two tables of a session. Paper: 01, "Tables and words".
--
--   Tables, tables ts ps              the task table and the promise table, as lists of words
--   with_tasks s ts, with_promises s ps, with_words s ts ps   the tables s with other words
--   part_of T P s, put_back T P s s'  the first T and P words of the tables s; these words replaced by s'
--   sizes_fit F s                     the lengths of the tables are within their bounds
--   room_of s                         the words of a report that has room for every answer on the tables s
--   in_bounds F n s                   the sizes fit, and a report of n words has room
--   task_at s t, promise_at s p the word of task t, of promise p; 0 past the table's end
--   live w, Live w, waiting w a task with the word w is ready or waits, as a test and as a statement; it waits
--   live_tasks s                      how many tasks are live
--   closed B w                        a promise with the word w is set or blamed
--   blamed_task B s p                 the task that p is blamed on, if it is blamed
--   fresh T P                         fresh tables
-- Assumes nothing.
use Rattle.std.specs.Prelude.{ℕ, ◌-◌, ◌≡◌, List, ◌++◌, Bool, true, ◌&&◌, ◌||◌, eqb, leb, length, get_or, set}
use Rattle.std.specs.Prelude.{replicate, take, drop}
use Rattle.words.specs.Words.{Form, sizes_in_bounds, room_for, ready_word, first_wait, set_word}
use Rattle.words.specs.Lists.{count}

-- "The caller lends a task table of T words, a promise table of P words"
pub record Tables : Type 0 where
  pub tasks : List ℕ
  pub promises : List ℕ

abbrev pub tables : List ℕ → List ℕ → Tables
tables ts ps = record { tasks = ts; promises = ps }

-- the tables s, with other words
abbrev pub with_tasks : Tables → List ℕ → Tables
with_tasks s ts = tables ts s.promises

abbrev pub with_promises : Tables → List ℕ → Tables
with_promises s ps = tables s.tasks ps

abbrev pub with_words : Tables → List ℕ → List ℕ → Tables
with_words s ts ps = tables ts ps

-- "a session uses the first T and first P words" of the lent tables s; and these words replaced by those of s'
abbrev pub part_of : ℕ → ℕ → Tables → Tables
part_of T P s = tables (take T s.tasks) (take P s.promises)

abbrev pub put_back : ℕ → ℕ → Tables → Tables → Tables
put_back T P s s' = tables (s'.tasks ++ drop T s.tasks) (s'.promises ++ drop P s.promises)

-- "a task table of T words (1 to 64), a promise table of P words (0 to 256)"
unfoldable pub sizes_fit : Form → Tables → Bool
sizes_fit F s = sizes_in_bounds F (length s.tasks) (length s.promises)

-- "and a report of at least P + 2T words"
abbrev pub room_of : Tables → ℕ
room_of s = room_for (length s.tasks) (length s.promises)

-- the one test of all lengths
unfoldable pub in_bounds : Form → ℕ → Tables → Bool
in_bounds F n s = sizes_fit F s && leb (room_of s) n

-- "Tasks are numbered 0 to T-1, promises 0 to P-1"
abbrev pub task_at : Tables → ℕ → ℕ
task_at s t = get_or s.tasks t 0

abbrev pub promise_at : Tables → ℕ → ℕ
promise_at s p = get_or s.promises p 0

-- "A task is live when it is ready or waits"
abbrev pub waiting : ℕ → Bool
waiting w = leb first_wait w

abbrev pub live : ℕ → Bool
live w = eqb w ready_word || waiting w

abbrev pub Live : ℕ → Type 0
Live w = live w ≡ true

abbrev pub live_tasks : Tables → ℕ
live_tasks s = count live s.tasks

-- "A promise is closed when it is set or blamed"
abbrev pub closed : ℕ → ℕ → Bool
closed B w = eqb w set_word || leb B w

-- "80+t blamed on t", read back
abbrev pub blamed_task : ℕ → Tables → ℕ → ℕ
blamed_task B s p = promise_at s p - B

-- "Fresh tables: task 0 is ready and every other word is 0"
abbrev pub fresh : ℕ → ℕ → Tables
fresh T P = tables (set (replicate T 0) 0 ready_word) (replicate P 0)
