-- What a mark says: the chain of a task that has one comes to a ready task. A walk from v marks with v + 1, and a mark
-- of 0 is none. Paper: 02, request 8, "Mark each task once its chain is known to end well".
--
--   chain_passes s v          v does not wait, or its chain comes to a ready task
--   Marked s ms               whoever is marked in ms has a chain that comes to a ready task
--   MarksFor s ms             ms are such marks, with a word for each task, and no number of a task is too large for
--                             one
--   Leads s low high v        a hop from v leads to a live task with a number from low on and below high
--   LeadsWithin s low high v  the same, if v waits
-- Assumes nothing.
use Rattle.std.specs.Prelude.{ℕ, ◌≤◌, ◌<◌, ◌≡◌, ◌≢◌, List, Bool, true, not, ◌||◌, length, get_or}
use Rattle.words.specs.Words.{first_wait}
use Rattle.rules.specs.Tables.{Tables, task_at, Live, waiting}
use Rattle.rules.specs.Chains.{view}
use Rattle.rules.specs.Sound.{to, hop, comes_in_time}

unfoldable pub chain_passes : Tables → ℕ → Bool
chain_passes s v = not (waiting (task_at s v)) || comes_in_time s v

abbrev pub Marked : Tables → List ℕ → Type 0
Marked s ms = (u : ℕ) → get_or ms u 0 ≢ 0 → comes_in_time s u ≡ true

pub record MarksFor (s : Tables) (ms : List ℕ) : Type 0 where
  pub room : length s.tasks ≤ length ms
  pub fits : length s.tasks < 65536
  pub marked : Marked s ms

pub record Leads (s : Tables) (low high v : ℕ) : Type 0 where
  pub owner : ℕ
  pub hops : hop (length s.tasks) (view s) v ≡ to owner
  pub alive : Live (task_at s owner)
  pub least : low ≤ owner
  pub most : owner < high

abbrev pub LeadsWithin : Tables → ℕ → ℕ → ℕ → Type 0
LeadsWithin s low high v = first_wait ≤ task_at s v → Leads s low high v
