-- Who waits for whom, and the chain of a waiting task. Paper: 01, "Tables and words".
--
--   View, view_of ts ps, view s   the word of each task and of each promise: all that chains read
--   awaited_by s t, owner_of s p  the promise that t awaits; the task that owns p
--   WaitsFor T s v p u            v waits on p, which u owns
--   Graph, waits T s              ready tasks, and who waits for whom
--   Chain g t l                   l is the chain of t: its links, to a ready task
--   chain_end t l                 the task at the end of the chain l of t
--   Comes g t                     the chain of t comes to a ready task
-- Assumes nothing.
use Rattle.std.specs.Prelude.{◌≡◌, List, [], ◌∷◌, ℕ, ◌-◌, ◌<◌, length, get_or}
use Rattle.words.specs.Words.{ready_word, first_wait, waits_on, first_owned, owned_by}
use Rattle.rules.specs.Tables.{Tables}

pub record View : Type 0 where
  pub task : ℕ → ℕ
  pub promise : ℕ → ℕ

-- of the words ts and ps
abbrev pub view_of : List ℕ → List ℕ → View
view_of ts ps = record { task = λ t. get_or ts t 0; promise = λ p. get_or ps p 0 }

abbrev pub view : Tables → View
view s = view_of s.tasks s.promises

-- "16+p waits on p", "16+t owned by t", read back: the promise that t awaits, if it waits, and the task that owns p, if
-- it is owned
abbrev pub awaited_by : View → ℕ → ℕ
awaited_by s t = s.task t - first_wait

abbrev pub owner_of : View → ℕ → ℕ
owner_of s p = s.promise p - first_owned

pub record WaitsFor (T : ℕ) (s : View) (v p u : ℕ) : Type 0 where
  pub waits : s.task v ≡ waits_on p
  pub owned : s.promise p ≡ owned_by u
  pub below : u < T

-- `ready t`: t is ready. `link v p u`: v waits on p, and u stands behind p.
pub record Graph : Type 1 where
  pub ready : ℕ → Type 0
  pub link : ℕ → ℕ → ℕ → Type 0

abbrev pub graph : ℕ → View → Graph
graph T s = record { ready = λ t. s.task t ≡ ready_word; link = WaitsFor T s }

abbrev pub waits : Tables → Graph
waits s = graph (length s.tasks) (view s)

-- "The chain of a waiting task: the owner of what it awaits, then the owner of what that one awaits, and so on. Its
-- links are the owners on it." The chain of a ready task has no link.
pub data Chain (g : Graph) : ℕ → List ℕ → Type 0 where
  here : {t : ℕ} → g.ready t → Chain g t []
  link : {t p u : ℕ} {l : List ℕ} → g.link t p u → Chain g u l → Chain g t (u ∷ l)

abbrev pub chain_end : ℕ → List ℕ → ℕ
chain_end t [] = t
chain_end t (u ∷ l) = chain_end u l

-- "every waiting task's chain comes to a ready task"
abbrev pub Comes : Graph → ℕ → Type 0
Comes g t = (l : List ℕ) × Chain g t l
