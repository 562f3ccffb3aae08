-- The board: what is loaded. A row of words is an array and how many of its words, from the front, are the row's.
--
--   tables_on b         the tables on the board b
--   FreshensOn b r b'   the number r and the board b' are those of making the tables on the board b fresh
--   HasLeastReport b b' the board b' is b with the least report for its tables, and no story
-- Assumes nothing.
use Rattle.std.specs.Prelude.{ℕ, ◌≡◌, false, ◌++◌, take, drop}
use Rattle.words.specs.Words.{small, room_for}
use Rattle.rules.specs.Tables.{Tables, tables}
use Rattle.rules.specs.Refusals.{fresh_refusal}
use Rattle.rules.specs.StepContracts.{freshened}
use Rattle.edges.specs.declared.load.Board.{Board}

abbrev pub tables_on : Board → Tables
tables_on b = tables (take b.tasks.length b.tasks.words) (take b.promises.length b.promises.words)

-- the fresh words stand in place of the old ones; the arrays' other words, the report and the story stay
pub record FreshensOn (b : Board) (r : ℕ) (b' : Board) : Type 0 where
  pub number : r ≡ fresh_refusal small b.tasks.length b.promises.length
  pub tasks : b'.tasks.words ≡ (freshened small (tables_on b)).tasks ++ drop b.tasks.length b.tasks.words
  pub promises : b'.promises.words ≡ (freshened small (tables_on b)).promises ++ drop b.promises.length b.promises.words
  pub task_count : b'.tasks.length ≡ b.tasks.length
  pub promise_count : b'.promises.length ≡ b.promises.length
  pub report : b'.report ≡ b.report
  pub story : b'.story ≡ b.story

pub record HasLeastReport (b b' : Board) : Type 0 where
  pub tasks : b'.tasks ≡ b.tasks
  pub promises : b'.promises ≡ b.promises
  pub words : b'.report.words ≡ b.report.words
  pub room : b'.report.length ≡ room_for b.tasks.length b.promises.length
  pub story : b'.story ≡ false
