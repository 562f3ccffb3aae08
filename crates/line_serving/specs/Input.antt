-- The input byte by byte, and what is printed for it. Paper: 01, "Lines": "The program `bench` reads standard input
-- with a line buffer of 2,048 bytes, passes over the rest of a longer line (one refusal 14), takes a last line without
-- LF if it isn't empty, and prints one answer line each. At the millionth line it prints `full` and stops".
--
--   Desk                  what there is between two bytes of the input
--   opening               before the first
--   fed d b               after the byte b
--   feed d s              after the bytes s
--   ended d               after the input's end
--   printed s             what is printed for the input s
--   Buffered d x k        the line buffer x holds the line that has begun, of which k bytes are counted
--   Advances d b at t d'  the turn t takes the desk d to d'
-- A desk has no line buffer: a line is gathered whole there, however long it is.
-- Assumes nothing.
use Rattle.std.specs.Prelude.{ℕ, ◌≡◌, List, [], ◌∷◌, ◌++◌, Bool, true, false, cond, eqb}
use Rattle.std.specs.Prelude.{length, take, drop, replicate, Option, Some, None}
use Rattle.words.specs.Words.{longest_line, longest_answer, of_lines, line_report}
use Rattle.rules.specs.Tables.{Tables, tables}
use Rattle.text_fields.specs.Fields.{line_end}
use Rattle.line_gather.specs.Gather.{is_last, number_after, Holds}
use Rattle.line_session.specs.declared.Session.{Session}
use Rattle.line_session.specs.declared.Session.TheVariants.{Unopened}
use Rattle.line_entry.specs.Lines.{Entry, entry_of}
use Rattle.line_serving.specs.Serving.{full_text, Turn}

-- how many lines were answered, the session value, the tables and the report, the bytes of the line that has begun,
-- whether more lines are taken, and what was printed
pub record Desk : Type 0 where
  pub lines : ℕ
  pub session : Session
  pub after : Tables
  pub report : List ℕ
  pub begun : List ℕ
  pub going : Bool
  pub said : List ℕ

-- the tables that the program lends hold no word before the first line
abbrev pub zero_tables : Tables
zero_tables = tables (replicate of_lines.most_tasks 0) (replicate of_lines.most_promises 0)

abbrev pub opening : Desk
opening = record {
  lines = 0;
  session = Unopened;
  after = zero_tables;
  report = replicate line_report 0;
  begun = [];
  going = true;
  said = [];
}

-- the line that has begun has these bytes more
abbrev pub begun_with : Desk → List ℕ → Desk
begun_with d s = record {
  lines = d.lines;
  session = d.session;
  after = d.after;
  report = d.report;
  begun = d.begun ++ s;
  going = d.going;
  said = d.said;
}

-- line n is the one that has begun: what the line entry makes of it, with the shortest answer line that may be lent
abbrev pub entry_at : Desk → ℕ → Entry
entry_at d n = entry_of d.begun n d.session d.after d.report (replicate longest_answer 0)

-- "prints one answer line each"
abbrev pub answered : Desk → ℕ → Desk
answered d n = record {
  lines = n;
  session = (entry_at d n).session;
  after = (entry_at d n).after;
  report = (entry_at d n).report;
  begun = [];
  going = true;
  said = d.said ++ take (entry_at d n).bytes (entry_at d n).out;
}

-- "At the millionth line it prints `full` and stops"
abbrev pub full : Desk → Desk
full d = record {
  lines = d.lines;
  session = d.session;
  after = d.after;
  report = d.report;
  begun = d.begun;
  going = false;
  said = d.said ++ full_text;
}

unfoldable pub fed_in : Desk → ℕ → Option ℕ → Desk
fed_in d b (Some n) = cond (eqb b line_end) (answered d n) (begun_with d (b ∷ []))
fed_in d b None = full d

unfoldable pub fed : Desk → ℕ → Desk
fed d b = cond d.going (fed_in d b (number_after d.lines)) d

unfoldable pub feed : Desk → List ℕ → Desk
feed d [] = d
feed d (b ∷ s) = feed (fed d b) s

-- "takes a last line without LF if it isn't empty"
unfoldable pub ended : Desk → Desk
ended d = cond (is_last (length d.begun)) (fed d line_end) d

unfoldable pub printed : List ℕ → List ℕ
printed s = (ended (feed opening s)).said

-- the line buffer x holds the line that has begun, of which so many bytes are counted; it held `first` when the line
-- began
pub record Buffered (d : Desk) (x : List ℕ) (have : ℕ) : Type 0 where
  pub first : List ℕ
  pub room : length first ≡ longest_line
  pub held : Holds d.begun first x have

-- the turn t takes the bytes of the block b from `from` on up to its own end, prints what it wrote, and leaves the
-- desk d'
pub record Advances (d : Desk) (b : List ℕ) (from : ℕ) (t : Turn) (d' : Desk) : Type 0 where
  pub bytes : feed d (drop from b) ≡ feed d' (drop t.next b)
  pub said : d'.said ≡ d.said ++ take t.bytes t.out
  pub buffer : Buffered d' t.line t.have
  pub lines : d'.lines ≡ t.lines
  pub session : d'.session ≡ t.session
  pub after : d'.after ≡ t.after
  pub report : d'.report ≡ t.report
  pub going : d'.going ≡ t.going
