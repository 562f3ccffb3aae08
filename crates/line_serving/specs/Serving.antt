-- What serving a piece of a block leaves. Paper: 01, "Lines", the program `bench`.
--
--   full_text  what is said at the millionth line
--   Turn       everything that there is after a piece of a block
--   turn_of b from x k n session s rs out
--                         the turn of the block b from `from` on, where the line buffer x has gathered k bytes of a
--                         line, and n lines were answered
--   Serves ..  a call answered and left these
-- Input.antt says the same byte by byte, and Theorems.antt that they agree.
-- Assumes nothing.
use Rattle.std.specs.Prelude.{ℕ, ◌≡◌, List, [], ◌∷◌, Bool, true, false, length, Option, Some, None}
use Rattle.words.specs.Lists.{over}
use Rattle.rules.specs.Tables.{Tables}
use Rattle.text_buffers.specs.Buffers.{fitting}
use Rattle.line_gather.specs.Gather.{gathered_in, got_of, number_after}
use Rattle.line_session.specs.declared.Session.{Session}
use Rattle.line_entry.specs.Lines.{Entry, reply_of}
use Rattle.line_serving.specs.declared.Served.{Served}

-- "it prints `full` and stops": the word and an LF
abbrev pub full_text : List ℕ
full_text = 102 ∷ 117 ∷ 108 ∷ 108 ∷ 10 ∷ []

pub record Turn : Type 0 where
  pub next : ℕ
  pub have : ℕ
  pub lines : ℕ
  pub session : Session
  pub bytes : ℕ
  pub going : Bool
  pub line : List ℕ
  pub after : Tables
  pub report : List ℕ
  pub out : List ℕ

-- line n is answered by e; x is what the line buffer holds
abbrev pub answered_turn : List ℕ → ℕ → ℕ → Entry → Turn
answered_turn x n next e = record {
  next = next;
  have = 0;
  lines = n;
  session = e.session;
  bytes = e.bytes;
  going = true;
  line = x;
  after = e.after;
  report = e.report;
  out = e.out;
}

module _ (b : List ℕ) (from : ℕ) (x : List ℕ) (have lines : ℕ) (session : Session) (s : Tables) (rs out : List ℕ) where
  -- the block ended, and the line goes on in the next one
  abbrev pub went_on : ℕ → Turn
  went_on k = record {
    next = length b;
    have = k;
    lines = lines;
    session = session;
    bytes = 0;
    going = true;
    line = gathered_in x have b from;
    after = s;
    report = rs;
    out = out;
  }

  abbrev pub stopped : Turn
  stopped = record {
    next = length b;
    have = have;
    lines = lines;
    session = session;
    bytes = length (fitting full_text out);
    going = false;
    line = x;
    after = s;
    report = rs;
    out = over (fitting full_text out) out;
  }

  -- what the block brings to line n: k bytes, and where it ends there, the place where the next one starts
  unfoldable pub brought : ℕ → ℕ → Option ℕ → Turn
  brought n k (Some next) =
      answered_turn (gathered_in x have b from) n next (reply_of (gathered_in x have b from) k n session s rs out)
  brought n k None = went_on k

  unfoldable pub numbered : Option ℕ → Turn
  numbered (Some n) = let got = got_of (length x) have b from in brought n got.count got.next
  numbered None = stopped

  unfoldable pub turn_of : Turn
  turn_of = numbered (number_after lines)

pub record Serves (e : Turn) (r : Served) (x : List ℕ) (s' : Tables) (rs out : List ℕ) : Type 0 where
  pub next : r.next ≡ e.next
  pub have : r.have ≡ e.have
  pub lines : r.lines ≡ e.lines
  pub session : r.session ≡ e.session
  pub bytes : r.bytes ≡ e.bytes
  pub going : r.going ≡ e.going
  pub line : x ≡ e.line
  pub after : s' ≡ e.after
  pub report : rs ≡ e.report
  pub answer : out ≡ e.out
