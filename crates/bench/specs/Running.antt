-- The program's run. Paper: 01, "Lines", the program `bench`.
--
--   has_ended g, has_failed g     the input's end has come, in whatever way; a read failed
--   Opens s                       the state before the first line
--   Came k s                      k reads brought the bytes s, each of them some
--   desk_after e s                the desk after the input s; e says that its end came
--   RanTo n took s had has held holds
--                                 the run so far, after n reads; `took` says that the output took all that was handed
--                                 to it; of the bytes `had` that the input had at first it has `has` left, and the
--                                 output held `held` at first and holds `holds`
--   Runs took s had has held holds
--                                 the whole run: where it stops
--   most_reads                    how often the program reads
--   Heard s                       no read failed, and the run came to the end of its input, or to that of what it
--                                 takes
--   Answers had held holds        the output got what is printed for the bytes that the input had
-- A read that fails is the end of the input. `had`, `has`, `held` and `holds` are bytes where the input and the output
-- say which they are; no contract says which bytes the standard streams bring and take. Of a run whose output was
-- closed only the reads are said. Theorems.antt: what was handed to write is what is printed for the input.
-- Assumes nothing.
use Rattle.std.specs.Prelude.{◌≡◌, ℕ, Option, suc, ◌+◌, ◌<◌, Bool, true, false, cond, List, [], ◌++◌, length, ◌⊎◌}
use Rattle.std.specs.Prelude.{replicate, IfSome}
use Rattle.std.specs.Io.KnownBytes.{Appends, Consumes}
use Rattle.words.specs.Words.{longest_line, line_report}
use Rattle.rules.specs.Tables.{tables}
use Rattle.line_session.specs.declared.Session.TheVariants.{Unopened}
use Rattle.line_serving.specs.Input.{Desk, opening, feed, ended, printed, zero_tables}
use Rattle.bench.specs.declared.Reading.{Reading}
use Rattle.bench.specs.declared.Reading.TheVariants.{Open, Ended, Failed}
use Rattle.bench.specs.declared.State.{State}
use Rattle.bench.specs.Carrying.{At}

abbrev pub has_ended : Reading → Bool
has_ended Open = false
has_ended Ended = true
has_ended Failed = true

abbrev pub has_failed : Reading → Bool
has_failed Open = false
has_failed Ended = false
has_failed Failed = true

-- with any line buffer of the right length, with empty tables, and with any output array, where nothing waits
pub record Opens (s : State) : Type 0 where
  pub line : length s.line ≡ longest_line
  pub have : s.have ≡ 0
  pub lines : s.lines ≡ 0
  pub session : s.session ≡ Unopened
  pub after : tables s.tasks s.promises ≡ zero_tables
  pub report : s.report ≡ replicate line_report 0
  pub going : s.going ≡ true
  pub used : s.used ≡ 0
  pub put : s.put ≡ 0
  pub reading : s.reading ≡ Open

pub data Came : ℕ → List ℕ → Type 0 where
  none : Came 0 []
  more : {k : ℕ} {s : List ℕ} → Came k s → (b : List ℕ) → 0 < length b → Came (suc k) (s ++ b)

abbrev pub desk_after : Bool → List ℕ → Desk
desk_after e s = cond e (ended (feed opening s)) (feed opening s)

-- the read that brings nothing is one more; nothing waits in the output array
pub record RanTo (n : ℕ) (took : Bool) (s : State) (had has held holds : Option (List ℕ)) : Type 0 where
  pub input : List ℕ
  pub brought : Consumes had has input
  pub blocks : ℕ
  pub came : Came blocks input
  pub reads : n ≡ blocks + cond (has_ended s.reading) 1 0
  pub nothing_waits : s.used ≡ 0
  pub at : took ≡ true → At (desk_after (has_ended s.reading) input) s held holds

-- as many as a word of 64 bits counts
abbrev pub most_reads : ℕ
most_reads = 18446744073709551615

-- it stops at the input's end, after `full`, where the output is closed, and after so many reads
pub record Runs (took : Bool) (s : State) (had has held holds : Option (List ℕ)) : Type 0 where
  pub reads : ℕ
  pub reached : RanTo reads took s had has held holds
  pub stops : has_ended s.reading ≡ false → s.going ≡ true → took ≡ true → reads ≡ most_reads

abbrev pub Heard : State → Type 0
Heard s = (has_failed s.reading ≡ false) × ((has_ended s.reading ≡ true) ⊎ (s.going ≡ false))

abbrev pub Answers : Option (List ℕ) → Option (List ℕ) → Option (List ℕ) → Type 0
Answers had held holds = IfSome had (λ s. Appends held holds (printed s))
