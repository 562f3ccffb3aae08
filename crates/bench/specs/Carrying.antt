-- What the program carries from one piece of its input to the next.
--
--   SameLine s r                  the state r has the line so far, the count of lines, the session value, the tables,
--                                 the report and the flag `going` of s
--   wrapped n                     a count of n bytes, in a word of 64 bits
--   PutOut s r                    the state r is s, and what waited in the output array was handed to write
--   Waiting said s held holds     the bytes that wait in the output array are the last ones of what was said, and all
--                                 before them were handed to write; the output, which held the bytes `held` at first,
--                                 took these and now holds `holds`
--   At d s held holds             the program with the state s and this output is where the desk d is
--   Fed d b from next r held holds
--                                 from where the desk d is, the bytes of the block b from `from` on up to `next` were
--                                 taken, and that led to the state r
-- The desk is the one of line_serving's Input.antt, which takes the input byte by byte. `held` and `holds` are bytes
-- where the output says which it holds, and nothing is said of one that does not.
-- Assumes nothing.
use Rattle.std.specs.Prelude.{◌≡◌, ℕ, Option, ◌+◌, ◌%◌, ◌^◌, List, ◌++◌, length, take, drop}
use Rattle.std.specs.Io.KnownBytes.{Appends}
use Rattle.rules.specs.Tables.{tables}
use Rattle.line_serving.specs.Input.{Desk, feed, Buffered}
use Rattle.bench.specs.declared.State.{State}

abbrev pub SameLine : State → State → Type 0
SameLine s r =
    (r.line ≡ s.line) × (r.have ≡ s.have) × (r.lines ≡ s.lines) × (r.session ≡ s.session) × (r.tasks ≡ s.tasks)
    × (r.promises ≡ s.promises) × (r.report ≡ s.report) × (r.going ≡ s.going)

-- the bytes that were handed to write are counted in a word of 64 bits
abbrev pub wrapped : ℕ → ℕ
wrapped n = n % 2 ^ 64

-- the output may have been found closed
abbrev pub PutOut : State → State → Type 0
PutOut s r = SameLine s r × (r.used ≡ 0) × (r.put ≡ wrapped (s.put + s.used))

pub record Waiting (said : List ℕ) (s : State) (held holds : Option (List ℕ)) : Type 0 where
  pub gone : List ℕ
  pub rest : said ≡ gone ++ take s.used s.out
  pub count : s.put ≡ wrapped (length gone)
  pub taken : Appends held holds gone

pub record At (d : Desk) (s : State) (held holds : Option (List ℕ)) : Type 0 where
  pub buffer : Buffered d s.line s.have
  pub lines : d.lines ≡ s.lines
  pub session : d.session ≡ s.session
  pub after : d.after ≡ tables s.tasks s.promises
  pub report : d.report ≡ s.report
  pub going : d.going ≡ s.going
  pub waits : Waiting d.said s held holds

-- what is left of the block is still to be taken from where the desk is now
pub record Fed (d : Desk) (b : List ℕ) (from next : ℕ) (r : State) (held holds : Option (List ℕ)) : Type 0 where
  pub desk : Desk
  pub bytes : feed d (drop from b) ≡ feed desk (drop next b)
  pub at : At desk r held holds
