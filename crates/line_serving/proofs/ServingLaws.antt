-- Laws of specs/Serving.antt: the ways through a turn. Assumes nothing.
use Prim.Native.Nat.{ℕ, ◌+◌, ◌≤◌, ◌<◌}
use mathlib.Core.Path.{◌≡◌, refl, sym, subst, ◌∙◌}
use mathlib.Core.List.{List}
use mathlib.Core.Bool.{Bool, true, false, cond}
use native.Mathlib.Omega.{arith}
use borrow.Author.Tests.{ltb-true}
use lib.Dec.{ltb}
use lib.ListN.{length}
use Rattle.text_buffers.proofs.BufferLaws.{fitting_most}
use Rattle.text_fields.specs.Fields.{line_end, end_from}
use Rattle.text_fields.proofs.FieldLaws.{end_from_from}
use Rattle.line_gather.specs.Gather.{piece_of, counted, gathered_in, got_of, Gathered, number_after}
use Rattle.line_gather.specs.declared.Got.{Got}
use Rattle.std.proofs.Common.{Option, Some, None, Result}
use Rattle.line_session.specs.declared.Session.{Session}
use Rattle.line_entry.specs.declared.Entered.{Entered}
use Rattle.rules.specs.declared.Refusal.{Refusal}
use Rattle.rules.specs.Tables.{Tables}
use Rattle.line_entry.specs.Lines.{Entry, Enters, held_line, reply_of}
use Rattle.line_entry.proofs.LineLaws.{entry_within}
use Rattle.line_serving.specs.declared.Served.{Served}
use Rattle.line_serving.specs.Serving.{full_text, answered_turn, went_on, stopped, brought, numbered, turn_of, Serves}

-- what was entered is what was answered
pub serves_entered : (x : List ℕ) (n next : ℕ) {e : Entry} {r : Result Entered Refusal} {q : Served} {st : Tables}
    {rs out : List ℕ}
    → Enters e r st rs out → q.next ≡ next → q.have ≡ 0 → q.lines ≡ n → q.session ≡ e.session
    → q.bytes ≡ e.bytes → q.going ≡ true → Serves (answered_turn x n next e) q x st rs out
serves_entered x n next e a b c d f g = record {
  next = a;
  have = b;
  lines = c;
  session = d;
  bytes = f;
  going = g;
  line = refl;
  after = e.after;
  report = e.report;
  answer = e.answer;
}

module _ (b : List ℕ) (from : ℕ) (x : List ℕ) (have lines : ℕ) (session : Session) (st : Tables) (rs out : List ℕ) where
  pub turn_full : number_after lines ≡ None
      → turn_of b from x have lines session st rs out ≡ stopped b from x have lines session st rs out
  unfolding turn_of numbered
  turn_full e = rw e

  -- each turn goes on in the block, and stays within it
  turn_on : from < length b → let r = (turn_of b from x have lines session st rs out).next in
      (from < r) × (r ≤ length b)
  unfolding turn_of numbered brought got_of
  turn_on h = go (number_after lines)
    where
      E : ℕ
      E = end_from line_end b from

      ends : (n k : ℕ) (t : Bool) → ltb E (length b) ≡ t
          → let r = (brought b from x have lines session st rs out n k (cond t (Some (E + 1)) None)).next in
          (from < r) × (r ≤ length b)
      ends n k true e = (omega (arith, end_from_from line_end b from), omega (arith, ltb-true E (length b) e))
      ends n k false e = (h, omega arith)

      go : (m : Option ℕ) → let r = (numbered b from x have lines session st rs out m).next in
          (from < r) × (r ≤ length b)
      go (Some n) = ends n (counted (length x) (have + length (piece_of b from))) (ltb E (length b)) refl
      go None = (h, omega arith)

  -- what a turn writes fits into what was lent for it
  turn_within : (turn_of b from x have lines session st rs out).bytes ≤ length out
  unfolding turn_of numbered brought
  turn_within = go (number_after lines)
    where
      brings : (n k : ℕ) (next : Option ℕ)
          → (brought b from x have lines session st rs out n k next).bytes ≤ length out
      brings n k (Some next) = entry_within (held_line (gathered_in x have b from) k) n session st rs out
      brings n k None = omega arith

      go : (m : Option ℕ) → (numbered b from x have lines session st rs out m).bytes ≤ length out
      go (Some n) = let got = got_of (length x) have b from in brings n got.count got.next
      go None = fitting_most full_text out

  module _ {q : Served} {y : List ℕ} {st' : Tables} {rs' out' : List ℕ}
      (s : Serves (turn_of b from x have lines session st rs out) q y st' rs' out') where
    pub served_on : from < length b → (from < q.next) × (q.next ≤ length b)
    served_on h = let (l, k) = turn_on h in (rw s.next l, rw s.next k)

    pub served_within : q.bytes ≤ length out
    served_within = rw s.bytes turn_within

  module _ (n : ℕ) (e : number_after lines ≡ Some n) where
    pub turn_more : (k : ℕ) → got_of (length x) have b from ≡ record { count = k; next = None }
        → turn_of b from x have lines session st rs out ≡ went_on b from x have lines session st rs out k
    unfolding turn_of numbered brought
    turn_more k g = rw (e, g)

    pub turn_line : (k next : ℕ) → got_of (length x) have b from ≡ record { count = k; next = Some next }
        → let y = gathered_in x have b from in
        turn_of b from x have lines session st rs out ≡ answered_turn y n next (reply_of y k n session st rs out)
    unfolding turn_of numbered brought
    turn_line k next g = rw (e, g)

    module _ {y : List ℕ} {got : Got} (g : Gathered x have b from y got) where
      brings : {o : Option ℕ} → got.next ≡ o → got_of (length x) have b from ≡ record { count = got.count; next = o }
      brings {o} h = sym g.answer ∙ rw h

      pub turn_gathered : got.next ≡ None
          → turn_of b from x have lines session st rs out ≡ went_on b from x have lines session st rs out got.count
      turn_gathered h = turn_more got.count (brings h)

      pub serves_line : {next : ℕ} {q : Served} {st' : Tables} {rs' out' : List ℕ} → got.next ≡ Some next
          → Serves (answered_turn y n next (reply_of y got.count n session st rs out)) q y st' rs' out'
          → Serves (turn_of b from x have lines session st rs out) q y st' rs' out'
      serves_line {next} {q} {st'} {rs'} {out'} h s =
          rw (turn_line got.count next (brings h))
          (subst
          (λ (z : List ℕ). Serves (answered_turn z n next (reply_of z got.count n session st rs out)) q y st' rs' out')
          g.bytes s)
