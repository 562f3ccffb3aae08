-- What is promised of an input that comes in blocks: the pieces that `serve` takes come to the same as the bytes one by
-- one, wherever the blocks begin and end; a line that was gathered is answered as the line entry answers the whole
-- line, however long it is; what is printed has a bound. Any two outcomes of a function coincide.
-- Assumes nothing.
use Prim.Native.Nat.{ℕ, zero, suc, ◌+◌, ◌*◌, ◌≤◌, ◌<◌}
use mathlib.Core.Path.{◌≡◌, refl, ap, sym, subst, ◌∙◌}
use mathlib.Core.List.{List, [], ◌∷◌, ◌++◌, append_assoc, append-nil}
use mathlib.Core.Bool.{Bool, true, false, cond}
use native.Mathlib.Omega.{arith}
use native.Mathlib.Decide.{dec_lt}
use borrow.Author.Tests.{ne_eqb, ltb-true, lt-ltb, le-ltb, le-leb}
use lib.Dec.{eqb, ltb}
use lib.ListN.{length, get_or, take, drop, replicate, length-replicate, length-append, length-take, length-drop}
use lib.ListN.{drop_of_length-le}
use lib.Seq.{take_all, take-append_seam, drop-drop, drop-cons}
use Rattle.words.specs.Words.{longest_line, longest_answer, last_line}
use Rattle.words.proofs.BoolLaws.{clash}
use Rattle.words.specs.Lists.{over}
use Rattle.text_buffers.specs.Buffers.{fitting}
use Rattle.text_buffers.proofs.BufferLaws.{over_is, fitting_room}
use Rattle.text_fields.specs.Fields.{line_end, run_to, end_from}
use Rattle.answer_text.specs.AnswerText.{answer_text}
use Rattle.line_gather.specs.Gather.{piece_of, counted, gathered_in, got_of, Holds, is_last, number_after}
use Rattle.std.proofs.Common.{Option, Some, None}
use Rattle.line_gather.proofs.Theorems.{holds_length, holds_none, holds_piece, holds_whole, holds_long}
use Rattle.line_session.specs.declared.Session.{Session}
use Rattle.line_session.specs.Sessions.{Deed}
use Rattle.rules.specs.Tables.{Tables}
use Rattle.line_entry.specs.Lines.{lent_well, line_deed, entered, not_entered, Entry, entry_of, held_line, reply_of}
use Rattle.line_entry.proofs.LineLaws.{entry_within, held_line_within, held_line_long, long_lines_alike}
use Rattle.line_serving.specs.declared.Served.{Served}
use Rattle.line_serving.specs.Serving.{Serves, full_text, Turn, answered_turn, went_on, stopped, turn_of}
use Rattle.line_serving.specs.Input.{Desk, opening, begun_with, entry_at, answered, full, fed_in, fed, feed}
use Rattle.line_serving.specs.Input.{ended, Buffered, Advances}
use Rattle.line_serving.proofs.ServingLaws.{turn_full, turn_more, turn_line}

-- ---- a line that was gathered

-- A GATHERED LINE IS ANSWERED AS THE WHOLE LINE IS, however long it is: o is what the buffer held at first
pub held_is_entered : (t o x : List ℕ) (k : ℕ) → length o ≡ longest_line → length x ≡ longest_line → Holds t o x k
    → (n : ℕ) (session : Session) (st : Tables) (rs out : List ℕ)
    → reply_of x k n session st rs out ≡ entry_of t n session st rs out
held_is_entered t o x k e f h n session st rs out = go (dec_lt (length o) k)
  where
    go : Dec (length o < k) → reply_of x k n session st rs out ≡ entry_of t n session st rs out
    go (no l) =
        let w = holds_whole t o x k h (omega arith) in
        ap (λ (s : List ℕ). entry_of s n session st rs out) (held_line_within x k (omega (arith, e, f)) ∙ w.1)
    go (yes l) =
        long_lines_alike (held_line x k) t (held_line_long x k (omega (arith, e, f)))
        (omega (arith, e, holds_long t o x k h l)) n session st rs out

-- the answer does not depend on the room for it, where there is enough
record Alike (e f : Entry) : Type 0 where
  session : e.session ≡ f.session
  after : e.after ≡ f.after
  report : e.report ≡ f.report
  text : take e.bytes e.out ≡ take f.bytes f.out

lent_alike : (n : ℕ) (session : Session) (st : Tables) (r a b : ℕ) → longest_answer ≤ a → longest_answer ≤ b
    → lent_well n session st r a ≡ lent_well n session st r b
unfolding lent_well
lent_alike n session st r a b h k = rw (le-leb longest_answer a h, le-leb longest_answer b k)

module _ (line : List ℕ) (n : ℕ) (session : Session) (st : Tables) (rs out out₂ : List ℕ) where
  entries_alike : longest_answer ≤ length out → longest_answer ≤ length out₂
      → Alike (entry_of line n session st rs out) (entry_of line n session st rs out₂)
  unfolding entry_of
  entries_alike h k =
      rw (lent_alike n session st (length rs) (length out) (length out₂) h k)
      (go (lent_well n session st (length rs) (length out₂)))
    where
      d : Deed
      d = line_deed line session st (length rs)

      text : (t x y : List ℕ) → take (length t) (over t x) ≡ take (length t) (over t y)
      text t x y =
          rw (over_is t x, over_is t y)
          (take-append_seam t (drop (length t) x) ∙ sym (take-append_seam t (drop (length t) y)))

      entry : Bool → List ℕ → Entry
      entry b o = cond b (entered n rs o d) (not_entered session st rs o)

      go : (b : Bool) → Alike (entry b out) (entry b out₂)
      go true = record {
        session = refl;
        after = refl;
        report = refl;
        text = text (answer_text n d.answer (over d.words rs)) out out₂;
      }
      go false = record { session = refl; after = refl; report = refl; text = refl }

-- ---- one by one

-- AN INPUT THAT COMES IN PIECES COMES TO THE SAME
pub in_pieces : (d : Desk) (s t : List ℕ) → feed d (s ++ t) ≡ feed (feed d s) t
unfolding feed
in_pieces d [] t = refl
in_pieces d (b ∷ s) t = in_pieces (fed d b) s t

feed_first : (d : Desk) (b : ℕ) (s : List ℕ) → feed d (b ∷ s) ≡ feed (fed d b) s
unfolding feed
feed_first d b s = refl

pub feed_none : (d : Desk) → feed d [] ≡ d
unfolding feed
feed_none d = refl

-- where no more lines are taken, nothing happens
pub fed_stopped : (d : Desk) (s : List ℕ) → d.going ≡ false → feed d s ≡ d
unfolding feed fed
fed_stopped d [] e = refl
fed_stopped d (b ∷ s) e = ap (λ (f : Desk). feed f s) (rw e) ∙ fed_stopped d s e

-- the line that has begun is s
abbrev begun_as : Desk → List ℕ → Desk
begun_as d s = record {
  lines = d.lines;
  session = d.session;
  after = d.after;
  report = d.report;
  begun = s;
  going = d.going;
  said = d.said;
}

begun_none : (d : Desk) → begun_with d [] ≡ d
begun_none d = ap (begun_as d) (append-nil d.begun)

begun_more : (d : Desk) (s t : List ℕ) → begun_with (begun_with d s) t ≡ begun_with d (s ++ t)
begun_more d s t = ap (begun_as d) (append_assoc d.begun s t)

fed_full : (d : Desk) (b : ℕ) → d.going ≡ true → number_after d.lines ≡ None → fed d b ≡ full d
unfolding fed fed_in
fed_full d b g e = rw (g, e)

module _ (n : ℕ) where
  fed_byte : (d : Desk) (b : ℕ) → d.going ≡ true → number_after d.lines ≡ Some n → eqb b line_end ≡ false
      → fed d b ≡ begun_with d (b ∷ [])
  unfolding fed fed_in
  fed_byte d b g e f = rw (g, e, f)

  fed_end : (d : Desk) (b : ℕ) → d.going ≡ true → number_after d.lines ≡ Some n → eqb b line_end ≡ true
      → fed d b ≡ answered d n
  unfolding fed fed_in
  fed_end d b g e f = rw (g, e, f)

  -- the first k bytes of u end the line, which is answered
  abbrev Answers : Desk → List ℕ → ℕ → Type 0
  Answers d u k = feed d u ≡ feed (answered (begun_with d (take k u)) n) (drop (suc k) u)

  -- a line that ends is answered
  line_fed : (u : List ℕ) (d : Desk) → d.going ≡ true → number_after d.lines ≡ Some n
      → run_to line_end u < length u → Answers d u (run_to line_end u)
  unfolding feed run_to
  line_fed [] d g e h = absurd (omega arith)
  line_fed (b ∷ u) d g e h = go (eqb b line_end) refl h (line_fed u (begun_with d (b ∷ [])) g e)
    where
      r : ℕ
      r = run_to line_end u

      go : (t : Bool) → eqb b line_end ≡ t → cond t 0 (suc r) < suc (length u)
          → (r < length u → Answers (begun_with d (b ∷ [])) u r) → Answers d (b ∷ u) (cond t 0 (suc r))
      go true f k again =
          ap (λ (x : Desk). feed x u) (fed_end d b g e f ∙ ap (λ (x : Desk). answered x n) (sym (begun_none d)))
      go false f k again =
          ap (λ (x : Desk). feed x u) (fed_byte d b g e f) ∙ again (omega arith)
          ∙ ap (λ (x : Desk). feed (answered x n) (drop (suc r) u)) (begun_more d (b ∷ []) (take r u))

  -- one that does not goes on
  more_fed : (u : List ℕ) (d : Desk) → d.going ≡ true → number_after d.lines ≡ Some n
      → length u ≤ run_to line_end u → feed d u ≡ begun_with d u
  unfolding feed run_to
  more_fed [] d g e h = sym (begun_none d)
  more_fed (b ∷ u) d g e h = go (eqb b line_end) refl h (more_fed u (begun_with d (b ∷ [])) g e)
    where
      go : (t : Bool) → eqb b line_end ≡ t → suc (length u) ≤ cond t 0 (suc (run_to line_end u))
          → (length u ≤ run_to line_end u → feed (begun_with d (b ∷ [])) u ≡ begun_with (begun_with d (b ∷ [])) u)
          → feed d (b ∷ u) ≡ begun_with d (b ∷ u)
      go true f k again = absurd (omega arith)
      go false f k again =
          ap (λ (x : Desk). feed x u) (fed_byte d b g e f) ∙ again (omega arith) ∙ begun_more d (b ∷ []) u

-- ---- turn by turn

got_more : (L have : ℕ) (b : List ℕ) (from : ℕ) → length b ≤ end_from line_end b from
    → got_of L have b from ≡ record { count = counted L (have + length (piece_of b from)); next = None }
unfolding got_of
got_more L have b from l = rw (le-ltb (end_from line_end b from) (length b) l)

got_line : (L have : ℕ) (b : List ℕ) (from : ℕ) → end_from line_end b from < length b
    → got_of L have b from
    ≡ record { count = counted L (have + length (piece_of b from)); next = Some (end_from line_end b from + 1) }
unfolding got_of
got_line L have b from l = rw (lt-ltb (end_from line_end b from) (length b) l)

module _ (d : Desk) (b : List ℕ) (from : ℕ) (x : List ℕ) (have : ℕ) (out : List ℕ) where
  abbrev T : Turn
  T = turn_of b from x have d.lines d.session d.after d.report out

  module _ (r : longest_answer ≤ length out) (h : from < length b) (g : d.going ≡ true) (w : Buffered d x have) where
    takes_full : number_after d.lines ≡ None → Advances d b from T (full d)
    takes_full e = subst (λ (t : Turn). Advances d b from t (full d)) (sym turn) (record {
      bytes = bytes;
      said = ap (λ (t : List ℕ). d.said ++ t) (sym text);
      buffer = record { first = w.first; room = w.room; held = w.held };
      lines = refl;
      session = refl;
      after = refl;
      report = refl;
      going = refl;
    })
      where
        turn : T ≡ stopped b from x have d.lines d.session d.after d.report out
        turn = turn_full b from x have d.lines d.session d.after d.report out e

        f : fitting full_text out ≡ full_text
        f = fitting_room full_text out (omega arith)

        text : take (length (fitting full_text out)) (over (fitting full_text out) out) ≡ full_text
        text = rw (f, over_is full_text out) (take-append_seam full_text (drop 5 out))

        first : feed d (drop from b) ≡ full d
        first =
            ap (λ (s : List ℕ). feed d s) (drop-cons b from 0 h) ∙ feed_first d (get_or b from 0) (drop (suc from) b)
            ∙ ap (λ (y : Desk). feed y (drop (suc from) b)) (fed_full d (get_or b from 0) g e)
            ∙ fed_stopped (full d) (drop (suc from) b) refl

        bytes : feed d (drop from b) ≡ feed (full d) (drop (length b) b)
        bytes = first ∙ sym (fed_stopped (full d) (drop (length b) b) refl)

    module _ (n : ℕ) (e : number_after d.lines ≡ Some n) where
      -- what the buffer holds then, and how many bytes of the line are counted
      abbrev held : List ℕ
      held = gathered_in x have b from

      abbrev count : ℕ
      count = counted (length x) (have + length (piece_of b from))

      -- the buffer holds the line so far
      held_on : Holds (d.begun ++ piece_of b from) w.first held count
      held_on =
          holds_piece d.begun w.first x held b have from w.held (got_of (length x) have b from)
          (record { answer = refl; bytes = refl })

      takes_more : length b ≤ end_from line_end b from → Advances d b from T (begun_with d (piece_of b from))
      unfolding end_from piece_of
      takes_more l = subst (λ (t : Turn). Advances d b from t (begun_with d (piece_of b from))) (sym turn) (record {
        bytes =
            more_fed n (drop from b) d g e all ∙ ap (λ (s : List ℕ). begun_with d s) (sym whole)
            ∙ sym (feed_none (begun_with d (piece_of b from)))
            ∙ ap (λ (s : List ℕ). feed (begun_with d (piece_of b from)) s) (sym past);
        said = sym (append-nil d.said);
        buffer = record { first = w.first; room = w.room; held = held_on };
        lines = refl;
        session = refl;
        after = refl;
        report = refl;
        going = g;
      })
        where
          turn : T ≡ went_on b from x have d.lines d.session d.after d.report out count
          turn =
              turn_more b from x have d.lines d.session d.after d.report out n e count
              (got_more (length x) have b from l)

          all : length (drop from b) ≤ run_to line_end (drop from b)
          all = omega (arith, l, length-drop from b)

          past : drop (length b) b ≡ []
          past = let z : length b ≤ length b = omega arith in drop_of_length-le b z

          whole : piece_of b from ≡ drop from b
          whole = take_all (run_to line_end (drop from b)) (drop from b) all

      takes_line : end_from line_end b from < length b
          → Advances d b from T (answered (begun_with d (piece_of b from)) n)
      unfolding end_from piece_of
      takes_line l =
          subst (λ (t : Turn). Advances d b from t (answered (begun_with d (piece_of b from)) n))
          (sym turn)
          (rw reply (record {
            bytes =
                line_fed n (drop from b) d g e (omega (arith, l, length-drop from b))
                ∙ ap (λ (s : List ℕ). feed (answered (begun_with d (piece_of b from)) n) s) rest;
            said = ap (λ (s : List ℕ). d.said ++ s) alike.text;
            buffer = record { first = held; room = holds_length held_on ∙ w.room; held = holds_none held };
            lines = refl;
            session = alike.session;
            after = alike.after;
            report = alike.report;
            going = refl;
          }))
        where
          replied : Entry
          replied = reply_of held count n d.session d.after d.report out

          whole : Entry
          whole = entry_of (d.begun ++ piece_of b from) n d.session d.after d.report out

          turn : T ≡ answered_turn held n (end_from line_end b from + 1) replied
          turn =
              turn_line b from x have d.lines d.session d.after d.report out n e count
              (end_from line_end b from + 1) (got_line (length x) have b from l)

          reply : replied ≡ whole
          reply =
              held_is_entered (d.begun ++ piece_of b from) w.first held count w.room
              (holds_length held_on ∙ w.room) held_on n d.session d.after d.report out

          alike : Alike (entry_at (begun_with d (piece_of b from)) n) whole
          alike =
              entries_alike (d.begun ++ piece_of b from) n d.session d.after d.report
              (replicate longest_answer 0) out (omega (arith, length-replicate {A = ℕ} longest_answer 0)) r

          rest : drop (suc (run_to line_end (drop from b))) (drop from b) ≡ drop (end_from line_end b from + 1) b
          rest =
              let i : from + suc (run_to line_end (drop from b)) ≡ end_from line_end b from + 1 = omega arith in
              rw drop-drop (ap (λ (j : ℕ). drop j b) i)

    -- WHAT `serve` DOES COMES TO THE SAME AS THE BYTES ONE BY ONE
    pub serve_takes : (d' : Desk) × Advances d b from T d'
    serve_takes = go (number_after d.lines) refl (dec_lt (end_from line_end b from) (length b))
      where
        go : (m : Option ℕ) → number_after d.lines ≡ m → Dec (end_from line_end b from < length b)
            → (d' : Desk) × Advances d b from T d'
        go None e l = (full d, takes_full e)
        go (Some n) e (yes l) = (answered (begun_with d (piece_of b from)) n, takes_line n e l)
        go (Some n) e (no l) = (begun_with d (piece_of b from), takes_more n e (omega arith))

-- the program's values before the first byte, with any line buffer
pub opening_buffered : (x : List ℕ) → length x ≡ longest_line → Buffered opening x 0
opening_buffered x e = record { first = x; room = e; held = holds_none x }

-- a last line without LF is one where bytes are counted
pub last_is_last : (d : Desk) (x : List ℕ) (have : ℕ) → Buffered d x have → is_last have ≡ is_last (length d.begun)
unfolding is_last counted
last_is_last d x have w = go (length d.begun) w.held.count
  where
    go : (k : ℕ) → have ≡ counted (length w.first) k → is_last have ≡ is_last k
    go zero e = let z : have ≡ 0 = omega arith in rw z
    go (suc k) e =
        let z : (have ≡ 0) → ⊥ = omega arith in
        let y : (suc k ≡ 0) → ⊥ = omega arith in
        rw (ne_eqb have 0 z, ne_eqb (suc k) 0 y)

-- ---- how much is printed

-- a line's answer has at most so many bytes, and `full` has five
record Bounded (d : Desk) : Type 0 where
  last : d.lines ≤ last_line
  going_on : d.going ≡ true → length d.said ≤ d.lines * longest_answer
  at_all : length d.said ≤ d.lines * longest_answer + 5

said_more : (s t : List ℕ) (n k : ℕ) → length s ≤ n → length t ≤ k → length (s ++ t) ≤ n + k
said_more s t n k h l = rw (length-append s t) (omega arith)

fed_bounded : (d : Desk) (b : ℕ) → Bounded d → Bounded (fed d b)
unfolding fed fed_in number_after
fed_bounded d b h = go d.going refl (ltb d.lines last_line) refl
  where
    line : d.going ≡ true → d.lines < last_line → (t : Bool)
        → Bounded (cond t (answered d (d.lines + 1)) (begun_with d (b ∷ [])))
    line g l true =
        let n = d.lines + 1 in
        let text = take (entry_at d n).bytes (entry_at d n).out in
        let within = entry_within d.begun n d.session d.after d.report (replicate longest_answer 0) in
        let size = length-take (entry_at d n).bytes (entry_at d n).out in
        let room = length-replicate {A = ℕ} longest_answer 0 in
        let most : length text ≤ longest_answer = omega (arith, within, size, room) in
        let said = said_more d.said text (d.lines * longest_answer) longest_answer (h.going_on g) most in
        record { last = omega arith; going_on = λ e. omega (arith, said); at_all = omega (arith, said) }
    line g l false = record { last = h.last; going_on = h.going_on; at_all = h.at_all }

    go : (g : Bool) → d.going ≡ g → (l : Bool) → ltb d.lines last_line ≡ l
        → Bounded (cond g (fed_in d b (cond l (Some (d.lines + 1)) None)) d)
    go true g true l = line g (ltb-true d.lines last_line l) (eqb b line_end)
    go true g false l = record {
      last = h.last;
      going_on = λ e. clash cc;
      at_all = said_more d.said full_text (d.lines * longest_answer) 5 (h.going_on g) (omega arith);
    }
    go false g l e = h

feed_bounded : (s : List ℕ) (d : Desk) → Bounded d → Bounded (feed d s)
unfolding feed
feed_bounded [] d h = h
feed_bounded (b ∷ s) d h = feed_bounded s (fed d b) (fed_bounded d b h)

ended_bounded : (d : Desk) → Bounded d → Bounded (ended d)
unfolding ended
ended_bounded d h = go (is_last (length d.begun))
  where
    go : (b : Bool) → Bounded (cond b (fed d line_end) d)
    go true = fed_bounded d line_end h
    go false = h

-- WHAT IS PRINTED HAS FEWER THAN 2^31 BYTES
pub printed_most : (s : List ℕ) → length (ended (feed opening s)).said < 2147483648
printed_most s =
    let first : Bounded opening = record { last = omega arith; going_on = λ g. omega arith; at_all = omega arith } in
    let h = ended_bounded (feed opening s) (feed_bounded s opening first) in
    omega (arith, h.last, h.at_all)

-- where no more lines are taken, the input's end does nothing
pub ended_stopped : (d : Desk) → d.going ≡ false → ended d ≡ d
unfolding ended fed
ended_stopped d e = go (is_last (length d.begun))
  where
    go : (b : Bool) → cond b (cond d.going (fed_in d line_end (number_after d.lines)) d) d ≡ d
    go true = rw e
    go false = refl

-- ---- 01, "How much each contract must say": any two outcomes that a contract allows coincide

pub served_unique : {t : Turn} {p q : Served} {s s' : Tables} {x x' rs rs' out out' : List ℕ}
    → Serves t p x s rs out → Serves t q x' s' rs' out'
    → (p.next ≡ q.next) × (p.have ≡ q.have) × (p.lines ≡ q.lines) × (p.session ≡ q.session)
    × (p.bytes ≡ q.bytes) × (p.going ≡ q.going) × (x ≡ x') × (s ≡ s') × (rs ≡ rs') × (out ≡ out')
served_unique g h = (
  g.next ∙ sym h.next,
  g.have ∙ sym h.have,
  g.lines ∙ sym h.lines,
  g.session ∙ sym h.session,
  g.bytes ∙ sym h.bytes,
  g.going ∙ sym h.going,
  g.line ∙ sym h.line,
  g.after ∙ sym h.after,
  g.report ∙ sym h.report,
  g.answer ∙ sym h.answer,
)
