-- Laws of specs/Carrying.antt and specs/Running.antt: known bytes that are written one after another, what waits in the
-- output array, the lines of a block, and the run from read to read. Assumes nothing.
use Rattle.std.proofs.Common.{◌≡◌, ℕ, suc, ◌+◌, ◌-◌, ◌^◌, ◌<◌, ◌≤◌, Bool, true, false, List, [], ◌∷◌}
use Rattle.std.proofs.Common.{◌++◌, length, take, drop, sym, refl, ap, ◌∙◌, subst, append_assoc, append-nil}
use Rattle.std.proofs.Common.{arith, length-append, length-drop, drop_of_length-le, length-take-le, Option}
use Rattle.std.proofs.KnownBytes.{Appends-nil, Appends-trans, Consumes-nil, Consumes-trans}
use Rattle.std.proofs.lemmas.List.{take_rest}
use Rattle.std.proofs.Math.Seq.{take-add}
use Rattle.std.specs.Io.KnownBytes.{Appends, Consumes}
use native.Mathlib.Nat.{mod-add-mod}
use Rattle.std.proofs.Common.{Result, Ok, Err, OnOk, is_ok, is_err, not, ◌&&◌}
use Rattle.words.proofs.BoolLaws.{clash}
use borrow.Rule.Slice.PartMut.{put_mid}
use Rattle.words.specs.Words.{longest_answer}
use Rattle.rules.specs.Tables.{Tables, tables}
use Rattle.text_buffers.proofs.BufferLaws.{rest_lent}
use Rattle.line_gather.specs.Gather.{is_last}
use Rattle.line_serving.specs.declared.Served.{Served}
use Rattle.line_serving.specs.Serving.{Turn, turn_of, Serves}
use Rattle.line_serving.specs.Input.{Desk, opening, feed, ended, Advances}
use Rattle.line_serving.proofs.Theorems.{serve_takes, feed_none, fed_stopped, in_pieces, opening_buffered}
use Rattle.line_serving.proofs.Theorems.{last_is_last}
use Rattle.line_serving.proofs.ServingLaws.{served_on, served_within}
use Rattle.bench.specs.declared.State.{State}
use Rattle.bench.specs.declared.Reading.{Reading}
use Rattle.bench.specs.declared.Reading.TheVariants.{Open, Ended, Failed}
use Rattle.bench.specs.Carrying.{SameLine, wrapped, Waiting, At, Fed}
use Rattle.bench.specs.Running.{none, more, desk_after, RanTo, Runs, Opens, has_ended}

-- ---- known bytes, written one after another

-- what a write took of the rest follows what was taken before it
pub appends_on : (u v w : Option (List ℕ)) (s : List ℕ) (at n : ℕ) → Appends u v (take at s)
    → Appends v w (take n (take (length s - at) (drop at s))) → Appends u w (take (at + n) s)
appends_on u v w s at n h k =
    let z : Appends v w (take n (drop at s)) = rw (take_rest s at) at k in
    rw (take-add at n s) (Appends-trans u v w (take at s) (take n (drop at s)) h z)

-- ---- what waits in the output array

-- the rest, given back with p in it
put_back : (x : List ℕ) (n : ℕ) (p : List ℕ) → put_mid n (length x - n) x p ≡ take n x ++ p
put_back x n p =
    let z : drop (length x - n) (drop n x) ≡ [] =
    drop_of_length-le (drop n x) {i = length x - n} (rw length-drop (omega arith)) in
    rw (z, append-nil)

take_past : (s t : List ℕ) (k : ℕ) → take (length s + k) (s ++ t) ≡ s ++ take k t
take_past [] t k = let e : 0 + k ≡ k = omega arith in rw e
take_past (b ∷ s) t k =
    let e : suc (length s) + k ≡ suc (length s + k) = omega arith in
    rw e (ap (λ (r : List ℕ). b ∷ r) (take_past s t k))

module _ (said : List ℕ) (s : State) (held holds : Option (List ℕ)) (w : Waiting said s held holds)
    (l : s.used ≤ length s.out) where
  -- what waited was put out, and the output took it
  pub waits_put : (r : State) (now : Option (List ℕ)) → r.used ≡ 0 → r.put ≡ wrapped (s.put + s.used)
      → Appends holds now (take s.used s.out) → Waiting said r held now
  waits_put r now p q t = record {
    gone = said;
    rest = rw p (sym (append-nil said));
    count = q ∙ sum;
    taken = rw w.rest (Appends-trans held holds now w.gone (take s.used s.out) w.taken t);
  }
    where
      size : length said ≡ length w.gone + s.used
      size =
          ap length w.rest ∙ length-append w.gone (take s.used s.out)
          ∙ ap (λ (n : ℕ). length w.gone + n) (length-take-le s.used s.out l)

      sum : wrapped (s.put + s.used) ≡ wrapped (length said)
      sum =
          ap (λ (n : ℕ). wrapped (n + s.used)) w.count ∙ mod-add-mod (length w.gone) (2 ^ 64) s.used
          ∙ ap wrapped (sym size)

  -- what was written after it waits too
  waits_more : (u : List ℕ) (k : ℕ) (r : State) → r.out ≡ take s.used s.out ++ u → r.used ≡ s.used + k
      → r.put ≡ s.put → Waiting (said ++ take k u) r held holds
  waits_more u k r e f g = record { gone = w.gone; rest = rest; count = g ∙ w.count; taken = w.taken }
    where
      first : List ℕ
      first = take s.used s.out

      seam : take (s.used + k) (first ++ u) ≡ first ++ take k u
      seam =
          ap (λ (i : ℕ). take (i + k) (first ++ u)) (sym (length-take-le s.used s.out l)) ∙ take_past first u k

      now_there : first ++ take k u ≡ take r.used r.out
      now_there = sym seam ∙ ap (take (s.used + k)) (sym e) ∙ ap (λ (i : ℕ). take i r.out) (sym f)

      rest : said ++ take k u ≡ w.gone ++ take r.used r.out
      rest =
          ap (λ (z : List ℕ). z ++ take k u) w.rest ∙ append_assoc w.gone first (take k u)
          ∙ ap (λ (z : List ℕ). w.gone ++ z) now_there

-- the same line, tables and report are all that a desk knows of but the bytes that wait
at_line : (d : Desk) (s r : State) (held holds now : Option (List ℕ)) → SameLine s r → Waiting d.said r held now
    → At d s held holds → At d r held now
at_line d s r held holds now e w h = record {
  buffer = rw (e.0, e.1) h.buffer;
  lines = h.lines ∙ sym e.2;
  session = h.session ∙ sym e.3;
  after = rw (e.4, e.5) h.after;
  report = h.report ∙ sym e.6;
  going = h.going ∙ sym e.7;
  waits = w;
}

-- where the same bytes wait too, the program is where it was
pub at_same : (d : Desk) (s r : State) (held holds : Option (List ℕ)) → SameLine s r
    → (r.out ≡ s.out) × (r.used ≡ s.used) × (r.put ≡ s.put) → At d s held holds → At d r held holds
at_same d s r held holds e f h =
    let w = h.waits in
    at_line d s r held holds holds e
    (record { gone = w.gone; rest = rw (f.0, f.1) w.rest; count = f.2 ∙ w.count; taken = w.taken }) h

-- putting out what waits leaves the program where it is
pub at_put_out : (d : Desk) (s r : State) (held holds now : Option (List ℕ)) → s.used ≤ length s.out
    → SameLine s r → r.used ≡ 0 → r.put ≡ wrapped (s.put + s.used) → Appends holds now (take s.used s.out)
    → At d s held holds → At d r held now
at_put_out d s r held holds now l e p q t h =
    at_line d s r held holds now e (waits_put d.said s held holds h.waits l r now p q t) h

-- ---- the lines of a block

-- one line more, after those that were taken
pub fed_more : {d : Desk} {b : List ℕ} {i j k : ℕ} {s r : State} {held holds now : Option (List ℕ)}
    (f : Fed d b i j s held holds) → Fed f.desk b j k r held now → Fed d b i k r held now
fed_more f t = record { desk = t.desk; bytes = f.bytes ∙ t.bytes; at = t.at }

-- the turn of the line at `from` in the state s, which is lent the rest of the output array
abbrev pub turn_at : List ℕ → ℕ → State → List ℕ → Turn
turn_at b from s out =
    turn_of b from s.line s.have s.lines s.session (tables s.tasks s.promises) s.report out

-- what was served into the rest of the output array is what the state carries on
abbrev pub CarriesOn : State → Served → List ℕ → State → Type 0
CarriesOn s q u r =
    (r.have ≡ q.have) × (r.lines ≡ q.lines) × (r.session ≡ q.session) × (r.going ≡ q.going)
    × (r.out ≡ put_mid s.used (length s.out - s.used) s.out u) × (r.used ≡ s.used + q.bytes) × (r.put ≡ s.put)

module _ (d : Desk) (b : List ℕ) (from : ℕ) (s r : State) (held holds : Option (List ℕ)) where
  pub fed_line : {q : Served} {u : List ℕ}
      → Serves (turn_at b from s (take (length s.out - s.used) (drop s.used s.out))) q r.line
      (tables r.tasks r.promises) r.report u
      → CarriesOn s q u r → s.used + longest_answer ≤ length s.out → from < length b → d.going ≡ true
      → At d s held holds → Fed d b from q.next r held holds
  fed_line {q} {u} v e m l g h = record {
    desk = t.0;
    bytes = k.bytes ∙ ap (λ (j : ℕ). feed t.0 (drop j b)) (sym w.next);
    at = record {
      buffer = rw (w.line, e.0, w.have) k.buffer;
      lines = k.lines ∙ sym (e.1 ∙ w.lines);
      session = k.session ∙ sym (e.2 ∙ w.session);
      after = k.after ∙ sym w.after;
      report = k.report ∙ sym w.report;
      going = k.going ∙ sym (e.3 ∙ w.going);
      waits = rw k.said waits;
    };
  }
    where
      rest : List ℕ
      rest = drop s.used s.out

      w : Serves (turn_at b from s rest) q r.line (tables r.tasks r.promises) r.report u
      w =
          subst (λ (z : List ℕ). Serves (turn_at b from s z) q r.line (tables r.tasks r.promises) r.report u)
          (rest_lent s.out s.used) v

      turn : Turn
      turn = turn_of b from s.line s.have d.lines d.session d.after d.report rest

      t : (d' : Desk) × Advances d b from turn d'
      t = serve_takes d b from s.line s.have rest (omega (arith, length-drop s.used s.out)) l g h.buffer

      k : Advances d b from (turn_at b from s rest) t.0
      k = rw (← h.lines, ← h.session, ← h.after, ← h.report) t.1

      waits : Waiting (d.said ++ take (turn_at b from s rest).bytes (turn_at b from s rest).out) r held holds
      waits =
          waits_more d.said s held holds h.waits (omega arith) (turn_at b from s rest).out
          (turn_at b from s rest).bytes r
          (e.4 ∙ put_back s.out s.used u ∙ ap (λ (y : List ℕ). take s.used s.out ++ y) w.answer)
          (e.5 ∙ ap (λ (j : ℕ). s.used + j) w.bytes) e.6

-- where it ends, in the block and in the output array
pub line_ends : (b : List ℕ) (from : ℕ) (s : State) {q : Served} {x : List ℕ} {st : Tables} {rs u : List ℕ}
    → Serves (turn_at b from s (take (length s.out - s.used) (drop s.used s.out))) q x st rs u
    → from < length b → s.used ≤ length s.out
    → (from < q.next) × (q.next ≤ length b) × (s.used + q.bytes ≤ length s.out)
line_ends b from s v l m =
    let rest : List ℕ = take (length s.out - s.used) (drop s.used s.out) in
    let lent = tables s.tasks s.promises in
    let on = served_on b from s.line s.have s.lines s.session lent s.report rest v l in
    let within = served_within b from s.line s.have s.lines s.session lent s.report rest v in
    (on.0, on.1, omega (arith, within, ap length (rest_lent s.out s.used), length-drop s.used s.out))

module _ (d : Desk) (b : List ℕ) (next : ℕ) (r : State) (held holds : Option (List ℕ))
    (f : Fed d b 0 next r held holds) where
  -- A BLOCK THAT WAS TAKEN WHOLE: the program is where the desk is after the block's bytes
  pub fed_all : length b ≤ next → At (feed d b) r held holds
  unfolding feed
  fed_all e = subst (λ (y : Desk). At y r held holds) (sym (f.bytes ∙ ap (feed f.desk) none_left)) f.at
    where
      none_left : drop next b ≡ []
      none_left = drop_of_length-le b e

  -- and where no more lines are taken, what is left of it does nothing
  pub fed_full : r.going ≡ false → At (feed d b) r held holds
  fed_full e =
      subst (λ (y : Desk). At y r held holds) (sym (f.bytes ∙ fed_stopped f.desk (drop next b) (f.at.going ∙ e))) f.at

-- ---- the input's end

last_fed : (d : Desk) → is_last (length d.begun) ≡ true → ended d ≡ feed d (10 ∷ [])
unfolding ended feed
last_fed d e = rw e

none_fed : (d : Desk) → is_last (length d.begun) ≡ false → ended d ≡ d
unfolding ended
none_fed d e = rw e

module _ (d : Desk) (s : State) (held holds : Option (List ℕ)) (h : At d s held holds) where
  -- a last line without LF is served as if it had one
  pub ended_line : (r : State) (now : Option (List ℕ)) → is_last s.have ≡ true → At (feed d (10 ∷ [])) r held now
      → At (ended d) r held now
  ended_line r now e a =
      subst (λ (y : Desk). At y r held now)
      (sym (last_fed d (sym (last_is_last d s.line s.have h.buffer) ∙ e)))
      a

  -- where no line has begun, nothing is left to do
  pub ended_none : is_last s.have ≡ false → At (ended d) s held holds
  ended_none e =
      subst (λ (y : Desk). At y s held holds)
      (sym (none_fed d (sym (last_is_last d s.line s.have h.buffer) ∙ e)))
      h

-- ---- from read to read

-- THE PROGRAM STARTS WHERE THE DESK OPENS, with any output
opening_at : (s : State) (held : Option (List ℕ)) → Opens s → At opening s held held
opening_at s held e = record {
  buffer = rw e.have (opening_buffered s.line e.line);
  lines = sym e.lines;
  session = sym e.session;
  after = sym e.after;
  report = sym e.report;
  going = sym e.going;
  waits = record { gone = []; rest = rw e.used; count = e.put; taken = Appends-nil held };
}

-- while the input is open, the desk is the one after its bytes
desk_open : (g : Reading) (input : List ℕ) → g ≡ Open → desk_after (has_ended g) input ≡ feed opening input
desk_open g input e = rw e

-- a desk may be named in another way
at_desk : {d e : Desk} {s : State} {held holds : Option (List ℕ)} → d ≡ e → At e s held holds → At d s held holds
at_desk {d} {e} {s} {held} {holds} q h = subst (λ (y : Desk). At y s held holds) (sym q) h

pub reached_start : (s : State) (had held : Option (List ℕ)) → Opens s → RanTo 0 true s had had held held
reached_start s had held e = record {
  input = [];
  brought = Consumes-nil had;
  blocks = 0;
  came = none;
  reads = rw e.reading;
  nothing_waits = e.used;
  at = λ g. at_desk (desk_open s.reading [] e.reading ∙ feed_none opening) (opening_at s held e);
}

module _ (reads : ℕ) (took : Bool) (was s : State) (had has left held holds now : Option (List ℕ))
    (o : was.reading ≡ Open) (h : RanTo reads true was had has held holds) (n : s.used ≡ 0) where
  reads_before : reads ≡ h.blocks
  reads_before = let z : reads ≡ h.blocks + 0 = rw o at h.reads in omega arith

  before : At (feed opening h.input) was held holds
  before = at_desk (sym (desk_open was.reading h.input o)) (h.at refl)

  -- a block came
  pub reached_block : (b : List ℕ) → 0 < length b → Consumes has left b → s.reading ≡ Open
      → ((d : Desk) → At d was held holds → took ≡ true → At (feed d b) s held now)
      → RanTo (reads + 1) took s had left held now
  reached_block b k c f a = record {
    input = h.input ++ b;
    brought = Consumes-trans had has left h.input b h.brought c;
    blocks = suc h.blocks;
    came = more h.came b k;
    reads = rw f (omega (arith, reads_before));
    nothing_waits = n;
    at = λ g.
        at_desk (desk_open s.reading (h.input ++ b) f ∙ in_pieces opening h.input b)
        (a (feed opening h.input) before g);
  }

-- what holds of a call that succeeded
pub on_ok_true : {T E P : Type 0} (r : Result T E) → OnOk r P → is_ok r ≡ true → P
on_ok_true (Ok x) p e = p
on_ok_true (Err x) p e = clash cc

-- where the output is closed, nothing else stops the run
pub runs_closed : {T E : Type 0} (r : Result T E) (n : ℕ) (s : State) (had has held holds : Option (List ℕ))
    → is_err r ≡ true → RanTo n false s had has held holds → Runs (is_ok r) s had has held holds
runs_closed (Ok x) n s had has held holds e h = clash cc
runs_closed (Err x) n s had has held holds e h = record { reads = n; reached = h; stops = λ f g k. clash cc }

-- where the program reads on, the input is open; where it does not, its end came or no more lines are taken
pub reads_more : (going : Bool) (g : Reading) → (going && not (has_ended g)) ≡ true → g ≡ Open
reads_more true Open e = refl
reads_more true Ended e = clash cc
reads_more true Failed e = clash cc
reads_more false g e = clash cc

pub reads_no_more : (going : Bool) (g : Reading) → (going && not (has_ended g)) ≡ false → has_ended g ≡ false
    → going ≡ true → ⊥
reads_no_more true Open e f h = clash cc
reads_no_more true Ended e f h = clash cc
reads_no_more true Failed e f h = clash cc
reads_no_more false g e f h = clash cc
