-- Laws of specs/Lines.antt: the parts of the entry, put together. Assumes nothing.
use Prim.Native.Nat.{ℕ, suc, ◌≤◌, ◌<◌}
use mathlib.Core.Path.{◌≡◌, refl, sym, ap, subst, subst₂, ◌∙◌}
use mathlib.Core.List.{List, []}
use mathlib.Core.Bool.{Bool, true, false, cond, ◌&&◌}
use native.Mathlib.Omega.{arith}
use lib.Dec.{eqb, leb}
use borrow.Author.Tests.{eqb-true, leb-true, lt-ltb, le-ltb}
use lib.ListN.{length, take, drop, get_or, length-replicate}
use lib.Seq.{take-append_seam, take_all, get_or-take}
use Rattle.words.specs.Words.{of_lines, last_line, longest_line, longest_answer, line_report, most_entries}
use Rattle.words.specs.Lists.{over}
use Rattle.words.proofs.BoolLaws.{and_split}
use Rattle.std.specs.Result.{result_unwrap_or}
use Rattle.rules.specs.Tables.{Tables, part_of}
use Rattle.std.proofs.Common.{Result, Ok}
use Rattle.rules.specs.Refusals.{fresh_refusal, refused_by as number_refused}
use Rattle.rules.specs.declared.Refusal.{Refusal}
use Rattle.rules.specs.declared.Answer.{Answer}
use Rattle.rules.specs.declared.Answer.TheVariants.{Refused}
use Rattle.step_kinds.specs.declared.Kind.{Kind}
use Rattle.steps.specs.Named.{step_by}
use Rattle.text_forms.specs.declared.LineForm.{LineForm}
use Rattle.text_forms.specs.declared.LineForm.TheVariants as F
use Rattle.text_forms.specs.declared.BadLine.{BadLine}
use Rattle.std.specs.Prelude.{Result, Ok, Err}
use Rattle.text_forms.specs.Judging.{entry_count, line_form, entries_of, may_list, InLine, Judged}
use Rattle.text_forms.proofs.JudgingLaws.{line_form_long, entries_of_long}
use Rattle.text_forms.proofs.Unlisted.{may_list_is, entries_of_none}
use Rattle.text_forms.proofs.Theorems.{step_counts, count_within, entries_half, judged_fits, column_in_line}
use Rattle.text_buffers.specs.Buffers.{fitting, Wrote}
use Rattle.words.proofs.ListLaws.{over_length}
use Rattle.text_buffers.proofs.BufferLaws.{fitting_most, wrote_room}
use Rattle.answer_text.specs.AnswerText.{answer_text}
use Rattle.answer_text.proofs.Fits.{refused_fits, placed_fits, opened_fits, step_answer_fits}
use Rattle.line_session.specs.declared.Session.{Session}
use Rattle.line_session.specs.declared.Session.TheVariants.{Unopened, Open}
use Rattle.line_session.specs.declared.Done.{Done}
use Rattle.line_session.specs.Sessions.{Deed, refused_by, opened, open_deed, unopened_deed, open_outcome, deed_of}
use Rattle.line_session.specs.Sessions.{in_session, Does}
use Rattle.line_session.proofs.SessionLaws.{fresh_refusal_most, deed_list}
use Rattle.line_entry.specs.declared.Entered.{Entered}
use Rattle.line_entry.specs.Lines.{lent_well, line_deed, entered, not_entered, told_of, Enters, held_line, entry_of}
use Rattle.line_entry.specs.Lines.{reply_of}

-- ---- the entry

pub record Lent (n : ℕ) (session : Session) (st : Tables) (report out : ℕ) : Type 0 where
  pub most : n ≤ last_line
  pub session_is : in_session session ≡ true
  pub tasks_are : length st.tasks ≡ of_lines.most_tasks
  pub promises_are : length st.promises ≡ of_lines.most_promises
  pub room : longest_answer ≤ out

pub lent_well_true : (n : ℕ) (session : Session) (st : Tables) (report out : ℕ)
    → lent_well n session st report out ≡ true → Lent n session st report out
unfolding lent_well
lent_well_true n session st report out e =
    let tasks = length st.tasks in
    let promises = length st.promises in
    let T = of_lines.most_tasks in
    let P = of_lines.most_promises in
    let numbered = leb 1 n && leb n last_line in
    let sized = eqb tasks T && eqb promises P in
    let roomy = eqb report line_report && leb longest_answer out in
    let (abc, d) = and_split (numbered && in_session session && sized) roomy e in
    let (ab, c) = and_split (numbered && in_session session) sized abc in
    let (a, b) = and_split numbered (in_session session) ab in
    let (a₁, a₂) = and_split (leb 1 n) (leb n last_line) a in
    let (c₁, c₂) = and_split (eqb tasks T) (eqb promises P) c in
    let (d₁, d₂) = and_split (eqb report line_report) (leb longest_answer out) d in
    record {
      most = leb-true n last_line a₂;
      session_is = b;
      tasks_are = eqb-true tasks T c₁;
      promises_are = eqb-true promises P c₂;
      room = leb-true longest_answer out d₂;
    }

-- what the lent words then hold is the list of the line
step_entries : (s o x : List ℕ) (k : Kind) (t p c : ℕ) → line_form s ≡ Ok (F.Step k t p c) → x ≡ over (entries_of s) o
    → take c x ≡ entries_of s
unfolding over
step_entries s o x k t p c e w =
    let n : c ≡ length (entries_of s) = step_counts s k t p c e in
    rw (w, n) (take-append_seam (entries_of s) (drop (length (entries_of s)) o))

deed_read : (s o x : List ℕ) (f : Result LineForm BadLine) (session : Session) (st : Tables) (n : ℕ) → Judged s o x f
    → length (entries_of s) ≤ length o → deed_of f (take (entry_count f) x) session st n ≡ line_deed s session st n
unfolding entry_count over
deed_read s o x f session st n j h =
    ap (λ (g : Result LineForm BadLine). deed_of g (take (entry_count g) x) session st n) j.form
    ∙ deed_list (line_form s) (take (entry_count (line_form s)) x) (entries_of s) session st n
    (λ k t p c e. ap (λ (g : Result LineForm BadLine). take (entry_count g) x) e
    ∙ step_entries s o x k t p c e (judged_fits j h))

-- so what is done with them is what the line does
pub does_read : (s o x : List ℕ) (f : Result LineForm BadLine) (session : Session) (st : Tables) (rs : List ℕ)
    {d : Done} {st' : Tables} {rs' : List ℕ} → Judged s o x f → length (entries_of s) ≤ length o
    → Does (deed_of f (take (entry_count f) x) session st (length rs)) rs d st' rs'
    → Does (line_deed s session st (length rs)) rs d st' rs'
does_read s o x f session st rs {d} {st'} {rs'} j h does =
    subst (λ (y : Deed). Does y rs d st' rs') (deed_read s o x f session st (length rs) j h) does

-- ---- every answer fits

-- the answer of a deed, as line n
abbrev deed_text : ℕ → Deed → List ℕ → List ℕ
deed_text n d rs = answer_text n d.answer (over d.words rs)

deed_fits : (f : Result LineForm BadLine) (vs : List ℕ) (session : Session) (st : Tables) (rs : List ℕ) (m n : ℕ)
    → n ≤ last_line
    → InLine f → length (deed_text n (deed_of f vs session st m) rs) ≤ longest_answer
unfolding deed_of unopened_deed open_deed open_outcome
deed_fits (Ok (F.Open T P)) vs Unopened st rs m n h l = go (eqb (fresh_refusal of_lines T P) 0)
  where
    go : (b : Bool) → let d = cond b (opened T P st) (refused_by (Refused (fresh_refusal of_lines T P)) Unopened st) in
        length (deed_text n d rs) ≤ longest_answer
    go true = opened_fits n (over [] rs) h
    go false = refused_fits n (fresh_refusal of_lines T P) (over [] rs) h (omega (arith, fresh_refusal_most T P))
deed_fits (Ok (F.Step k t p c)) vs Unopened st rs m n h l = refused_fits n 15 (over [] rs) h (omega arith)
deed_fits (Err c) vs Unopened st rs m n h l =
    placed_fits n 14 c.column (over [] rs) h (omega arith) (omega (arith, l c.column refl))
deed_fits (Ok (F.Open T' P')) vs (Open T P) st rs m n h l = refused_fits n 15 (over [] rs) h (omega arith)
deed_fits (Ok (F.Step k t p c)) vs (Open T P) st rs m n h l =
    step_answer_fits n m (part_of T P st) (step_by k t p vs) rs h
deed_fits (Err c) vs (Open T P) st rs m n h l =
    placed_fits n 14 c.column (over [] rs) h (omega arith) (omega (arith, l c.column refl))

pub line_fits : (line : List ℕ) (session : Session) (st : Tables) (rs : List ℕ) (n : ℕ) → n ≤ last_line
    → length (deed_text n (line_deed line session st (length rs)) rs) ≤ longest_answer
line_fits line session st rs n h =
    deed_fits (line_form line) (entries_of line) session st rs (length rs) n h (column_in_line line)

-- EVERY ANSWER LINE FITS INTO WHAT WAS LENT FOR IT
pub entry_within : (line : List ℕ) (n : ℕ) (session : Session) (st : Tables) (rs out : List ℕ)
    → (entry_of line n session st rs out).bytes ≤ length out
unfolding entry_of
entry_within line n session st rs out = go (lent_well n session st (length rs) (length out)) refl
  where
    d : Deed
    d = line_deed line session st (length rs)

    go : (b : Bool) → lent_well n session st (length rs) (length out) ≡ b
        → (cond b (entered n rs out d) (not_entered session st rs out)).bytes ≤ length out
    go true e =
        let w = lent_well_true n session st (length rs) (length out) e in
        omega (arith, line_fits line session st rs n w.most, w.room)
    go false e = omega arith

-- what was done and what was written make the entry
pub enters_of : (n : ℕ) (rs out : List ℕ) {d : Deed} {x : Done} {e : Entered} {st : Tables} {rs' out' : List ℕ}
    → Does d rs x st rs' → length (deed_text n d rs) ≤ length out
    → Wrote (answer_text n x.answer rs') out out' e.bytes → e.session ≡ x.session
    → Enters (entered n rs out d) (Ok e) st rs' out'
unfolding over told_of
enters_of n rs out {d} {x} {e} {st} {rs'} {out'} g fit wrote session =
    let w : Wrote (deed_text n d rs) out out' e.bytes =
    subst₂ (λ (a : Answer) (r : List ℕ). Wrote (answer_text n a r) out out' e.bytes) g.answer g.report wrote in
    let room = wrote_room w fit in
    record {
      told = told (session ∙ g.session) room.0;
      after = g.after;
      report = g.report;
      answer = room.1;
    }
  where
    Told : Type 0
    Told = Result Entered Refusal

    tell : Entered → Told
    tell x = Ok x

    told : {s : Session} {k : ℕ} → e.session ≡ s → e.bytes ≡ k
        → tell e ≡ tell (record { session = s; bytes = k })
    told {s} {k} p q = rw (← p, ← q)

-- a call refuses by the number of the entry, or by none
pub told_number : (line : List ℕ) (n : ℕ) (session : Session) (st : Tables) (rs out : List ℕ)
    → number_refused (told_of (entry_of line n session st rs out)) ≡ (entry_of line n session st rs out).number
unfolding entry_of told_of
told_number line n session st rs out = go (lent_well n session st (length rs) (length out))
  where
    d : Deed
    d = line_deed line session st (length rs)

    go : (b : Bool) → let e = cond b (entered n rs out d) (not_entered session st rs out) in
        number_refused (told_of e) ≡ e.number
    go true = refl
    go false = refl

-- and where it refuses, the session value stays and no answer line was written
pub told_or : (line : List ℕ) (n : ℕ) (session : Session) (st : Tables) (rs out : List ℕ)
    → let e = entry_of line n session st rs out in
    result_unwrap_or (told_of e) (record { session = session; bytes = 0 })
    ≡ record { session = e.session; bytes = e.bytes }
unfolding entry_of told_of
told_or line n session st rs out = go (lent_well n session st (length rs) (length out))
  where
    d : Deed
    d = line_deed line session st (length rs)

    go : (b : Bool) → let e = cond b (entered n rs out d) (not_entered session st rs out) in
        result_unwrap_or (told_of e) (record { session = session; bytes = 0 })
        ≡ record { session = e.session; bytes = e.bytes }
    go true = refl
    go false = refl

-- the list that a line was read into is as long as it was lent
pub judged_count : (s o x : List ℕ) (f : Result LineForm BadLine) → Judged s o x f → length (entries_of s) ≤ length o
    → entry_count f ≤ length x
judged_count s o x f j h =
    let kept = over_length (fitting (entries_of s) o) o (fitting_most (entries_of s) o) in
    let e : length x ≡ length o = ap (λ (l : List ℕ). length l) j.words ∙ kept in
    let k =
    subst (λ (g : Result LineForm BadLine). entry_count g ≤ length (entries_of s)) (sym j.form) (count_within s) in
    omega arith

-- the entries of a line fit into the words that are cleared for them: as many as any line has, or none
pub most_fit : (s : List ℕ) → length (entries_of s) ≤ most_entries
most_fit s = omega (arith, entries_half s)

pub none_fit : (s : List ℕ) → may_list s ≡ false → length (entries_of s) ≤ 0
none_fit s e = rw (entries_of_none s e) (omega arith)

-- ---- a line that was gathered

-- a line that the buffer has room for is there, whole
pub held_line_within : (x : List ℕ) (n : ℕ) → n ≤ length x → held_line x n ≡ take n x
unfolding held_line
held_line_within x n h = rw (le-ltb (length x) n h)

-- the buffer's own bytes are the line that they are
held_line_whole : (x : List ℕ) → held_line x (length x) ≡ x
held_line_whole x = held_line_within x (length x) (omega arith) ∙ take_all (length x) x (omega arith)

pub held_line_long : (x : List ℕ) (n : ℕ) → length x < n → longest_line < length (held_line x n)
unfolding held_line
held_line_long x n h = rw (lt-ltb (length x) n h) (omega (arith, length-replicate {A = ℕ} (suc longest_line) 0))

-- how a line starts that the buffer gathered
module _ (x : List ℕ) (n : ℕ) where
  pub may_list_empty : n ≡ 0 → may_list (held_line x n) ≡ false
  unfolding held_line
  may_list_empty h = rw (may_list_is, h, le-ltb (length x) 0 (omega arith))

  pub may_list_long : length x < n → may_list (held_line x n) ≡ false
  unfolding held_line
  may_list_long h = rw (may_list_is, lt-ltb (length x) n h)

  pub may_list_first : 0 < n → n ≤ length x → may_list (held_line x n) ≡ eqb (get_or x 0 0) 97
  may_list_first p h = rw (may_list_is, held_line_within x n h, get_or-take n x 0 0 p)

-- how any line starts that the buffer gathered
pub ruleset starts = (may_list_empty, may_list_long, may_list_first)

-- judging the part of the buffer where the line is
pub judged_held : (x : List ℕ) (n : ℕ) {o y : List ℕ} {r : Result LineForm BadLine} → n ≤ length x
    → Judged (take n x) o y r
    → Judged (held_line x n) o y r
judged_held x n {o} {y} {r} h j =
    subst (λ (l : List ℕ). Judged l o y r) (sym (held_line_within x n h)) j

-- the reply to a whole buffer is the entry of what it holds
pub replied_whole : (x : List ℕ) (n : ℕ) (session : Session) (st : Tables) (rs out : List ℕ)
    {r : Result Entered Refusal} {st' : Tables} {rs' out' : List ℕ}
    → Enters (reply_of x (length x) n session st rs out) r st' rs' out'
    → Enters (entry_of x n session st rs out) r st' rs' out'
replied_whole x n session st rs out {r} {st'} {rs'} {out'} e =
    subst (λ (l : List ℕ). Enters (entry_of l n session st rs out) r st' rs' out') (held_line_whole x) e

-- ALL LINES THAT ARE TOO LONG HAVE ONE ENTRY
pub long_lines_alike : (s t : List ℕ) → longest_line < length s → longest_line < length t → (n : ℕ) (session : Session)
    (st : Tables) (rs out : List ℕ) → entry_of s n session st rs out ≡ entry_of t n session st rs out
unfolding entry_of
long_lines_alike s t h k n session st rs out =
    rw (line_form_long s h, line_form_long t k, entries_of_long s h, entries_of_long t k)
