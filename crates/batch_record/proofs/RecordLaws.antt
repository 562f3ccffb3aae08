-- Laws of specs/Records.antt: refusal 16, what the step makes of its record, and the turn of a record on the rest of
-- the report. Assumes nothing.
use Prim.Native.Nat.{ℕ, ◌+◌, ◌*◌, ◌-◌, ◌≤◌, ◌<◌}
use mathlib.Core.Path.{◌≡◌, refl, sym, ap, subst, ◌∙◌}
use mathlib.Core.List.{List, [], append-nil, append_assoc}
use mathlib.Core.Bool.{Bool, true, false, ◌&&◌}
use native.Mathlib.Omega.{arith}
use borrow.Author.Tests.{lt-ltb, le-ltb, eqb-false}
use borrow.Rule.Slice.PartMut.{put_mid}
use lib.Dec.{ltb}
use lib.ListN.{length, take, drop, length-drop, drop_of_length-le}
use lib.Seq.{sets, sets-eq, drop-drop}
use Rattle.words.specs.Words.{Form, room_for}
use Rattle.words.specs.Lists.{over}
use Rattle.words.proofs.BoolLaws.{true_is_not_false}
use Rattle.words.proofs.ListLaws.{over_sets}
use Rattle.rules.specs.Tables.{Tables, in_bounds}
use Rattle.rules.specs.Answers.{laid, word_count}
use Rattle.rules.specs.Refusals.{first}
use Rattle.rules.specs.Steps.{Step, Outcome, raw}
use Rattle.rules.specs.StepContracts.{Gives}
use Rattle.rules.specs.declared.Answer.{Answer}
use Rattle.rules.specs.declared.Answer.TheVariants.{Refused}
use Rattle.rules.proofs.GuardLaws.{guarded_by}
use Rattle.rules.proofs.Counts.{raw_counted, raw_room}
use Rattle.rules.proofs.BoundsLaws.{in_bounds_true}
use Rattle.rules.proofs.GivesLaws.{gives_refused, gives_passed}
use Rattle.text_buffers.proofs.BufferLaws.{rest_lent}
use Rattle.answer_words.specs.AnswerWords.{answer_words}
use Rattle.answer_words.proofs.AnswerWordLaws.{answer_words_length}
use Rattle.step_kinds.specs.Kinds.{shape_of, takes_list}
use Rattle.steps.specs.Named.{of_rules, step_by}
use Rattle.steps.specs.declared.Step as V
use Rattle.steps.proofs.NamedLaws.{step_by_plain}
use Rattle.batch_record.specs.declared.Record.{Record}
use Rattle.batch_record.specs.Records.{listed_part, step_of, part_rows, Names, raw_record, Turns}
use Rattle.std.specs.Prelude.{Some}

-- ---- refusal 16

-- given: a part that passes the list's end
pub part_given : (list : List ℕ) (r : Record) → takes_list (shape_of r.kind) ≡ true
    → length list < r.start + r.length → first (part_rows list r) ≡ 16
unfolding first
part_given list r k h = rw (k, lt-ltb (length list) (r.start + r.length) h)

-- not given: a step without a list, or a part within the list
within : (b : Bool) (n m : ℕ) → (b ≡ true → m ≤ n) → (b && ltb n m) ≡ false
within true n m h = le-ltb n m (h refl)
within false n m h = refl

pub part_not_given : (list : List ℕ) (r : Record)
    → (takes_list (shape_of r.kind) ≡ true → r.start + r.length ≤ length list) → first (part_rows list r) ≡ 0
unfolding first
part_not_given list r h = rw (within (takes_list (shape_of r.kind)) (length list) (r.start + r.length) h)

-- ---- the step

module _ (list : List ℕ) (r : Record) (v : V.Step) (m : List ℕ) where
  -- a step without a list, whatever list it is given
  pub names_plain : takes_list (shape_of r.kind) ≡ false → of_rules v ≡ step_by r.kind r.task r.other m
      → Names list r (Some v)
  names_plain h e = (
    e ∙ step_by_plain r.kind r.task r.other m (listed_part list r) h,
    part_not_given list r (λ z. absurd (true_is_not_false (sym z ∙ h))),
  )

  -- a part within the list
  pub names_part : r.start + r.length ≤ length list → m ≡ take r.length (drop r.start list)
      → of_rules v ≡ step_by r.kind r.task r.other m → Names list r (Some v)
  names_part h p e = (e ∙ ap (step_by r.kind r.task r.other) p, part_not_given list r (λ z. h))

module _ (F : Form) (s : Tables) (list : List ℕ) (r : Record) where
  -- the part passes the list's end
  pub record_refused : (rs : List ℕ) → first (part_rows list r) ≡ 16
      → Gives (raw_record F list s r) rs (Refused 16) s rs
  record_refused rs e = gives_refused _ s (raw F s (step_of list r)) rs (sym e) (eqb-false 16 0 refl)

  -- the step that the record names
  pub record_taken : {x : Step} {s' : Tables} {rs rs' : List ℕ} {a : Answer} → x ≡ step_of list r
      → first (part_rows list r) ≡ 0 → Gives (raw F s x) rs a s' rs' → Gives (raw_record F list s r) rs a s' rs'
  record_taken {x} {s'} {rs} {rs'} {a} e h g =
      gives_passed _ s (sym h) refl (subst (λ (y : Step). Gives (raw F s y) rs a s' rs') e g)

-- ---- the words of a record's step

module _ (F : Form) (list : List ℕ) (s : Tables) (r : Record) where
  pub record_counted : length (raw_record F list s r).words ≡ word_count (raw_record F list s r).answer
  unfolding laid
  record_counted = guarded_by (λ (o : Outcome). length o.words ≡ word_count o.answer) _ _ s _ (λ m. refl)
      (λ z. raw_counted F s (step_of list r))

  pub record_room : length (raw_record F list s r).words ≤ room_for (length s.tasks) (length s.promises)
  record_room = guarded_by (λ (o : Outcome). length o.words ≤ room_for (length s.tasks) (length s.promises)) _
      _ s _ (λ m. omega arith) (λ z. raw_room F s (step_of list r))

-- ---- a turn

-- words that were written over the front of a rest that was lent
rest_put : (xs ws : List ℕ) (at : ℕ) → at + length xs ≤ length ws
    → put_mid at (length ws - at) ws (over xs (take (length ws - at) (drop at ws))) ≡ sets ws at xs
unfolding over
rest_put xs ws at h =
    let z : drop (length ws - at) (drop at ws) ≡ [] = drop_of_length-le (drop at ws) {i = length ws - at}
    (rw length-drop (omega arith)) in
    rw (z, append-nil, rest_lent ws at, drop-drop, sets-eq xs ws at h, append_assoc)

-- the rest has as much room as the whole has after `at`
pub rest_bounds : (F : Form) (s : Tables) (at : ℕ) (rs : List ℕ) → in_bounds F (length rs - at) s ≡ true
    → in_bounds F (length (take (length rs - at) (drop at rs))) s ≡ true
rest_bounds F s at rs h = rw (rest_lent rs at, length-drop) h

-- and the step's words fit into it
pub next_within : (F : Form) (list : List ℕ) (s : Tables) (r : Record) (at : ℕ) (rs : List ℕ) {a : Answer} {n : ℕ}
    {s' : Tables} {p q : List ℕ}
    → in_bounds F (length rs - at) s ≡ true → Gives (raw_record F list s r) q a s' p → n ≡ word_count a → at ≤ length rs
    → at + n ≤ length rs
next_within F list s r at rs b g e h =
    omega (
      arith,
      (in_bounds_true F (length rs - at) s b).room,
      record_room F list s r,
      e ∙ ap word_count g.answer
          ∙ sym (record_counted F list s r),
    )

pub turned : (F : Form) (list : List ℕ) (s : Tables) (r : Record) (at i : ℕ) (rs ws : List ℕ) {a : Answer} {n : ℕ}
    {s' : Tables} {p q : List ℕ}
    → in_bounds F (length rs - at) s ≡ true → at ≤ length rs → 4 * i + 4 ≤ length ws
    → Gives (raw_record F list s r) (take (length rs - at) (drop at rs)) a s' p
    → q ≡ sets (take (length ws - 4 * i) (drop (4 * i) ws)) 0 (answer_words a) → n ≡ word_count a
    → Turns (raw_record F list s r) at i rs ws (at + n) s' (put_mid at (length rs - at) rs p)
    (put_mid (4 * i) (length ws - 4 * i) ws q)
turned F list s r at i rs ws {a} {n} {s'} {p} {q} b h room g t e =
    let o = raw_record F list s r in
    let l = answer_words_length a in
    let d : length (take (length ws - 4 * i) (drop (4 * i) ws)) ≡ length ws - 4 * i = rw
    (rest_lent ws (4 * i), length-drop) in
    let q' : q ≡ over (answer_words a) (take (length ws - 4 * i) (drop (4 * i) ws)) = t
    ∙ sym (over_sets (answer_words a) (take (length ws - 4 * i) (drop (4 * i) ws)) (omega arith)) in
    record {
      after = g.after;
      report = ap (put_mid at (length rs - at) rs) g.report
          ∙ rest_put o.words rs at (omega
          (arith, record_room F list s r, (in_bounds_true F (length rs - at) s b).room));
      answers = ap (put_mid (4 * i) (length ws - 4 * i) ws) q' ∙ rest_put (answer_words a) ws (4 * i) (omega arith)
          ∙ ap (λ (b : Answer). sets ws (4 * i) (answer_words b)) g.answer;
      next_at = ap (λ (k : ℕ). at + k) (e ∙ ap word_count g.answer ∙ sym (record_counted F list s r));
    }
