-- Laws of specs/Batches.antt: what a call has that is not refused; a record's step on good tables; and what the loop
-- of a batch holds: the records still to take, from the tables as they are, make what all of them make of the tables
-- lent. Assumes nothing.
use Prim.Native.Nat.{ℕ, zero, suc, ◌+◌, ◌*◌, ◌-◌, ◌≤◌, ◌<◌}
use mathlib.Core.Path.{◌≡◌, refl, sym, ap, subst, ◌∙◌}
use mathlib.Core.Logic.{◌≢◌}
use mathlib.Core.List.{List, [], ◌∷◌}
use mathlib.Core.Bool.{true, false, ◌&&◌}
use native.Mathlib.Omega.{arith}
use native.Mathlib.Nat.{suc-mul}
use native.Mathlib.Numerals.{add-one}
use borrow.Author.Tests.{leb-true, le-leb, lt-leb, eq-eqb, ne_eqb, eqb-false}
use lib.Dec.{leb}
use lib.ListN.{length, drop, length-append, drop_of_length-le}
use lib.Seq.{sets, length-sets, drop-cons}
use Rattle.words.specs.Words.{Form, sizes_in_bounds, room_for, most_records}
use Rattle.words.proofs.BoolLaws.{and_split, and_false}
use Rattle.words.proofs.ListLaws.{over_sets, over_none, sets_append}
use Rattle.words.proofs.WordLaws.{Sizes, sizes_in_bounds_true}
use Rattle.rules.specs.Tables.{Tables, in_bounds, room_of}
use Rattle.rules.specs.Sound.{sound_test}
use Rattle.rules.specs.Answers.{by_number}
use Rattle.rules.specs.Refusals.{first, refusal_number, table_rows}
use Rattle.rules.specs.Steps.{Outcome, raw, step}
use Rattle.rules.specs.Demands.{Apart, Good}
use Rattle.rules.proofs.BoundsLaws.{AsLong, as_long, as_long_too, sizes_fit_of, in_bounds_both}
use Rattle.rules.proofs.GuardLaws.{guarded_is, guarded_none}
use Rattle.rules.proofs.Kept.{good_passes, good_step, step_lengths}
use Rattle.rules.proofs.Promises.{test_means_sound}
use Rattle.rules.proofs.RefusalLaws.{tests_past, number_not_0}
use Rattle.answer_words.specs.AnswerWords.{answer_words}
use Rattle.answer_words.proofs.AnswerWordLaws.{answer_words_length}
use Rattle.batch_record.specs.declared.Record.{Record}
use Rattle.batch_record.specs.Records.{step_of, part_rows, raw_record, step_record, Turns}
use Rattle.batch_record.proofs.RecordLaws.{record_room}
use Rattle.batch.specs.Batches.{no_record, record_at, one_by_one, last_tables, all_answers, all_words, has_room}
use Rattle.batch.specs.Batches.{call_rows, done, refused, called, batched, Batches}
use Rattle.std.specs.Prelude.{Ok, Err}
use Rattle.rules.specs.declared.Refusal.{Refusal}

-- ---- a call that is not refused

pub record Roomy (F : Form) (T P n m k : ℕ) : Type 0 where
  pub sizes : Sizes F T P
  pub few : n ≤ most_records
  pub report : n * room_for T P ≤ m
  pub answers : 4 * n ≤ k

pub has_room_true : (F : Form) (T P n m k : ℕ) → has_room F T P n m k ≡ true → Roomy F T P n m k
unfolding has_room
has_room_true F T P n m k e =
    let (a, d) = and_split _ (leb (4 * n) k) e in
    let (b, c) = and_split _ (leb (n * room_for T P) m) a in
    let (x, y) = and_split (sizes_in_bounds F T P) (leb n most_records) b in
    record {
      sizes = sizes_in_bounds_true F T P x;
      few = leb-true n most_records y;
      report = leb-true (n * room_for T P) m
          c;
      answers = leb-true (4 * n) k d;
    }

-- the test, in its order
module _ (F : Form) (T P n m k : ℕ) where
  pub room_no_sizes : sizes_in_bounds F T P ≡ false → false ≡ has_room F T P n m k
  unfolding has_room
  room_no_sizes e = rw e

  pub room_too_many : most_records < n → false ≡ has_room F T P n m k
  unfolding has_room
  room_too_many h = rw (lt-leb n most_records h, and_false)

  pub room_rest : sizes_in_bounds F T P ≡ true → n ≤ most_records
      → (leb (n * room_for T P) m && leb (4 * n) k) ≡ has_room F T P n m k
  unfolding has_room
  room_rest e h = rw (e, le-leb n most_records h)

module _ (F : Form) (s : Tables) (n m k : ℕ) (e : first (call_rows F s n m k) ≡ 0) where
  call_rows_none : (has_room F (length s.tasks) (length s.promises) n m k ≡ true) × (sound_test F.base s ≡ true)
  call_rows_none =
      let (a, b, z) = tests_past (has_room F (length s.tasks) (length s.promises) n m k) (sound_test F.base s)
      _ (eqb-false 1 0 refl) (eqb-false 2 0 refl) e in
      (a, b)

  pub call_roomy : Roomy F (length s.tasks) (length s.promises) n m k
  call_roomy = has_room_true F (length s.tasks) (length s.promises) n m k call_rows_none.0

  pub call_good : Apart F → Good F s
  call_good apart =
      let b = call_roomy.sizes in
      record {
        sizes = sizes_fit_of F s b;
        sound = test_means_sound F.base s (omega (arith, apart, b.tasks)) call_rows_none.1;
      }

-- ---- the two outcomes of a call

module _ (F : Form) (list : List ℕ) (s : Tables) (rs : List Record) (m k : ℕ) where
  -- the refusal of the call, or 0
  abbrev pub why : ℕ
  why = first (call_rows F s (length rs) m k)

  pub taken_all : why ≡ 0 → batched F list s rs m k ≡ done s
      (one_by_one F (room_for (length s.tasks) (length s.promises)) list s rs)
  unfolding called
  taken_all e = rw (eq-eqb why 0 e)

  pub refused_all : why ≢ 0 → batched F list s rs m k ≡ refused why s
  unfolding called
  refused_all h = rw (ne_eqb why 0 h)

-- ---- a record's step on good tables

module _ (F : Form) (apart : Apart F) (list : List ℕ) (s : Tables) (r : Record) (g : Good F s) where
  -- with a report that has room
  pub record_raw : (n : ℕ) → room_of s ≤ n → step_record F n list s r ≡ raw_record F list s r
  record_raw n room =
      guarded_none _ (first (table_rows F n s)) s (raw_record F list s r) (good_passes F apart n s g room)

  -- whatever holds of the tables before, and after each step of them
  record_by_lem : (Q : Tables → Type 0) → Q s → Q (step F (room_of s) s (step_of list r)).after
      → Q (raw_record F list s r).after
  record_by_lem Q before after =
      let passed = good_passes F apart (room_of s) s g (omega arith) in
      let same = guarded_none by_number (first (table_rows F (room_of s) s)) s (raw F s (step_of list r)) passed in
      guarded_is _ (first (part_rows list r)) s (raw F s (step_of list r)) Q before
      (λ e. subst (λ (o : Outcome). Q o.after) same after)

  pub record_good : Good F (raw_record F list s r).after
  record_good = record_by_lem (Good F) g (good_step F apart (room_of s) s (step_of list r) g)

  pub record_lengths : AsLong (raw_record F list s r).after s
  record_lengths =
      record_by_lem (λ (x : Tables). AsLong x s) (as_long s) (step_lengths F apart (room_of s) s (step_of list r))

  -- whatever the report
  pub record_step_good : (n : ℕ) → Good F (step_record F n list s r).after
  record_step_good n = guarded_is _ (first (table_rows F n s)) s (raw_record F list s r) (Good F) g (λ e. record_good)

-- ---- lengths

pub one_by_one_length : (F : Form) (n : ℕ) (list : List ℕ) (s : Tables) (rs : List Record)
    → length (one_by_one F n list s rs) ≡ length rs
unfolding one_by_one
one_by_one_length F n list s [] = refl
one_by_one_length F n list s (r ∷ rs) = ap suc (one_by_one_length F n list (step_record F n list s r).after rs)

pub all_answers_length : (os : List Outcome) → length (all_answers os) ≡ 4 * length os
unfolding all_answers
all_answers_length [] = refl
all_answers_length (o ∷ os) = rw length-append (omega (arith, answer_words_length o.answer, all_answers_length os))

-- ---- the loop

-- one record more, and no more
module _ (F : Form) (n : ℕ) (list : List ℕ) (s : Tables) (rs : List Record) (i : ℕ) where
  one_more : i < length rs → one_by_one F n list s (drop i rs)
      ≡ step_record F n list s (record_at rs i)
      ∷ one_by_one F n list (step_record F n list s (record_at rs i)).after (drop (i + 1) rs)
  unfolding one_by_one
  one_more h =
      let x = step_record F n list s (record_at rs i) in
      ap (λ (l : List Record). one_by_one F n list s l) (drop-cons rs i no_record h)
      ∙ ap (λ (k : ℕ). x ∷ one_by_one F n list x.after (drop k rs)) (sym (add-one i))

  no_more : length rs ≤ i → one_by_one F n list s (drop i rs) ≡ []
  unfolding one_by_one
  no_more h = rw (drop_of_length-le rs {i = i} h)

-- a part of a product
one_less : (a n : ℕ) → 0 < a → a * n ≡ n + (a - 1) * n
one_less zero n h = absurd (omega arith)
one_less (suc a) n h =
    let k : (suc a - 1) * n ≡ a * n = ap (λ (x : ℕ). x * n) (omega arith) in
    omega (arith, suc-mul a n, k)

module _ (F : Form) (apart : Apart F) (list : List ℕ) (rs : List Record) (s₀ : Tables) (rep₀ ans₀ : List ℕ) where
  abbrev own : ℕ
  own = room_of s₀

  -- what all records make
  abbrev all : List Outcome
  all = one_by_one F own list s₀ rs

  -- what the records from the i-th on make of the tables s
  abbrev rest : ℕ → Tables → List Outcome
  rest i s = one_by_one F own list s (drop i rs)

  -- before the i-th record, with the report's words given up to `at`
  pub record Going (i at : ℕ) (s : Tables) (rep ans : List ℕ) : Type 0 where
    pub few : length rs ≤ most_records
    pub within : i ≤ length rs
    pub good : Good F s
    pub sizes : AsLong s s₀
    pub lengths : (length rep ≡ length rep₀) × (length ans ≡ length ans₀)
    pub room : at + (length rs - i) * own ≤ length rep₀
    pub answered : 4 * length rs ≤ length ans₀
    pub same : last_tables s (rest i s) ≡ last_tables s₀ all
    pub counted : at + length (all_words (rest i s)) ≡ length (all_words all)
    pub words : sets rep at (all_words (rest i s)) ≡ sets rep₀ 0 (all_words all)
    pub answers : sets ans (4 * i) (all_answers (rest i s)) ≡ sets ans₀ 0 (all_answers all)

  pub going_start : first (call_rows F s₀ (length rs) (length rep₀) (length ans₀)) ≡ 0 → Going 0 0 s₀ rep₀ ans₀
  going_start e =
      let r = call_roomy F s₀ (length rs) (length rep₀) (length ans₀) e in
      let all_left : (length rs - 0) * own ≡ length rs * own = ap (λ (x : ℕ). x * own) (omega arith) in
      record {
        few = r.few;
        within = omega arith;
        good = call_good F s₀ (length rs) (length rep₀) (length ans₀) e apart;
        sizes = as_long s₀;
        lengths = (refl, refl);
        room = omega (arith, r.report, all_left);
        answered = r.answers;
        same = refl;
        counted = omega arith;
        words = refl;
        answers = refl;
      }

  -- the tables are as long as those lent, so their reports need the same room
  going_room : {i at : ℕ} {s : Tables} {rep ans : List ℕ} → Going i at s rep ans → room_of s ≤ own
  going_room g = omega (arith, g.sizes.tasks, g.sizes.promises)

  -- what is asked of the i-th turn
  pub going_asks : {i at : ℕ} {s : Tables} {rep ans : List ℕ} → Going i at s rep ans → i < length rs
      → (in_bounds F (length rep - at) s ≡ true) × (at ≤ length rep) × (4 * i + 4 ≤ length ans)
  going_asks {i} {at} {s} {rep} {ans} g h =
      let turn = one_less (length rs - i) own (omega arith) in
      let fits : at + own ≤ length rep = omega (arith, g.room, g.lengths.0, turn) in (
        in_bounds_both F (length rep - at) s g.good.sizes (omega (arith, going_room g)),
        omega arith,
        omega (arith, g.answered, g.lengths.1),
      )

  -- the i-th turn
  module _ {i at : ℕ} {s : Tables} {rep ans : List ℕ} (g : Going i at s rep ans) (h : i < length rs) where
    abbrev o : Outcome
    o = raw_record F list s (record_at rs i)

    abbrev left : List Outcome
    left = rest (i + 1) o.after

    its_own : rest i s ≡ o ∷ left
    its_own =
        subst (λ (x : Outcome). rest i s ≡ x ∷ rest (i + 1) x.after)
        (record_raw F apart list s (record_at rs i) g.good own (going_room g)) (one_more F own list s rs i h)

    took_room : at + length o.words + (length rs - (i + 1)) * own ≤ length rep₀
    took_room =
        let turn = one_less (length rs - i) own (omega arith) in
        let k : (length rs - i - 1) * own ≡ (length rs - (i + 1)) * own = ap (λ (a : ℕ). a * own) (omega arith) in
        omega (arith, g.room, turn, k, record_room F list s (record_at rs i), going_room g)

    took_tables : last_tables o.after left ≡ last_tables s₀ all
    unfolding last_tables
    took_tables = sym (ap (last_tables s) its_own) ∙ g.same

    took_counted : at + length o.words + length (all_words left) ≡ length (all_words all)
    unfolding all_words
    took_counted = omega (
      arith,
      g.counted,
      ap (λ (os : List Outcome). length (all_words os)) its_own,
      length-append
          o.words (all_words left),
    )

    took_words : sets (sets rep at o.words) (at + length o.words) (all_words left) ≡ sets rep₀ 0 (all_words all)
    unfolding all_words
    took_words = sym (sets_append rep at o.words (all_words left))
        ∙ sym (ap (λ (os : List Outcome). sets rep at (all_words os)) its_own) ∙ g.words

    took_answers : sets (sets ans (4 * i) (answer_words o.answer)) (4 * (i + 1)) (all_answers left) ≡ sets ans₀ 0
        (all_answers all)
    unfolding all_answers
    took_answers =
        let k : 4 * (i + 1) ≡ 4 * i + length (answer_words o.answer) = omega
        (arith, answer_words_length o.answer) in
        ap (λ (a : ℕ). sets (sets ans (4 * i) (answer_words o.answer)) a (all_answers left)) k
        ∙ sym (sets_append ans (4 * i) (answer_words o.answer) (all_answers left))
        ∙ sym (ap (λ (os : List Outcome). sets ans (4 * i) (all_answers os)) its_own) ∙ g.answers

    took : Going (i + 1) (at + length o.words) o.after (sets rep at o.words)
        (sets ans (4 * i) (answer_words o.answer))
    took =
        let l = record_lengths F apart list s (record_at rs i) g.good in
        record {
          few = g.few;
          within = omega arith;
          good = record_good F apart list s (record_at rs i) g.good;
          sizes = as_long_too l g.sizes;
          lengths = (
            length-sets rep at o.words ∙ g.lengths.0,
            length-sets ans (4 * i) (answer_words o.answer)
                ∙ g.lengths.1,
          );
          room = took_room;
          answered = g.answered;
          same = took_tables;
          counted = took_counted;
          words = took_words;
          answers = took_answers;
        }

    pub going_turn : (r : Record) {next : ℕ} {s' : Tables} {rep' ans' : List ℕ} → r ≡ record_at rs i
        → Turns (raw_record F list s r) at i rep ans next s' rep' ans' → Going (i + 1) next s' rep' ans'
    going_turn r {next} {s'} {rep'} {ans'} e t =
        let u = subst (λ (q : Record). Turns (raw_record F list s q) at i rep ans next s' rep' ans') e t in
        rw (u.next_at, u.after, u.report, u.answers) took

  -- ---- the two ways out

  pub call_refused : {r : Refusal} → refusal_number r ≡ first (call_rows F s₀ (length rs) (length rep₀) (length ans₀))
      → Batches (batched F list s₀ rs (length rep₀) (length ans₀)) rep₀ ans₀ (Err r) s₀ rep₀ ans₀
  call_refused {r} e =
      rw (refused_all F list s₀ rs (length rep₀) (length ans₀) (λ z. number_not_0 r (e ∙ z)), ← e)
      (record { answer = refl; after = refl; report = sym (over_none rep₀); answers = sym (over_none ans₀) })

  pub going_end : {i at : ℕ} {s : Tables} {rep ans : List ℕ}
      → first (call_rows F s₀ (length rs) (length rep₀) (length ans₀)) ≡ 0 → Going i at s rep ans → length rs ≤ i
      → Batches (batched F list s₀ rs (length rep₀) (length ans₀)) rep₀ ans₀ (Ok at) s rep ans
  unfolding last_tables all_words all_answers
  going_end {i} {at} {s} {rep} {ans} e g h =
      let z : rest i s ≡ [] = no_more F own list s rs i h in
      let last : s ≡ last_tables s₀ all = sym (ap (last_tables s) z) ∙ g.same in
      let count : at ≡ length (all_words all) = omega
      (arith, g.counted, ap (λ (os : List Outcome). length (all_words os)) z) in
      let answers_fit : length (all_answers all) ≤ length ans₀ = omega
      (arith, all_answers_length all, one_by_one_length F own list s₀ rs, g.answered) in
      rw (taken_all F list s₀ rs (length rep₀) (length ans₀) e) (record {
        answer = ap Ok count;
        after = last;
        report = sym (ap (λ (os : List Outcome). sets rep at (all_words os)) z) ∙ g.words
            ∙ sym (over_sets (all_words all) rep₀ (omega (arith, g.room, count)));
        answers = sym (ap (λ (os : List Outcome). sets ans (4 * i) (all_answers os)) z) ∙ g.answers
            ∙ sym (over_sets (all_answers all) ans₀ answers_fit);
      })
