-- Every answer line has room in the lent one. A line number has at most 6 digits and a word at most 7 bytes; the
-- fields of a step's answer are at most 324 numbers below 1000, since they are numbers and places of tables that were
-- found within their bounds and sound, or the number of a refusal. So the line has at most 1,311 bytes. It shows the
-- words of its own step alone (`shown_words`). A bad line's answer has two numbers of at most six digits
-- (`placed_fits`).
-- Assumes nothing.
use Prim.Native.Nat.{ℕ, zero, suc, ◌+◌, ◌*◌, ◌≤◌, ◌<◌}
use mathlib.Core.List.{List, [], ◌∷◌}
use mathlib.Core.Logic.{◌⊎◌, inl, inr}
use mathlib.Core.Bool.{Bool, true, false, cond, ◌&&◌}
use mathlib.Core.Path.{◌≡◌, refl, sym, subst}
use native.Mathlib.Omega.{arith}
use lib.Dec.{eqb, leb, ltb}
use borrow.Author.Tests.{leb-true, ltb-true}
use lib.ListN.{length, get_or, length-append}
use Rattle.words.specs.Words.{Form, of_lines, waits_on, owned_by, last_line, longest_answer}
use Rattle.words.specs.Lists.{is, places, over}
use Rattle.words.proofs.ListLaws.{places_at, places_length, count_le, all_pass, in_passes}
use Rattle.words.proofs.BoolLaws.{and_split}
use Rattle.rules.proofs.BoundsLaws.{in_bounds_true}
use Rattle.rules.specs.Chains.{view, awaited_by, owner_of}
use Rattle.rules.specs.Tables.{Tables, task_at, promise_at, live, blamed_task}
use Rattle.rules.specs.Sound.{TaskWord, unused, ready, ended, waits, PromiseWord, unmade, done, owned, blamed, Sound}
use Rattle.rules.specs.Answers.{laid, number_of, values_of}
use Rattle.rules.specs.Refusals.{first, table_rows, get_rows, entry_refusal, first_bad}
use Rattle.rules.specs.Steps.{Step, step_new, step_set, step_get, step_async, step_end, Outcome, outcome, awaits}
use Rattle.rules.specs.Steps.{with_wait, pairs, followed, rows, step_refused, effect, raw, step}
use Rattle.rules.specs.Demands.{paper_numbers, Refusal}
use Rattle.rules.specs.declared.Answer.{Answer}
use Rattle.rules.specs.declared.Answer.TheVariants.{Opened, Refused, RefusedAt}
use Rattle.rules.proofs.GuardLaws.{guarded_by, started_by}
use Rattle.rules.proofs.Accepted.{got_is}
use Rattle.rules.proofs.AnswerLaws.{Accepted, accepted_or_refused, with_by, at_with_by}
use Rattle.rules.proofs.Counts.{pairs_length}
use Rattle.rules.proofs.GivesLaws.{table_rows_none}
use Rattle.rules.proofs.PlaceLaws.{first_bad_place}
use Rattle.rules.proofs.RefusalLaws.{actor_rows_none, get_rows_none}
use Rattle.rules.proofs.SoundTest.{chain_bound}
use Rattle.rules.proofs.Promises.{test_means_sound, refused_by_a_number_of_its_own, the_answer_counts_its_words}
use Rattle.text_numbers.proofs.PrintLaws.{dec_six}
use Rattle.text_writers.specs.Texts.{fields_text, Every, no_more, one_more}
use Rattle.text_writers.proofs.WriterLaws.{fields_text_four, every_append}
use Rattle.answer_text.specs.AnswerText.{word_table, looked_up, word_for, fields_in, fields_of, answer_text}
use Rattle.answer_text.proofs.ShownLaws.{fields_of_over, fields_of_length, fields_of_every, every_in}

abbrev Low : ℕ → Type 0
Low n = n < 1000

-- ---- the bytes of a line

short : List (ℕ × List ℕ) → Bool
short [] = true
short ((k, w) ∷ ws) = leb (length w) 7 && short ws

looked_up_short : (ws : List (ℕ × List ℕ)) (n : ℕ) → short ws ≡ true → length (looked_up ws n) ≤ 7
unfolding looked_up short
looked_up_short [] n h = omega arith
looked_up_short ((k, w) ∷ ws) n h = let (l, m) = and_split (leb (length w) 7) (short ws) h in
    go (eqb n k) (leb-true (length w) 7 l) (looked_up_short ws n m)
  where
    go : (b : Bool) → length w ≤ 7 → length (looked_up ws n) ≤ 7 → length (cond b w (looked_up ws n)) ≤ 7
    go true l m = l
    go false l m = m

word_for_length : (b : Bool) (n : ℕ) → length (word_for b n) ≤ 7
unfolding word_for short
word_for_length true n = omega arith
word_for_length false n = looked_up_short word_table n refl

text_fits : (n : ℕ) (a : Answer) (rs : List ℕ) → n ≤ last_line → length (fields_text (fields_of a rs)) ≤ 4 * 324
    → length (answer_text n a rs) ≤ longest_answer
unfolding answer_text
text_fits n a rs h few =
    rw (length-append, length-append, length-append)
    (omega (arith, dec_six n (omega arith), word_for_length (laid a).refuses (laid a).number))

low_fits : (n : ℕ) (a : Answer) (rs : List ℕ) → n ≤ last_line → Every Low (fields_of a rs)
    → length (fields_of a rs) ≤ 324
    → length (answer_text n a rs) ≤ longest_answer
low_fits n a rs h low few = text_fits n a rs h (omega (arith, fields_text_four (fields_of a rs) low))

pub refused_fits : (n r : ℕ) (rs : List ℕ) → n ≤ last_line → r < 1000
    → length (answer_text n (Refused r) rs) ≤ longest_answer
unfolding laid fields_in
refused_fits n r rs h l = low_fits n (Refused r) rs h (one_more l no_more) (omega arith)

pub placed_fits : (n r i : ℕ) (rs : List ℕ) → n ≤ last_line → r < 1000000 → i < 1000000
    → length (answer_text n (RefusedAt r i) rs) ≤ longest_answer
unfolding laid fields_in fields_text
placed_fits n r i rs h k l =
    text_fits n (RefusedAt r i) rs h
    (rw (length-append, length-append) (omega (arith, dec_six r (omega arith), dec_six i (omega arith))))

pub opened_fits : (n : ℕ) (rs : List ℕ) → n ≤ last_line → length (answer_text n Opened rs) ≤ longest_answer
unfolding laid fields_in
opened_fits n rs h = low_fits n Opened rs h no_more (omega arith)

-- ---- its words are its own

-- the line of a step shows the step's own words, and none that the report held before
pub shown_words : (F : Form) (n : ℕ) (s : Tables) (x : Step) (rs : List ℕ)
    → fields_of (step F n s x).answer (over (step F n s x).words rs) ≡ fields_of (step F n s x).answer
    (step F n s x).words
shown_words F n s x rs =
    fields_of_over (step F n s x).answer (step F n s x).words rs (omega (arith, the_answer_counts_its_words F n s x))

-- ---- its numbers are small

-- the values and the report words of an outcome
record Modest (o : Outcome) : Type 0 where
  pub values : Every Low (values_of o.answer)
  pub words : Every Low o.words
  pub few : length o.words ≤ 320

-- without words
modest : {a : Answer} (s : Tables) → Every Low (values_of a) → Modest (outcome a s [])
modest s v = record { values = v; words = no_more; few = omega arith }

-- the places of a table
places_low : (f : ℕ → Bool) (ws : List ℕ) → length ws ≤ of_lines.most_promises → Every Low (places f 0 ws)
places_low f ws h = every_in Low (places f 0 ws) (λ x i. omega (arith, (places_at f 0 ws x i).within))

places_few : (f : ℕ → Bool) (ws : List ℕ) → length ws ≤ of_lines.most_promises → Low (length (places f 0 ws))
places_few f ws h = omega (arith, places_length f 0 ws)

-- what a step of sound tables within their bounds answers
module _ (s : Tables) (tasks : length s.tasks ≤ of_lines.most_tasks)
    (promises : length s.promises ≤ of_lines.most_promises) (sd : Sound of_lines.base s) where
  promise_low : (p : ℕ) → Low (promise_at s p)
  promise_low p = go (sd.promise_word p)
    where
      go : PromiseWord (length s.tasks) of_lines.base (promise_at s p) → Low (promise_at s p)
      go (unmade e) = omega arith
      go (done e) = omega arith
      go (owned t h e) = omega arith
      go (blamed t h e) = omega arith

  owner_low : (p : ℕ) → Low (owner_of (view s) p)
  owner_low p = omega (arith, promise_low p)

  awaited_low : (t : ℕ) → Low (awaited_by (view s) t)
  awaited_low t = go (sd.task_word t)
    where
      go : TaskWord (length s.promises) (task_at s t) → Low (awaited_by (view s) t)
      go (unused e) = omega arith
      go (ready e) = omega arith
      go (ended e) = omega arith
      go (waits p h e) = omega arith

  blamed_low : (p : ℕ) → Low (blamed_task of_lines.base s p)
  blamed_low p = omega (arith, promise_low p)

  pairs_low : (k t p : ℕ) → Low t → Low p → Every Low (pairs k (view s) t p)
  unfolding pairs
  pairs_low zero t p a b = no_more
  pairs_low (suc k) t p a b =
      one_more a
      (one_more b (pairs_low k (owner_of (view s) p) (awaited_by (view s) (owner_of (view s) p)) (owner_low p)
      (awaited_low (owner_of (view s) p))))

  get_modest : (t p : ℕ) → first (rows of_lines s (step_get t p)) ≡ 0 → Modest (effect of_lines s (step_get t p))
  unfolding followed laid
  get_modest t p e =
      let (a, e₁) = actor_rows_none s.tasks t (get_rows s.promises p) e in
      let (b, m) = get_rows_none s.promises p e₁ in
      got_is of_lines s (omega arith) sd t p Modest a.ready b m
      (λ x. modest s no_more)
      (λ b h x. modest s (one_more (omega arith) no_more))
      (λ u l h o c z.
      let k = chain_bound s c in
      let live-most = count_le live s.tasks in
      record {
        values = one_more (omega arith) no_more;
        words = pairs_low (1 + length l) t p (omega (arith, a.below)) (omega arith);
        few = omega (arith, pairs_length (1 + length l) (view s) t p);
      })
      (λ u l h o c z. modest (with_wait s t p)
      (one_more (omega (arith, chain_bound s c, count_le live s.tasks)) no_more))

  refusal_modest : (x : Step) (r : ℕ) → Modest (outcome (step_refused of_lines s x r) s [])
  unfolding laid
  refusal_modest (step_new t p) r = modest s no_more
  refusal_modest (step_set t p) r =
      with_by (λ (a : Answer). Modest (outcome a s [])) _ r (λ z. modest s (one_more (blamed_low p) no_more))
      (λ z. modest s no_more)
  refusal_modest (step_get t p) r = modest s no_more
  refusal_modest (step_async t c list) r = modest s no_more
  refusal_modest (step_end t) r = modest s no_more

  effect_modest : (x : Step) → first (rows of_lines s x) ≡ 0 → Modest (effect of_lines s x)
  unfolding laid
  effect_modest (step_new t p) e = modest _ no_more
  effect_modest (step_set t p) e =
      record {
        values = one_more (places_few (is (waits_on p)) s.tasks (omega arith)) no_more;
        words = places_low (is (waits_on p)) s.tasks (omega arith);
        few = omega (arith, places_length (is (waits_on p)) 0 s.tasks);
      }
  effect_modest (step_get t p) e = get_modest t p e
  effect_modest (step_async t c list) e =
      let bad = first_bad (entry_refusal of_lines.base s.promises t list) (length list) 0 in
      let at : Low bad = omega (arith, first_bad_place of_lines.base s.promises t list (length list)) in
      started_by Modest of_lines.base s t c list bad
      (λ h. at_with_by (λ (a : Answer). Modest (outcome a s [])) _ bad _
      (λ z. modest s (one_more at (one_more (blamed_low (get_or list bad 0)) no_more)))
      (λ z. modest s (one_more at no_more)))
      (λ h. modest _ no_more)
  effect_modest (step_end t) e =
      let mine = is (owned_by t) in
      let theirs = awaits s.promises (owned_by t) in
      record {
        values = one_more (places_few mine s.promises promises)
            (one_more (places_few theirs s.tasks (omega arith)) no_more);
        words = every_append Low (places_low mine s.promises promises) (places_low theirs s.tasks (omega arith));
        few = rw length-append (omega (arith, places_length mine 0 s.promises, places_length theirs 0 s.tasks));
      }

-- refused or not, in whatever tables
step_modest : (m : ℕ) (s : Tables) (x : Step) → Modest (step of_lines m s x)
unfolding laid
step_modest m s x =
    guarded_by Modest _ (first (table_rows of_lines m s)) s (raw of_lines s x) (λ y. modest s no_more) within
  where
    within : first (table_rows of_lines m s) ≡ 0 → Modest (raw of_lines s x)
    within z =
        let (b, e) = table_rows_none of_lines m s z in
        let size = in_bounds_true of_lines m s b in
        let sd = test_means_sound of_lines.base s (omega (arith, size.tasks)) e in
        guarded_by Modest _ (first (rows of_lines s x)) s (effect of_lines s x)
        (λ y. refusal_modest s size.tasks size.promises sd x _)
        (λ y. effect_modest s size.tasks size.promises sd x y)

-- a refusal's number is one of the paper's, and any other is small
answer_low : (a : Answer) → (Refusal a → Low (number_of a)) → Low (number_of a)
answer_low a h = go (accepted_or_refused a)
  where
    go : Accepted a ⊎ Refusal a → Low (number_of a)
    go (inl c) = c.low
    go (inr w) = h w

papers_low : (x : Step) → all_pass (λ r. ltb r 1000) (paper_numbers x) ≡ true
papers_low (step_new t p) = refl
papers_low (step_set t p) = refl
papers_low (step_get t p) = refl
papers_low (step_async t c list) = refl
papers_low (step_end t) = refl

step_low : (m : ℕ) (s : Tables) (x : Step) → Low (number_of (step of_lines m s x).answer)
step_low m s x =
    answer_low (step of_lines m s x).answer
    (λ w. ltb-true (number_of (step of_lines m s x).answer) 1000
    (in_passes (λ r. ltb r 1000) (papers_low x) (refused_by_a_number_of_its_own of_lines m s x w)))

-- ---- so every answer of a step has room

pub step_answer_fits : (n m : ℕ) (s : Tables) (x : Step) (rs : List ℕ) → n ≤ last_line
    → length (answer_text n (step of_lines m s x).answer (over (step of_lines m s x).words rs)) ≤ longest_answer
step_answer_fits n m s x rs h =
    let o = step of_lines m s x in
    let d = step_modest m s x in
    let own = sym (shown_words of_lines m s x rs) in
    low_fits n o.answer (over o.words rs) h
    (subst (Every Low) own (fields_of_every Low o.answer o.words (step_low m s x) d.values d.words))
    (subst (λ (ns : List ℕ). length ns ≤ 324) own (omega (arith, fields_of_length o.answer o.words, d.few)))
