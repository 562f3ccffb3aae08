-- 01, "How much each contract must say": any two outcomes that the contract of `put_answer` allows coincide, the
-- bytes after the LF included. That every answer has room in the lent line is `step_answer_fits`, `refused_fits` and
-- `opened_fits` of Fits.antt, and that it shows no word of an older report is `shown_words` there.
-- Assumes nothing.
use Prim.Native.Nat.{ℕ, ◌*◌}
use mathlib.Core.List.{List, [], ◌∷◌, ◌++◌, append-nil}
use mathlib.Core.Path.{◌≡◌, refl}
use native.Mathlib.Omega.{arith}
use lib.ListN.{length}
use lib.Seq.{take-append_seam, drop-append_seam, take_all}
use Rattle.text_buffers.specs.Buffers.{Wrote}
use Rattle.text_buffers.proofs.Theorems.{wrote_unique}
use Rattle.text_fields.specs.Fields.{tab, line_end}
use Rattle.text_numbers.specs.Numbers.{dec}
use Rattle.text_writers.specs.Texts.{fields_text}
use Rattle.rules.specs.declared.Answer.{Answer}
use Rattle.rules.specs.declared.Answer.TheVariants.{Set, Cycle, Ended, RefusedAt, RefusedBlamed, RefusedBlamedAt}
use Rattle.rules.specs.Answers.{laid, number_of, values_of}
use Rattle.rules.specs.Demands.{Refusal, plain, placed, blamed, blamed_at}
use Rattle.answer_text.specs.AnswerText.{refused_text, word_for, fields_in, fields_of, answer_text}

-- a refusal shows its number and its values, and nothing else
pub refusal_shown : {a : Answer} (rs : List ℕ) → Refusal a → fields_of a rs ≡ number_of a ∷ values_of a
unfolding laid fields_in
refusal_shown rs (plain r) = refl
refusal_shown rs (placed r i) = refl
refusal_shown rs (blamed b) = refl
refusal_shown rs (blamed_at i b) = refl

-- `set n tasks..`, `cycle k pairs..`, `ended m promises.. n tasks..`: each count stands before the words that it
-- counts, and all words are shown
pub set_shown : (tasks : List ℕ) → fields_of (Set (length tasks)) tasks ≡ length tasks ∷ tasks
unfolding laid fields_in
set_shown tasks = rw (take_all (length tasks) tasks (omega arith), append-nil tasks, append-nil tasks)

pub cycle_shown : (k : ℕ) (pairs : List ℕ) → length pairs ≡ 2 * k → fields_of (Cycle k) pairs ≡ k ∷ pairs
unfolding laid fields_in
cycle_shown k pairs h = rw (take_all (2 * k) pairs (omega arith), append-nil pairs, append-nil pairs)

pub ended_shown : (promises tasks : List ℕ)
    → fields_of (Ended (length promises) (length tasks)) (promises ++ tasks) ≡ (length promises ∷ promises)
    ++ length tasks ∷ tasks
unfolding laid fields_in
ended_shown promises tasks =
    rw (take-append_seam promises tasks, drop-append_seam promises tasks, take_all (length tasks) tasks (omega arith))
    (append-nil _)

-- `refused r i`: the number of the line, the word and both numbers, with tabs between them and an LF at the end
pub placed_text : (n r i : ℕ) (rs : List ℕ)
    → answer_text n (RefusedAt r i) rs ≡ dec n ++ tab ∷ (refused_text ++ tab ∷ (dec r ++ tab ∷ dec i) ++ line_end ∷ [])
unfolding laid answer_text word_for fields_in fields_text
placed_text n r i rs = rw (append-nil (tab ∷ dec i))

-- `refused 17 b`, and `refused 17 i b` for an entry
pub blamed_text_lem : (n b : ℕ) (rs : List ℕ)
    → answer_text n (RefusedBlamed b) rs
    ≡ dec n ++ tab ∷ (refused_text ++ tab ∷ (dec 17 ++ tab ∷ dec b) ++ line_end ∷ [])
unfolding laid answer_text word_for fields_in fields_text
blamed_text_lem n b rs = rw (append-nil (tab ∷ dec b))

pub blamed_at_text : (n i b : ℕ) (rs : List ℕ)
    → answer_text n (RefusedBlamedAt i b) rs ≡ dec n ++ tab
    ∷ (refused_text ++ tab ∷ (dec 17 ++ tab ∷ (dec i ++ tab ∷ dec b)) ++ line_end ∷ [])
unfolding laid answer_text word_for fields_in fields_text
blamed_at_text n i b rs = rw (append-nil (tab ∷ dec b))

pub put_answer_unique : (n : ℕ) (a : Answer) (rs : List ℕ) {o x y : List ℕ} {r q : ℕ} → Wrote (answer_text n a rs) o x r
    → Wrote (answer_text n a rs) o y q
    → (x ≡ y) × (r ≡ q)
put_answer_unique n a rs v w = wrote_unique v w
