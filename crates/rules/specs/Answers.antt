-- The paper's number and values for each answer. Paper: 01, "The five steps", "Refusals by number", "Lines"; 02, 3/13.
--
--   laid a                 the layout of an answer: whether it refuses, its number, and its values, each with how
--                          many words of the report follow it. All else is read off it: both forms of an answer, in
--                          four words and as a line
--   number_of a            a refusal's number; for any other answer a number of ours, from 100 on
--   value_of p, words_of p what stands in one of the four words, and how many words of the report follow it; 0 for none
--   values_of a            the counts and numbers that the answer carries, in the order of the answer line
--   word_count a           how many words of the report are the answer's own
--   answer_of n vs         the answer that a number and values tell
--   SameWords a a'         the four words of two answers, number and values, are the same: 0 where there is no value
--   by_number r            the refusal by r, which tells nothing else
--   refused_with b r       the refusal by r, where b is the task to blame
--   refused_at_with b i r  the refusal by r of the list entry at the place i, where b is the task to blame
-- Assumes nothing.
use Rattle.std.specs.Prelude.{ℕ, ◌+◌, ◌*◌, ◌-◌, ◌≡◌, List, [], ◌∷◌, ◌++◌, Bool, true, false, cond, eqb, ltb, get_or}
use Rattle.std.specs.Prelude.{Option, Some, None}
use Rattle.rules.specs.declared.Part.{Part}
use Rattle.rules.specs.declared.Layout.{Layout}
use Rattle.rules.specs.declared.Answer.{Answer}
use Rattle.rules.specs.declared.Answer.TheVariants.{Opened, Made, Set, Value, Blamed, Waits, Cycle, Started}
use Rattle.rules.specs.declared.Answer.TheVariants.{Ended, Refused, RefusedAt, RefusedBlamed, RefusedBlamedAt}

-- a value that k words of the report follow
abbrev pub part : ℕ → ℕ → Option Part
part v k = Some (record { value = v; words = k })

abbrev pub layout : Bool → ℕ → Option Part → Option Part → Option Part → Layout
layout b n p q r = record { refuses = b; number = n; first = p; second = q; third = r }

abbrev pub with_none : Bool → ℕ → Layout
with_none b n = layout b n None None None

abbrev pub with_one : Bool → ℕ → ℕ → ℕ → Layout
with_one b n v k = layout b n (part v k) None None

abbrev pub with_two : Bool → ℕ → ℕ → ℕ → ℕ → ℕ → Layout
with_two b n v k w l = layout b n (part v k) (part w l) None

unfoldable pub laid : Answer → Layout
laid Opened = with_none false 100
laid Made = with_none false 101
laid (Set n) = with_one false 102 n n
laid Value = with_none false 103
laid (Blamed b) = with_one false 104 b 0
laid (Waits k) = with_one false 105 k 0
laid (Cycle k) = with_one false 106 k (2 * k)
laid Started = with_none false 107
laid (Ended m n) = with_two false 108 m m n n
laid (Refused r) = with_none true r
laid (RefusedAt r i) = with_one true r i 0
laid (RefusedBlamed b) = with_one true 17 b 0
laid (RefusedBlamedAt i b) = with_two true 17 i 0 b 0

abbrev pub number_of : Answer → ℕ
number_of a = (laid a).number

-- 0 where there is no value
abbrev pub value_of : Option Part → ℕ
value_of None = 0
value_of (Some p) = p.value

abbrev pub words_of : Option Part → ℕ
words_of None = 0
words_of (Some p) = p.words

abbrev pub value_in : Option Part → List ℕ
value_in None = []
value_in (Some p) = p.value ∷ []

abbrev pub values_of : Answer → List ℕ
values_of a = value_in (laid a).first ++ value_in (laid a).second ++ value_in (laid a).third

abbrev pub word_count : Answer → ℕ
word_count a = words_of (laid a).first + words_of (laid a).second + words_of (laid a).third

-- the answer that a number and values tell
unfoldable pub refusal_of : ℕ → List ℕ → Answer
refusal_of r [] = Refused r
refusal_of r (v ∷ []) = cond (eqb r 17) (RefusedBlamed v) (RefusedAt r v)
refusal_of r (v ∷ w ∷ vs) = RefusedBlamedAt v w

-- in the order of their numbers
abbrev pub accepted : ℕ → ℕ → List Answer
accepted v w = Opened ∷ Made ∷ Set v ∷ Value ∷ Blamed v ∷ Waits v ∷ Cycle v ∷ Started ∷ Ended v w ∷ []

unfoldable pub answer_of : ℕ → List ℕ → Answer
answer_of n vs = cond (ltb n 100) (refusal_of n vs) (get_or (accepted (get_or vs 0 0) (get_or vs 1 0)) (n - 100) Opened)

-- the four words of two answers, for callers that know numbers alone; a value that is not there is 0
pub record SameWords (a a' : Answer) : Type 0 where
  pub number : (laid a).number ≡ (laid a').number
  pub first : value_of (laid a).first ≡ value_of (laid a').first
  pub second : value_of (laid a).second ≡ value_of (laid a').second
  pub third : value_of (laid a).third ≡ value_of (laid a').third

-- by its number alone
abbrev pub by_number : ℕ → Answer
by_number r = Refused r

-- "17 with the blamed task (and for async the place before it)"; any other refusal has its number, and its place, alone
unfoldable pub refused_with : ℕ → ℕ → Answer
refused_with b r = cond (eqb r 17) (RefusedBlamed b) (Refused r)

unfoldable pub refused_at_with : ℕ → ℕ → ℕ → Answer
refused_at_with b i r = cond (eqb r 17) (RefusedBlamedAt i b) (RefusedAt r i)
