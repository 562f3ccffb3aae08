-- The text of an answer. Paper: 01, "Lines", "Answer fields", and "the answer's first field is the line number"; 02,
-- 3/13.
--
--   opened_text, ..     the words of the answers
--   word_of a           the word of the answer a, by its layout (`laid` of `rules`)
--   fields_of a rs      the numbers after it: the number of a refusal, and each value with its words; rs is the
--                       report, whose first words are the answer's own
--   answer_text n a rs  the whole answer line of line n, with its LF
-- Assumes nothing.
use Rattle.std.specs.Prelude.{ℕ, ◌+◌, List, [], ◌∷◌, ◌++◌, Bool, cond, eqb, Option, Some, None}
use Rattle.text_fields.specs.Fields.{tab, line_end}
use Rattle.text_numbers.specs.Numbers.{dec}
use Rattle.text_writers.specs.Texts.{fields_text, stretch_of}
use Rattle.rules.specs.Answers.{laid, words_of}
use Rattle.rules.specs.declared.Answer.{Answer}
use Rattle.rules.specs.declared.Part.{Part}
use Rattle.rules.specs.declared.Layout.{Layout}

-- "`opened`; `made`; `set n tasks..`; `value`; `blamed b`; `waits k`; `cycle k pairs..`; `started`; `ended m
-- promises.. n tasks..`; `refused r`"
abbrev pub opened_text : List ℕ
opened_text = 111 ∷ 112 ∷ 101 ∷ 110 ∷ 101 ∷ 100 ∷ []

abbrev pub made_text : List ℕ
made_text = 109 ∷ 97 ∷ 100 ∷ 101 ∷ []

abbrev pub set_text : List ℕ
set_text = 115 ∷ 101 ∷ 116 ∷ []

abbrev pub value_text : List ℕ
value_text = 118 ∷ 97 ∷ 108 ∷ 117 ∷ 101 ∷ []

abbrev pub blamed_text : List ℕ
blamed_text = 98 ∷ 108 ∷ 97 ∷ 109 ∷ 101 ∷ 100 ∷ []

abbrev pub waits_text : List ℕ
waits_text = 119 ∷ 97 ∷ 105 ∷ 116 ∷ 115 ∷ []

abbrev pub cycle_text : List ℕ
cycle_text = 99 ∷ 121 ∷ 99 ∷ 108 ∷ 101 ∷ []

abbrev pub started_text : List ℕ
started_text = 115 ∷ 116 ∷ 97 ∷ 114 ∷ 116 ∷ 101 ∷ 100 ∷ []

abbrev pub ended_text : List ℕ
ended_text = 101 ∷ 110 ∷ 100 ∷ 101 ∷ 100 ∷ []

abbrev pub refused_text : List ℕ
refused_text = 114 ∷ 101 ∷ 102 ∷ 117 ∷ 115 ∷ 101 ∷ 100 ∷ []

-- the word of each number from 100 on
abbrev pub word_table : List (ℕ × List ℕ)
word_table =
    (100, opened_text)
    ∷ (101, made_text)
    ∷ (102, set_text)
    ∷ (103, value_text)
    ∷ (104, blamed_text)
    ∷ (105, waits_text)
    ∷ (106, cycle_text)
    ∷ (107, started_text)
    ∷ (108, ended_text)
    ∷ []

unfoldable pub looked_up : List (ℕ × List ℕ) → ℕ → List ℕ
looked_up [] n = []
looked_up ((k, w) ∷ ws) n = cond (eqb n k) w (looked_up ws n)

unfoldable pub word_for : Bool → ℕ → List ℕ
word_for refuses n = cond refuses refused_text (looked_up word_table n)

abbrev pub word_of : Answer → List ℕ
word_of a = word_for (laid a).refuses (laid a).number

-- "`refused r`"; any other answer has its word alone
abbrev pub number_shown : Bool → ℕ → List ℕ
number_shown refuses n = cond refuses (n ∷ []) []

-- a value, and the words of the report that follow it
abbrev pub part_shown : Option Part → List ℕ → ℕ → List ℕ
part_shown None rs from = []
part_shown (Some p) rs from = p.value ∷ stretch_of rs from p.words

unfoldable pub fields_in : Layout → List ℕ → List ℕ
fields_in l rs =
    number_shown l.refuses l.number ++ part_shown l.first rs 0 ++ part_shown l.second rs (words_of l.first)
    ++ part_shown l.third rs (words_of l.first + words_of l.second)

abbrev pub fields_of : Answer → List ℕ → List ℕ
fields_of a rs = fields_in (laid a) rs

-- "Its fields go into the rest of the lent answer line, after the line number and a tab"
unfoldable pub answer_text : ℕ → Answer → List ℕ → List ℕ
answer_text n a rs = dec n ++ tab ∷ (word_of a ++ fields_text (fields_of a rs) ++ line_end ∷ [])
