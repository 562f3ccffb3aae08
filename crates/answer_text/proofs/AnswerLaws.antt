-- Laws for the text of an answer: no text at a place of a buffer, the fields of two lists, and the line from its five
-- parts. Each is an equation of lists; nothing is said of code.
-- Assumes nothing.
use Prim.Native.Nat.{ℕ}
use mathlib.Core.List.{List, [], ◌∷◌, ◌++◌, append_assoc, append-nil}
use mathlib.Core.Path.{◌≡◌, refl, ap, sym, subst, ◌∙◌}
use native.Mathlib.Omega.{arith}
use lib.ListN.{take-append-drop}
use Rattle.text_buffers.specs.Buffers.{Wrote, Added}
use Rattle.words.proofs.ListLaws.{over_none}
use Rattle.text_buffers.proofs.BufferLaws.{fitting_none, wrote_added}
use Rattle.text_fields.specs.Fields.{tab, line_end}
use Rattle.text_numbers.specs.Numbers.{dec}
use Rattle.text_writers.specs.Texts.{field_text, fields_text}
use Rattle.rules.specs.Answers.{laid}
use Rattle.rules.specs.declared.Layout.{Layout}
use Rattle.rules.specs.declared.Answer.{Answer}
use Rattle.answer_text.specs.AnswerText.{word_for, fields_in, answer_text}

-- ---- no text

pub added_none : (o : List ℕ) (at : ℕ) → Added [] o at o at
added_none o at = record { end = rw fitting_none (omega arith); text = rw (fitting_none, over_none, take-append-drop) }

-- ---- fields

pub fields_text_none : fields_text [] ≡ []
unfolding fields_text
fields_text_none = refl

pub fields_text_one : (n : ℕ) → fields_text (n ∷ []) ≡ field_text n
unfolding fields_text
fields_text_one n = append-nil (field_text n)

pub fields_text_append : (ms ns : List ℕ) → fields_text (ms ++ ns) ≡ fields_text ms ++ fields_text ns
unfolding fields_text
fields_text_append [] ns = refl
fields_text_append (m ∷ ms) ns =
    rw (fields_text_append ms ns) (sym (append_assoc (field_text m) (fields_text ms) (fields_text ns)))

-- ---- the whole line

-- its five parts, each written after the one before
pub answer_wrote : (n : ℕ) (a : Answer) (rs : List ℕ) {l : Layout} {o x y z v w : List ℕ} {d t k e r : ℕ} → l ≡ laid a
    → Wrote (dec n) o x d → Added (tab ∷ []) x d y t
    → Added (word_for l.refuses l.number) y t z k → Added (fields_text (fields_in l rs)) z k v e
    → Added (line_end ∷ []) v e w r → Wrote (answer_text n a rs) o w r
unfolding answer_text
answer_wrote n a rs {l} {o} {x} {y} {z} {v} {w} {d} {t} {k} {e} {r} its-layout digits tab-after word fields end =
    subst (λ (text : List ℕ). Wrote text o w r) (joined ∙ rw its-layout refl)
    (wrote_added (wrote_added (wrote_added (wrote_added digits tab-after) word) fields) end)
  where
    its_word : List ℕ
    its_word = word_for l.refuses l.number

    its_fields : List ℕ
    its_fields = fields_text (fields_in l rs)

    joined : dec n ++ tab ∷ [] ++ its_word ++ its_fields ++ line_end ∷ [] ≡ dec n
        ++ (tab ∷ (its_word ++ its_fields ++ line_end ∷ []))
    joined =
        ap (λ (text : List ℕ). text ++ line_end ∷ []) (append_assoc (dec n ++ tab ∷ []) its_word its_fields)
        ∙ append_assoc (dec n ++ tab ∷ []) (its_word ++ its_fields) (line_end ∷ [])
        ∙ append_assoc (dec n) (tab ∷ []) (its_word ++ its_fields ++ line_end ∷ [])
