-- The text of fields. Paper: 01, "Lines", "fields parted by a tab", and "Its fields go into the rest of the lent
-- answer line, after the line number and a tab". A number's printed form is `dec` of `text_numbers`.
--
--   field_text n    a tab, and n in its printed form
--   fields_text ns  one such field for each number of ns, in order
--   stretch_of s from n the n words of s from the place `from` on, or as many as there are
--   Every P ns      each number of ns has the property P
-- Assumes nothing.
use Rattle.std.specs.Prelude.{ℕ, List, [], ◌∷◌, ◌++◌, take, drop}
use Rattle.text_fields.specs.Fields.{tab}
use Rattle.text_numbers.specs.Numbers.{dec}

abbrev pub field_text : ℕ → List ℕ
field_text n = tab ∷ dec n

-- "fields parted by a tab"
unfoldable pub fields_text : List ℕ → List ℕ
fields_text [] = []
fields_text (n ∷ ns) = field_text n ++ fields_text ns

abbrev pub stretch_of : List ℕ → ℕ → ℕ → List ℕ
stretch_of s from n = take n (drop from s)

pub data Every (P : ℕ → Type 0) : List ℕ → Type 0 where
  no_more : Every P []
  one_more : {n : ℕ} {ns : List ℕ} → P n → Every P ns → Every P (n ∷ ns)
