-- The fields of a line. Paper: 01, "Lines", "fields parted by a tab", and "The reader works over the one lent line
-- and keeps where the next field starts; each field is handed back as that part of the line".
--
--   tab                 the byte between two fields
--   run_to stop s       how many bytes of s stand before its first byte `stop`, or in all; `run_to_tab s` for the tab
--   end_from stop s at  where the bytes from `at` on come to that byte, or to the line's end
--   field_end s at      where the field that starts at `at` ends
--   field_at s at       that field, a part of s
--   next_start s at     where the field after it starts; length s + 1 where there is none
--   Field s at f e      f is the part of s from `at` to e, between two tabs: what it means to be the field at `at`
--   part_start s at     where in s the part that is handed back for `at` starts
--   FieldOf line at f   the reference f is that part of the lent line: its bytes, and where they stand
--   bad_byte k          the bad byte at the place k
-- Assumes nothing.
use Rattle.std.specs.Prelude.{ℕ, suc, ◌+◌, List, [], ◌∷◌, ◌++◌, cond, ◌⊎◌, ◌≡◌, length, take, drop, eqb, ltb}
use Rattle.std.specs.Borrow.{Bor}
use Rattle.text_fields.specs.declared.BadByte.{BadByte}

abbrev pub tab : ℕ
tab = 9

-- "LF ends it"
abbrev pub line_end : ℕ
line_end = 10

unfoldable pub run_to : ℕ → List ℕ → ℕ
run_to stop [] = 0
run_to stop (b ∷ s) = cond (eqb b stop) 0 (suc (run_to stop s))

unfoldable pub end_from : ℕ → List ℕ → ℕ → ℕ
end_from stop s at = at + run_to stop (drop at s)

-- up to a tab
abbrev pub run_to_tab : List ℕ → ℕ
run_to_tab s = run_to tab s

unfoldable pub field_end : List ℕ → ℕ → ℕ
field_end s at = end_from tab s at

-- "each field is handed back as that part of the line"
unfoldable pub field_at : List ℕ → ℕ → List ℕ
field_at s at = take (run_to_tab (drop at s)) (drop at s)

-- "keeps where the next field starts"
unfoldable pub next_start : List ℕ → ℕ → ℕ
next_start s at = cond (ltb (length s) at) at (field_end s at + 1)

-- "the subslice between two tabs": before it the line's first `at` bytes, no tab in it, and after it a tab or the
-- line's end
pub record Field (s : List ℕ) (at : ℕ) (f : List ℕ) (e : ℕ) : Type 0 where
  pub place : e ≡ at + length f
  pub whole : s ≡ take at s ++ (f ++ drop e s)
  pub no_tab : run_to_tab f ≡ length f
  pub after : (drop e s ≡ []) ⊎ (drop e s ≡ tab ∷ drop (e + 1) s)

-- at its own place; past the line there is no field, and the part is the empty one at the line's start
unfoldable pub part_start : List ℕ → ℕ → ℕ
part_start s at = cond (ltb (length s) at) 0 at

-- "handed back as that part of the line": no copy with the same bytes, but the line's own memory from that place on
pub record FieldOf (line : Bor (List ℕ)) (at : ℕ) (f : Bor (List ℕ)) : Type 0 where
  pub bytes : f.now ≡ field_at line.now at
  pub memory : f.ref_ptr.0 ≡ line.ref_ptr.0
  pub place : f.ref_ptr.1 ≡ line.ref_ptr.1 + part_start line.now at

-- every bad text is told by the place of its first bad byte (02, request 1)
abbrev pub bad_byte : ℕ → BadByte
bad_byte k = record { place = k }
