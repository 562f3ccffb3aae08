-- Laws of specs/Judging.antt that the code cites: one for each way out of judging a line, and that a bad line's
-- column lies within it.
-- Assumes nothing.
use Prim.Native.Nat.{ℕ, ◌+◌, ◌≤◌, ◌<◌}
use mathlib.Core.List.{List, []}
use mathlib.Core.Path.{◌≡◌, refl, sym, ap, ◌∙◌}
use native.Mathlib.Omega.{arith}
use borrow.Author.Tests.{lt-ltb, le-ltb}
use lib.ListN.{length, drop}
use Rattle.words.specs.Words.{longest_line}
use Rattle.words.specs.Lists.{over}
use Rattle.text_buffers.specs.Buffers.{fitting}
use Rattle.words.proofs.ListLaws.{over_none}
use Rattle.text_buffers.proofs.BufferLaws.{fitting_none}
use Rattle.step_kinds.specs.declared.Kind.{Kind}
use Rattle.text_records.specs.Records.{record_of}
use Rattle.text_records.specs.declared.LineRecord.{LineRecord}
use Rattle.text_records.specs.declared.LineRecord.TheVariants as R
use Rattle.text_lists.specs.Lists.{list_of}
use Rattle.std.specs.Prelude.{Result, Ok, Err}
use Rattle.text_fields.specs.declared.BadByte.{BadByte}
use Rattle.text_forms.specs.declared.LineForm.{LineForm}
use Rattle.text_forms.specs.declared.LineForm.TheVariants as F
use Rattle.text_forms.specs.declared.BadLine.{BadLine}
use Rattle.text_forms.specs.Judging.{at_column, with_list, of_record, line_form, entries_in, entries_of, InLine, Judged}
use Rattle.text_forms.proofs.Column.{verdict, verdict_column}

module _ (s : List ℕ) where
  pub line_form_long : longest_line < length s → line_form s ≡ Err (at_column longest_line)
  unfolding line_form
  line_form_long h = rw (lt-ltb longest_line (length s) h)

  pub entries_of_long : longest_line < length s → entries_of s ≡ []
  unfolding entries_of
  entries_of_long h = rw (lt-ltb longest_line (length s) h)

  module _ (h : length s ≤ longest_line) where
    pub line_form_within : line_form s ≡ of_record s (record_of s)
    unfolding line_form
    line_form_within = rw (le-ltb longest_line (length s) h)

    pub entries_of_within : entries_of s ≡ entries_in s (record_of s)
    unfolding entries_of
    entries_of_within = rw (le-ltb longest_line (length s) h)

  -- ---- the ways out

  pub judged_long : (o : List ℕ) → longest_line < length s → Judged s o o (Err (at_column longest_line))
  judged_long o h =
      record { form = sym (line_form_long h); words = sym (rw (entries_of_long h, fitting_none) (over_none o)) }

  module _ (o : List ℕ) (r : Result LineRecord BadByte) (h : length s ≤ longest_line) (q : record_of s ≡ r) where
    pub judged_list : {x : List ℕ} {f : Result LineForm BadLine} → f ≡ of_record s r
        → x ≡ over (fitting (entries_in s r) o) o
        → Judged s o x f
    judged_list e p =
        record { form = e ∙ sym (rw (line_form_within h, q)); words = p ∙ sym (rw (entries_of_within h, q)) }

    -- a record without a list
    pub judged_plain : entries_in s r ≡ [] → Judged s o o (of_record s r)
    judged_plain e = judged_list refl (sym (rw (e, fitting_none) (over_none o)))

-- ---- the list

pub with_list_all : (k : Kind) (t c e n : ℕ) (s : List ℕ) → list_of (drop e s) ≡ Ok n
    → Ok (F.Step k t c n) ≡ with_list k t c e (list_of (drop e s))
unfolding with_list
with_list_all k t c e n s q = rw q

pub with_list_bad : (k : Kind) (t c e : ℕ) (j : BadByte) (s : List ℕ) → list_of (drop e s) ≡ Err j
    → Err (at_column (e + j.place)) ≡ with_list k t c e (list_of (drop e s))
unfolding with_list
with_list_bad k t c e j s q = rw q

-- ---- the column

-- a line within its limit goes bad at a column within it
pub record_in_line : (s : List ℕ) (r : Result LineRecord BadByte) → length s ≤ longest_line → record_of s ≡ r
    → InLine (of_record s r)
record_in_line s r h q c e = omega (arith, (verdict_column c (verdict s) (ap (of_record s) q ∙ e)).within)

pub list_in_line : (s : List ℕ) (k : Kind) (t c e : ℕ) → length s ≤ longest_line → record_of s ≡ Ok (R.Listing k t c e)
    → InLine (with_list k t c e (list_of (drop e s)))
unfolding of_record
list_in_line s k t c e h q = record_in_line s (Ok (R.Listing k t c e)) h q
