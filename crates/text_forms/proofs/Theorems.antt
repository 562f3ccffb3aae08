-- What is promised of lines: the reader's answer is the form that the line is printed from, a line that is printed
-- from no form goes bad exactly at the column of 02, request 1, and nothing of a list is cut. All over the
-- definitions of specs/, for every line.
-- Assumes nothing.
use Prim.Native.Nat.{ℕ, suc, ◌+◌, ◌-◌, ◌*◌, ◌≤◌, ◌<◌}
use mathlib.Core.List.{List, [], ◌∷◌, ◌++◌, append_assoc}
use mathlib.Core.Logic.{◌⊎◌, inl, inr}
use mathlib.Core.Path.{◌≡◌, refl, ap, sym, subst, ◌∙◌}
use native.Mathlib.Omega.{arith}
use native.Mathlib.Decide.{dec_lt}
use lib.ListN.{length, take, drop, length-append, length-drop}
use lib.Seq.{take-add}
use Rattle.words.specs.Words.{longest_line, most_entries}
use Rattle.words.specs.Lists.{over}
use Rattle.text_buffers.proofs.BufferLaws.{fitting_room}
use Rattle.text_numbers.specs.Numbers.{dec}
use Rattle.text_numbers.proofs.NumberLaws.{number_in_is_nonempty}
use Rattle.text_numbers.proofs.PrintLaws.{number_in_print}
use Rattle.step_kinds.specs.Kinds.{shape_of}
use Rattle.step_kinds.specs.declared.Kind.{Kind}
use Rattle.step_kinds.specs.declared.Kind.TheVariants.{Async}
use Rattle.text_keywords.specs.Keywords.{text_of}
use Rattle.text_keywords.specs.declared.Keyword.{Keyword}
use Rattle.text_keywords.specs.declared.Keyword.TheVariants as W
use Rattle.text_records.specs.Records.{record_of}
use Rattle.text_records.specs.declared.LineRecord.{LineRecord}
use Rattle.text_records.specs.declared.LineRecord.TheVariants as R
use Rattle.text_lists.specs.Lists.{list_entries, list_of}
use Rattle.std.specs.Prelude.{Result, Ok, Err}
use Rattle.text_fields.specs.declared.BadByte.{BadByte}
use Rattle.text_lists.proofs.ListLaws.{list_entries_most, list_of_count}
use Rattle.text_forms.specs.declared.LineForm.{LineForm}
use Rattle.text_forms.specs.declared.LineForm.TheVariants as F
use Rattle.text_forms.specs.declared.BadLine.{BadLine}
use Rattle.text_writers.specs.Texts.{fields_text, no_more, one_more}
use Rattle.text_forms.specs.Forms.{AllSmall, Line, Formed, Start, BadAt, ColumnOf, too_long, goes_bad}
use Rattle.text_forms.specs.Judging.{keyword_in, numbers_by, numbers_in, entry_count, with_list, of_record, line_form}
use Rattle.text_forms.specs.Judging.{at_column, entries_in, entries_of, IsForm, InLine, Judged}
use Rattle.text_forms.proofs.Parsed.{formed, bad_formed}
use Rattle.text_forms.proofs.Column.{Verdict, verdict_well, verdict_bad, verdict, verdict_column, same_column}
use Rattle.text_forms.proofs.ReadBack.{line_read}
use Rattle.text_forms.proofs.JudgingLaws.{line_form_long, line_form_within, entries_of_long, entries_of_within}

-- ---- the form

-- A LINE MADE OF A WORD AND NUMBERS IS READ AS THESE
pub printed_is_read : (w : Keyword) (ns s : List ℕ) → Line w ns s → length s ≤ longest_line
    → (f : LineForm) × (line_form s ≡ Ok f) × (keyword_in f ≡ w) × (numbers_in f (entries_of s) ≡ ns)
printed_is_read w ns s l h =
    let r = line_read w ns s l in
    (r.form, line_form_within s h ∙ r.answer, r.word, rw (entries_of_within s h) r.numbers)

-- and so it is answered with a form
pub formed_is_good : (s : List ℕ) → Formed s → length s ≤ longest_line → IsForm (line_form s)
formed_is_good s (w, ns, l) h c e = let r = (printed_is_read w ns s l h).1 in absurd (cc)

-- an answer that is one of the forms has that form
pub form_of : {r : Result LineForm BadLine} → IsForm r → (f : LineForm) × (r ≡ Ok f)
form_of {r = Ok f} g = (f, refl)
form_of {r = Err b} g = absurd (g b.column refl)

within_of : (s : List ℕ) → IsForm (line_form s) → length s ≤ longest_line
within_of s g = go (dec_lt longest_line (length s))
  where
    go : Dec (longest_line < length s) → length s ≤ longest_line
    go (yes h) = absurd (g longest_line (line_form_long s h))
    go (no h) = omega arith

-- A LINE THAT IS ANSWERED WITH A FORM IS MADE OF THAT FORM'S WORD AND NUMBERS
pub read_is_printed : (s : List ℕ) (f : LineForm) → line_form s ≡ Ok f
    → Line (keyword_in f) (numbers_in f (entries_of s)) s
read_is_printed s f q = go (verdict s) (line_form_within s h)
  where
    h : length s ≤ longest_line
    h = within_of s (λ c e. absurd (cc))

    go : {r : Result LineForm BadLine} → Verdict s r → line_form s ≡ r
        → Line (keyword_in f) (numbers_in f (entries_of s)) s
    go (verdict_bad c b) e = absurd (cc)
    go (verdict_well g p) e =
        let (w, ns, l) = formed s p in
        let r = printed_is_read w ns s l h in
        let z : r.0 ≡ f = cc (q, r.1) in
        subst (λ (k : LineForm). Line (keyword_in k) (numbers_in k (entries_of s)) s) z
        (subst (λ (v : Keyword). Line v (numbers_in r.0 (entries_of s)) s) (sym r.2)
        (subst (λ (m : List ℕ). Line w m s) (sym r.3) l))

-- ---- the column

-- A BAD LINE'S COLUMN is that of the first byte with which it stops being the start of a well-formed line; 2,048 if
-- it is too long
pub bad_column : (s : List ℕ) (c : ℕ) → line_form s ≡ Err (at_column c) → ColumnOf s c
bad_column s c e = go (dec_lt longest_line (length s))
  where
    go : Dec (longest_line < length s) → ColumnOf s c
    go (yes h) = subst (ColumnOf s) (same_column (sym (line_form_long s h) ∙ e)) (too_long h)
    go (no h) = let l : length s ≤ longest_line = omega arith in
        goes_bad c l (bad_formed s c (verdict_column c (verdict s) (sym (line_form_within s l) ∙ e)))

-- every column is at most 2,048
pub column_in_line : (s : List ℕ) → InLine (line_form s)
column_in_line s c e = go (bad_column s c e)
  where
    go : {d : ℕ} → ColumnOf s d → d ≤ longest_line
    go (too_long h) = omega arith
    go (goes_bad d h b) = omega (arith, b.within)

-- whatever stands before the column is the start of a well-formed line, however much of it is taken
pub starts_before : (L : List ℕ → Type 0) (s : List ℕ) (c d : ℕ) → BadAt L s c → d ≤ c → Start L (take d s)
starts_before L s c d b h =
    let (x, l) = b.start in
    let q : c ≡ d + (c - d) = omega arith in (
      take (c - d) (drop d s) ++ x,
      subst L (ap (λ (i : ℕ). take i s ++ x) q ∙ ap (λ (y : List ℕ). y ++ x) (take-add d (c - d) s)
          ∙ append_assoc (take d s) (take (c - d) (drop d s)) x) l,
    )

early : (L : List ℕ → Type 0) (s : List ℕ) (c d : ℕ) → BadAt L s c → BadAt L s d → c < d → ⊥
early L s c d a b h = let (x, l) = starts_before L s d (suc c) b h in a.stop (omega (arith, b.within)) x l

-- and no other column fits
pub bad_at_one : (L : List ℕ → Type 0) (s : List ℕ) (c d : ℕ) → BadAt L s c → BadAt L s d → c ≡ d
bad_at_one L s c d a b = go (dec_lt c d) (dec_lt d c)
  where
    go : Dec (c < d) → Dec (d < c) → c ≡ d
    go (yes h) y = absurd (early L s c d a b h)
    go (no h) (yes g) = absurd (early L s d c b a g)
    go (no h) (no g) = omega arith

-- so a line that has a column is answered with it
pub column_found : (s : List ℕ) {c : ℕ} → ColumnOf s c → line_form s ≡ Err (at_column c)
column_found s (too_long h) = line_form_long s h
column_found s (goes_bad c h b) = go (verdict s) (line_form_within s h)
  where
    go : {r : Result LineForm BadLine} → Verdict s r → line_form s ≡ r → line_form s ≡ Err (at_column c)
    go (verdict_well f p) e = absurd (b.not_one (formed s p))
    go (verdict_bad d a) e = e ∙ ap (λ (n : ℕ). Err (at_column n)) (bad_at_one Formed s d c (bad_formed s d a) b)

-- A LINE IS WELL FORMED AND SHORT ENOUGH, OR IT HAS A COLUMN
pub form_or_column : (s : List ℕ) → (Formed s × (length s ≤ longest_line)) ⊎ ((c : ℕ) × ColumnOf s c)
form_or_column s = go (dec_lt longest_line (length s))
  where
    judged : {r : Result LineForm BadLine} → length s ≤ longest_line → Verdict s r
        → (Formed s × (length s ≤ longest_line))
        ⊎ ((c : ℕ) × ColumnOf s c)
    judged h (verdict_well f p) = inl (formed s p, h)
    judged h (verdict_bad c b) = inr (c, goes_bad c h (bad_formed s c b))

    go : Dec (longest_line < length s) → (Formed s × (length s ≤ longest_line)) ⊎ ((c : ℕ) × ColumnOf s c)
    go (yes h) = inr (longest_line, too_long h)
    go (no h) = judged (omega arith) (verdict s)

-- and not both
pub form_no_column : (s : List ℕ) {c : ℕ} → Formed s → length s ≤ longest_line → ColumnOf s c → ⊥
form_no_column s w h (too_long g) = omega arith
form_no_column s w h (goes_bad c g b) = b.not_one w

-- a line has one column
pub one_column : (s : List ℕ) {c d : ℕ} → ColumnOf s c → ColumnOf s d → c ≡ d
one_column s {c} {d} p q = same_column (sym (column_found s p) ∙ column_found s q)

-- ---- the list

list_count : (s : List ℕ) (k : Kind) (t c e : ℕ) (r : Result ℕ BadByte) → list_of (drop e s) ≡ r
    → IsForm (with_list k t c e r)
    → entry_count (with_list k t c e r) ≡ length (list_entries (drop e s))
unfolding with_list entry_count
list_count s k t c e (Ok n) q g = list_of_count (drop e s) n q
list_count s k t c e (Err j) q g = absurd (g (e + j.place) refl)

record_count : (s : List ℕ) (r : Result LineRecord BadByte) → IsForm (of_record s r)
    → entry_count (of_record s r) ≡ length (entries_in s r)
unfolding of_record entry_count entries_in
record_count s (Ok (R.Open a b)) g = refl
record_count s (Ok (R.Plain k t p)) g = refl
record_count s (Ok (R.Listing k t c e)) g = list_count s k t c e (list_of (drop e s)) refl g
record_count s (Err c) g = absurd (g c.place refl)

-- a step's form says how many entries there are
pub form_counts : (s : List ℕ) → IsForm (line_form s) → entry_count (line_form s) ≡ length (entries_of s)
form_counts s g =
    let h = within_of s g in
    rw (line_form_within s h, entries_of_within s h)
    (record_count s (record_of s) (λ c e. g c (line_form_within s h ∙ e)))

record_entries : (s : List ℕ) (r : Result LineRecord BadByte) → 2 * length (entries_in s r) ≤ length s
unfolding entries_in
record_entries s (Ok (R.Open a b)) = omega arith
record_entries s (Ok (R.Plain k t p)) = omega arith
record_entries s (Ok (R.Listing k t c e)) = omega (arith, list_entries_most (drop e s), length-drop e s)
record_entries s (Err c) = omega arith

pub entries_half : (s : List ℕ) → 2 * length (entries_of s) ≤ longest_line
entries_half s = go (dec_lt longest_line (length s))
  where
    go : Dec (longest_line < length s) → 2 * length (entries_of s) ≤ longest_line
    go (yes h) = rw (entries_of_long s h) (omega arith)
    go (no h) = let l : length s ≤ longest_line = omega arith in
        rw (entries_of_within s l) (omega (arith, record_entries s (record_of s)))

-- lent words that are as many as the entries hold them all
pub judged_fits : {s o x : List ℕ} {r : Result LineForm BadLine} → Judged s o x r → length (entries_of s) ≤ length o
    → x ≡ over (entries_of s) o
judged_fits {s} {o} j h = j.words ∙ ap (λ (t : List ℕ). over t o) (fitting_room (entries_of s) o h)

-- NOTHING IS CUT: 1,024 lent words hold the list of any line
pub judged_whole : {s o x : List ℕ} {r : Result LineForm BadLine} → Judged s o x r → most_entries ≤ length o
    → x ≡ over (entries_of s) o
judged_whole {s} {o} j h = judged_fits j (omega (arith, entries_half s))

fields_least : (ns : List ℕ) → AllSmall ns → 2 * length ns ≤ length (fields_text ns)
unfolding fields_text
fields_least [] no_more = omega arith
fields_least (n ∷ ns) (one_more h a) =
    rw length-append (omega (arith, fields_least ns a, number_in_is_nonempty (dec n) n (number_in_print n h)))

async_length : length (text_of (W.Step Async)) ≡ 5
unfolding text_of
async_length = refl

async_line : (s : List ℕ) (t c n : ℕ) (f : LineForm) (vs : List ℕ) → f ≡ F.Step Async t c n
    → Line (keyword_in f) (numbers_in f vs) s → 9 + 2 * length vs ≤ length s
unfolding keyword_in numbers_in numbers_by shape_of
async_line s t c n f vs e l =
    let m = subst (λ (g : LineForm). Line (keyword_in g) (numbers_in g vs) s) e l in
    let k : length s ≡ length (text_of (W.Step Async)) + length (fields_text (t ∷ c ∷ vs)) = ap length m.text
    ∙ length-append (text_of (W.Step Async)) (fields_text (t ∷ c ∷ vs)) in
    omega (arith, async_length, fields_least (t ∷ c ∷ vs) m.small)

step_good : {k : Kind} {t c n : ℕ} {r : Result LineForm BadLine} → r ≡ Ok (F.Step k t c n) → IsForm r
step_good e d q = absurd (cc)

pub step_counts : (s : List ℕ) (k : Kind) (t c n : ℕ) → line_form s ≡ Ok (F.Step k t c n) → n ≡ length (entries_of s)
unfolding entry_count
step_counts s k t c n e = sym (ap entry_count e) ∙ form_counts s (step_good e)

-- and no form says more
pub count_within : (s : List ℕ) → entry_count (line_form s) ≤ length (entries_of s)
unfolding entry_count
count_within s = go (line_form s) refl
  where
    go : (r : Result LineForm BadLine) → line_form s ≡ r → entry_count r ≤ length (entries_of s)
    go (Ok (F.Open a b)) e = omega arith
    go (Ok (F.Step k t c n)) e = omega (arith, step_counts s k t c n e)
    go (Err c) e = omega arith

-- an async has at most 1,019 entries
pub entries_most : (s : List ℕ) (t c n : ℕ) → line_form s ≡ Ok (F.Step Async t c n) → n ≤ 1019
entries_most s t c n e =
    let g = step_good e in
    omega (
      arith,
      step_counts s Async t c n e,
      within_of s g,
      async_line s t c n (F.Step Async t c n) (entries_of s) refl (read_is_printed s _ e),
    )

-- ---- 01, "How much each contract must say": any two outcomes that the contract allows coincide

pub judge_unique : {s o x y : List ℕ} {p q : Result LineForm BadLine} → Judged s o x p → Judged s o y q
    → (x ≡ y) × (p ≡ q)
judge_unique a b = (a.words ∙ sym b.words, a.form ∙ sym b.form)
