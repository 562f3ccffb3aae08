-- A printed line is read back: the word and the numbers that it was made of. By computing the reader along the
-- printed text, one field after the other; the length limit aside.
-- Assumes nothing.
use Prim.Native.Nat.{ℕ, zero, suc, ◌+◌, ◌-◌, ◌≤◌, ◌<◌}
use mathlib.Core.List.{List, [], ◌∷◌, ◌++◌}
use mathlib.Core.Bool.{true}
use mathlib.Core.Path.{◌≡◌, refl, ap, sym, subst, ◌∙◌}
use native.Mathlib.Omega.{arith}
use borrow.Author.Tests.{lt-ltb, le-ltb, eqb-true, leb-true}
use lib.ListN.{length, drop, length-drop}
use lib.Seq.{drop-drop, take-append_seam, drop-append_seam}
use Rattle.std.specs.Prelude.{Result, Ok}
use Rattle.text_fields.specs.declared.BadByte.{BadByte}
use Rattle.text_fields.specs.Fields.{tab, run_to_tab, field_end, field_at, run_to, end_from}
use Rattle.text_fields.proofs.FieldLaws.{first_field, run_to_tab_append, first_field_rest, next_start_is}
use Rattle.text_numbers.specs.Numbers.{largest, dec}
use Rattle.text_numbers.proofs.PrintLaws.{number_in_print}
use Rattle.step_kinds.specs.Kinds.{shape_of}
use Rattle.step_kinds.specs.declared.Kind.{Kind}
use Rattle.step_kinds.specs.declared.Shape.{Shape}
use Rattle.step_kinds.specs.declared.Shape.TheVariants as H
use Rattle.text_keywords.specs.Keywords.{text_of, keyword_of}
use Rattle.text_keywords.specs.declared.Keyword.{Keyword}
use Rattle.text_keywords.specs.declared.Keyword.TheVariants as W
use Rattle.text_keywords.proofs.Theorems.{keyword_of_text}
use Rattle.text_records.specs.Records.{end_before, placed, number_at, with_second, with_first, pair_at, last_pair}
use Rattle.text_records.specs.Records.{of_pair}
use Rattle.text_records.specs.Records.{of_list, of_one, after_kind, after_word, record_of}
use Rattle.text_records.specs.declared.LineRecord.{LineRecord}
use Rattle.text_records.specs.declared.LineRecord.TheVariants as R
use Rattle.text_lists.specs.Lists.{with_entry, past_entry, values_from, listed_from, list_entries, list_of}
use Rattle.text_writers.specs.Texts.{fields_text, one_more}
use Rattle.text_forms.specs.declared.LineForm.{LineForm}
use Rattle.text_forms.specs.declared.LineForm.TheVariants as F
use Rattle.text_forms.specs.Forms.{takes_shape, takes, AllSmall, Line}
use Rattle.text_forms.specs.Judging.{keyword_in, numbers_by, numbers_in, with_list, of_record, entries_in}
use Rattle.text_forms.proofs.NumberFields.{dec_whole}
use Rattle.text_forms.proofs.First.{text_whole, in_table, first_field_lem}

-- ---- the next field

pub fields_tabbed : (ns : List ℕ) → run_to_tab (fields_text ns) ≡ 0
unfolding fields_text run_to
fields_tabbed [] = refl
fields_tabbed (n ∷ ns) = refl

-- at e stands a tab and a number, and after it `rest`: then it is read, and the next field starts after the tab of
-- `rest`
module _ (s : List ℕ) (e v : ℕ) (rest : List ℕ) (h : v ≤ largest) (z : run_to_tab rest ≡ 0)
    (q : drop e s ≡ tab ∷ (dec v ++ rest)) where
  there : e + 1 ≤ length s
  there = let l : length s - e ≡ suc (length (dec v ++ rest)) = sym (length-drop e s) ∙ ap length q in omega arith

  behind_tab : drop (e + 1) s ≡ dec v ++ rest
  behind_tab = sym (drop-drop 1 e s) ∙ ap (λ (r : List ℕ). drop 1 r) q

  runs : run_to_tab (drop (e + 1) s) ≡ length (dec v)
  runs = ap run_to_tab behind_tab ∙ run_to_tab_append (dec v) rest (dec_whole v h) ∙ omega arith

  pub next_read : number_at s (e + 1) ≡ Ok (v, e + 1 + length (dec v) + 1)
  unfolding number_at field_at field_end end_from placed
  next_read =
      rw (
        le-ltb (length s) (e + 1) there,
        next_start_is s (e + 1) there,
        runs,
        behind_tab,
        take-append_seam,
        number_in_print v h,
      )

  pub next_rest : drop (e + 1 + length (dec v)) s ≡ rest
  next_rest = sym (drop-drop (length (dec v)) (e + 1) s) ∙ ap (λ (r : List ℕ). drop (length (dec v)) r) behind_tab
      ∙ drop-append_seam (dec v) rest

over_at : (s : List ℕ) (e : ℕ) → drop e s ≡ [] → length s < e + 1
over_at s e q = let l : length s - e ≡ 0 = sym (length-drop e s) ∙ ap length q in omega arith

-- ---- one number, two, and a list

end_before_lem : (e : ℕ) → end_before (e + 1) ≡ e
end_before_lem e = omega arith

-- where the fields of ns end whose first tab stands at e
abbrev end_of : ℕ → List ℕ → ℕ
end_of e [] = e
end_of e (n ∷ ns) = end_of (e + 1 + length (dec n)) ns

module _ (s : List ℕ) where
  one_read : (k : Kind) (e t : ℕ) → t ≤ largest → drop e s ≡ fields_text (t ∷ [])
      → of_one k s (number_at s (e + 1)) ≡ Ok (R.Plain k t 0)
  unfolding fields_text of_one
  one_read k e t h q =
      let o = over_at s (e + 1 + length (dec t)) (next_rest s e t [] h (fields_tabbed []) q) in
      rw (next_read s e t [] h (fields_tabbed []) q, lt-ltb (length s) (e + 1 + length (dec t) + 1) o)

  module _ (e a b : ℕ) (ns : List ℕ) (h : a ≤ largest) (k : b ≤ largest) (q : drop e s ≡ fields_text (a ∷ b ∷ ns)) where
    pub pair_read : pair_at s (e + 1) ≡ Ok (a, b, end_of e (a ∷ b ∷ []) + 1)
    unfolding fields_text pair_at with_first with_second
    pair_read =
        let z = fields_tabbed (b ∷ ns) in
        let r = next_rest s e a (fields_text (b ∷ ns)) h z q in
        rw (
          next_read s e a (fields_text (b ∷ ns)) h z q,
          next_read s (e + 1 + length (dec a)) b (fields_text ns) k (fields_tabbed ns) r,
        )

    pub pair_rest : drop (end_of e (a ∷ b ∷ [])) s ≡ fields_text ns
    unfolding fields_text
    pair_rest =
        next_rest s (e + 1 + length (dec a)) b (fields_text ns) k (fields_tabbed ns)
        (next_rest s e a (fields_text (b ∷ ns)) h (fields_tabbed (b ∷ ns)) q)

  pub two_read : (f : ℕ → ℕ → LineRecord) (e a b : ℕ) → a ≤ largest → b ≤ largest → drop e s ≡ fields_text (a ∷ b ∷ [])
      → of_pair f (last_pair s (pair_at s (e + 1))) ≡ Ok (f a b)
  unfolding fields_text last_pair of_pair
  two_read f e a b h k q =
      let o = over_at s (end_of e (a ∷ b ∷ [])) (pair_rest e a b [] h k q) in
      rw (pair_read e a b [] h k q, lt-ltb (length s) (end_of e (a ∷ b ∷ []) + 1) o)

  -- the list from e on
  values_read : (f e : ℕ) (vs : List ℕ) → length s ≤ f + e → AllSmall vs → drop e s ≡ fields_text vs
      → values_from f s (e + 1) ≡ vs
  unfolding fields_text values_from with_entry
  values_read zero e [] l a q = refl
  values_read zero e (v ∷ vs) l (one_more h a) q =
      absurd (omega (arith, there s e v (fields_text vs) h (fields_tabbed vs) q))
  values_read (suc f) e [] l a q = rw (lt-ltb (length s) (e + 1) (over_at s e q))
  values_read (suc f) e (v ∷ vs) l (one_more h a) q =
      let z = fields_tabbed vs in
      rw (le-ltb (length s) (e + 1) (there s e v (fields_text vs) h z q), next_read s e v (fields_text vs) h z q)
      (ap (λ (r : List ℕ). v ∷ r)
      (values_read f (e + 1 + length (dec v)) vs (omega arith) a (next_rest s e v (fields_text vs) h z q)))

  listed_read : (f n e : ℕ) (vs : List ℕ) → length s ≤ f + e → AllSmall vs → drop e s ≡ fields_text vs
      → listed_from f n s (e + 1) ≡ Ok (n + length vs)
  unfolding fields_text listed_from past_entry
  listed_read zero n e [] l a q = ap Ok (omega arith)
  listed_read zero n e (v ∷ vs) l (one_more h a) q =
      absurd (omega (arith, there s e v (fields_text vs) h (fields_tabbed vs) q))
  listed_read (suc f) n e [] l a q = rw (lt-ltb (length s) (e + 1) (over_at s e q)) (ap Ok (omega arith))
  listed_read (suc f) n e (v ∷ vs) l (one_more h a) q =
      let z = fields_tabbed vs in
      rw (le-ltb (length s) (e + 1) (there s e v (fields_text vs) h z q), next_read s e v (fields_text vs) h z q)
      (listed_read f (n + 1) (e + 1 + length (dec v)) vs (omega arith) a (next_rest s e v (fields_text vs) h z q)
      ∙ ap Ok (omega arith))

-- a whole list
pub list_read : (vs : List ℕ) → AllSmall vs → list_of (fields_text vs) ≡ Ok (length vs)
unfolding list_of
list_read vs a = listed_read (fields_text vs) (length (fields_text vs)) 0 0 vs (omega arith) a refl
    ∙ ap Ok (omega arith)

pub entries_read : (vs : List ℕ) → AllSmall vs → list_entries (fields_text vs) ≡ vs
unfolding list_entries
entries_read vs a = values_read (fields_text vs) (length (fields_text vs)) 0 vs (omega arith) a refl

-- ---- a line

-- how many numbers a word takes, as numbers
one_of : (ns : List ℕ) → length ns ≡ 1 → (t : ℕ) × (ns ≡ t ∷ [])
one_of [] e = absurd (omega arith)
one_of (t ∷ []) e = (t, refl)
one_of (t ∷ u ∷ ns) e = absurd (omega arith)

more_of : (ns : List ℕ) → 2 ≤ length ns → (a : ℕ) × (b : ℕ) × (vs : List ℕ) × (ns ≡ a ∷ b ∷ vs)
more_of [] e = absurd (omega arith)
more_of (t ∷ []) e = absurd (omega arith)
more_of (a ∷ b ∷ vs) e = (a, b, vs, refl)

two_of : (ns : List ℕ) → length ns ≡ 2 → (a : ℕ) × (b : ℕ) × (ns ≡ a ∷ b ∷ [])
two_of [] e = absurd (omega arith)
two_of (a ∷ []) e = absurd (omega arith)
two_of (a ∷ b ∷ []) e = (a, b, refl)
two_of (a ∷ b ∷ c ∷ ns) e = absurd (omega arith)

small_head : {n : ℕ} {ns : List ℕ} → AllSmall (n ∷ ns) → n ≤ largest
small_head (one_more h a) = h

small_tail : {n : ℕ} {ns : List ℕ} → AllSmall (n ∷ ns) → AllSmall ns
small_tail (one_more h a) = a

-- what a record's form says
pub record Says (s : List ℕ) (r : Result LineRecord BadByte) (w : Keyword) (ns : List ℕ) : Type 0 where
  pub form : LineForm
  pub answer : of_record s r ≡ Ok form
  pub word : keyword_in form ≡ w
  pub numbers : numbers_in form (entries_in s r) ≡ ns

module _ (s : List ℕ) (e : ℕ) (ns : List ℕ) (a : AllSmall ns) (q : drop e s ≡ fields_text ns) where
  two_says : (w : Keyword) (f : ℕ → ℕ → LineRecord) → ((x y : ℕ) → Says s (Ok (f x y)) w (x ∷ y ∷ [])) → length ns ≡ 2
      → Says s (of_pair f (last_pair s (pair_at s (e + 1)))) w ns
  two_says w f says l =
      let (x, y, p) = two_of ns l in
      let b = subst AllSmall p a in
      rw (p, two_read s f e x y (small_head b) (small_head (small_tail b)) (q ∙ ap fields_text p)) (says x y)

  one_says : (k : Kind) → shape_of k ≡ H.One → length ns ≡ 1 → Says s (of_one k s (number_at s (e + 1))) (W.Step k) ns
  unfolding of_record keyword_in numbers_in numbers_by
  one_says k z l =
      let (t, p) = one_of ns l in
      rw (p, one_read s k e t (small_head (subst AllSmall p a)) (q ∙ ap fields_text p))
      (record { form = F.Step k t 0 0; answer = refl; word = refl; numbers = rw z })

  list_says : (k : Kind) → shape_of k ≡ H.List → 2 ≤ length ns → Says s (of_list k (pair_at s (e + 1))) (W.Step k) ns
  unfolding of_list of_record with_list keyword_in numbers_in numbers_by entries_in
  list_says k z l =
      let (x, y, vs, p) = more_of ns l in
      let b = subst AllSmall p a in
      let c = small_tail (small_tail b) in
      let t = q ∙ ap fields_text p in
      let d = pair_rest s e x y vs (small_head b) (small_head (small_tail b)) t in
      rw (p, pair_read s e x y vs (small_head b) (small_head (small_tail b)) t, end_before_lem (end_of e (x ∷ y ∷ [])))
      (record {
        form = F.Step k x y (length vs);
        answer = rw (d, list_read vs c);
        word = refl;
        numbers = rw (d, entries_read vs c, z);
      })

  by_kind : (k : Kind) (h : Shape) → shape_of k ≡ h → takes_shape h (length ns) ≡ true
      → Says s (after_kind s (e + 1) k h) (W.Step k) ns
  unfolding after_kind takes_shape of_record keyword_in numbers_in numbers_by entries_in
  by_kind k H.One z t = one_says k z (eqb-true _ _ t)
  by_kind k H.Two z t = two_says (W.Step k) (R.Plain k) (λ x y. record {
    form = F.Step k x y 0;
    answer = refl;
    word = refl;
    numbers = rw z;
  }) (eqb-true _ _ t)
  by_kind k H.List z t = list_says k z (leb-true _ _ t)

  by_word : (w : Keyword) → takes w (length ns) ≡ true → Says s (after_word s (e + 1) (Ok w)) w ns
  unfolding after_word takes of_record keyword_in numbers_in entries_in
  by_word W.Open t = two_says W.Open R.Open (λ x y. record {
    form = F.Open x y;
    answer = refl;
    word = refl;
    numbers = refl;
  }) (eqb-true _ _ t)
  by_word (W.Step k) t = by_kind k (shape_of k) refl t

-- THE LINE OF A WORD AND NUMBERS IS READ AS THAT WORD AND THOSE NUMBERS
pub line_read : (w : Keyword) (ns s : List ℕ) → Line w ns s → Says s (record_of s) w ns
unfolding record_of field_at field_end end_from
line_read w ns s l =
    let f = first_field_lem s w (fields_text ns) l.text (fields_tabbed ns) in
    let k : keyword_of (first_field s) ≡ Ok w = ap keyword_of f ∙ keyword_of_text w (in_table w (length ns) l.taken) in
    let d : drop (0 + run_to_tab s) s ≡ fields_text ns =
    let z : 0 + run_to_tab s ≡ run_to_tab s = omega arith in
    ap (λ (i : ℕ). drop i s) z ∙ ap (λ (r : List ℕ). drop (run_to_tab r) r) l.text
    ∙ first_field_rest (text_of w) (fields_text ns) (text_whole w) (fields_tabbed ns) in
    rw (k, next_start_is s 0 (omega arith)) (by_word s (0 + run_to_tab s) ns l.small d w l.taken)
