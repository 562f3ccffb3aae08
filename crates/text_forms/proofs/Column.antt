-- The reader's answer for a line, its length limit aside: one of the forms for a well-formed line, and else the
-- column of its first bad byte. A copy of the reader's own case tree, with one law of Place.antt or First.antt in
-- each leaf.
-- Assumes nothing.
use Prim.Native.Nat.{ℕ, zero, suc, ◌+◌, ◌≤◌, ◌<◌}
use mathlib.Core.List.{List, ◌++◌, append_assoc}
use mathlib.Core.Bool.{Bool, true, false, cond}
use mathlib.Core.Path.{◌≡◌, refl, ap, sym, subst, ◌∙◌}
use native.Mathlib.Omega.{arith}
use lib.Dec.{ltb}
use borrow.Author.Tests.{ne_eqb, le-leb, ltb-true, ltb-false}
use lib.ListN.{length, take, drop, length-drop, take-append-drop}
use lib.Seq.{take-add}
use Rattle.std.specs.Prelude.{Result, Ok, Err}
use Rattle.text_fields.specs.Fields.{field_at, next_start, bad_byte}
use Rattle.text_fields.specs.declared.BadByte.{BadByte}
use Rattle.step_kinds.specs.Kinds.{shape_of}
use Rattle.step_kinds.specs.declared.Kind.{Kind}
use Rattle.step_kinds.specs.declared.Shape.{Shape}
use Rattle.step_kinds.specs.declared.Shape.TheVariants as H
use Rattle.text_keywords.specs.Keywords.{keyword_of}
use Rattle.text_keywords.specs.declared.Keyword.{Keyword}
use Rattle.text_keywords.specs.declared.Keyword.TheVariants as W
use Rattle.text_records.specs.Records.{end_before, number_at, with_second, with_first, pair_at, last_pair}
use Rattle.text_records.specs.Records.{of_pair, of_list}
use Rattle.text_records.specs.Records.{of_one, after_kind, after_word, record_of}
use Rattle.text_records.proofs.RecordLaws.{number_at_next}
use Rattle.text_records.specs.declared.LineRecord.{LineRecord}
use Rattle.text_records.specs.declared.LineRecord.TheVariants as R
use Rattle.text_lists.specs.Lists.{past_entry, listed_from, list_of}
use Rattle.text_forms.specs.declared.LineForm.{LineForm}
use Rattle.text_forms.specs.declared.LineForm.TheVariants as F
use Rattle.text_forms.specs.declared.BadLine.{BadLine}
use Rattle.text_forms.specs.Forms.{takes_shape, takes, BadAt}
use Rattle.text_forms.specs.Judging.{at_column, with_list, of_record}
use Rattle.text_forms.proofs.Parsed.{Parsed}
use Rattle.text_forms.proofs.Place.{At, Over, end_allowed, field_bad, next_well, next_bad}
use Rattle.text_forms.proofs.First.{least, least_taken, word_well, word_bad}

-- equal answers have one column
pub same_column : {c d : ℕ} → ◌≡◌ {A = Result LineForm BadLine} (Err (at_column c)) (Err (at_column d)) → c ≡ d
same_column {c} {d} e = let p : at_column c ≡ at_column d = cc in ap (λ (b : BadLine). b.column) p

-- what an answer promises
pub data Verdict (s : List ℕ) : Result LineForm BadLine → Type 0 where
  verdict_well : (f : LineForm) → Parsed s → Verdict s (Ok f)
  verdict_bad : (c : ℕ) → BadAt Parsed s c → Verdict s (Err (at_column c))

-- ---- the list of a step: any number of numbers

pub data ListJudged (L : List ℕ → Type 0) (s : List ℕ) : Result ℕ BadByte → Type 0 where
  list_well : (n : ℕ) → L s → ListJudged L s (Ok n)
  list_bad : (c : BadByte) → BadAt L s c.place → ListJudged L s (Err c)

module _ (L : List ℕ → Type 0) (s : List ℕ) where
  list_step : (f n a : ℕ) (ok : ℕ → Bool) → ((k : ℕ) → ok k ≡ true) → At L s a ok → length s < suc f + a
      → ((m i : ℕ) (ok : ℕ → Bool) → ((k : ℕ) → ok k ≡ true) → At L s i ok → length s < f + i
      → ListJudged L s (listed_from f m s i))
      → (r : Result (ℕ × ℕ) BadByte) → number_at s a ≡ r → (b : Bool) → ltb (length s) a ≡ b
      → ListJudged L s (cond b (Ok n) (past_entry (listed_from f (n + 1) s) r))
  unfolding past_entry
  list_step f n a ok o p h ih r q true b = list_well n (end_allowed L s a ok p (ltb-true (length s) a b) (o 0))
  list_step f n a ok o p h ih (Err c) q false b =
      let l : a ≤ length s = ltb-false (length s) a b in
      list_bad c (next_bad L s a ok p 0 (o 1) (λ g. absurd (omega arith)) c q)
  list_step f n a ok o p h ih (Ok (v, i)) q false b =
      let g = number_at_next s a v i q in
      ih (n + 1) i (λ k. ok (suc k)) (λ k. o (suc k)) (next_well L s a ok p v i q) (omega (arith, g.past))

  list_judged : (f n a : ℕ) (ok : ℕ → Bool) → ((k : ℕ) → ok k ≡ true) → At L s a ok → length s < f + a
      → ListJudged L s (listed_from f n s a)
  unfolding listed_from
  list_judged zero n a ok o p h = list_well n (end_allowed L s a ok p (omega arith) (o 0))
  list_judged (suc f) n a ok o p h =
      list_step f n a ok o p h (λ m i ok' o' p' h'. list_judged f m i ok' o' p' h') (number_at s a) refl
      (ltb (length s) a) refl

-- the part of a line behind e, read by itself
module _ (L : List ℕ → Type 0) (s : List ℕ) (e : ℕ) where
  abbrev Behind : List ℕ → Type 0
  Behind x = L (take e s ++ x)

  pub behind : (ok : ℕ → Bool) → Over L s e ok → At Behind (drop e s) 1 ok
  behind ok o = record {
    e = 0;
    next = refl;
    over = record { within = omega arith; tabbed = o.tabbed; to = o.to; from = o.from };
  }

  pub lift : (j : ℕ) → BadAt Behind (drop e s) j → e ≤ length s → BadAt L s (e + j)
  lift j b h = record {
    within = omega (arith, b.within, length-drop e s);
    start = let (x, l) = b.start in (x, subst L (shape j x) l);
    stop = λ g x l.
        let q : suc (e + j) ≡ e + suc j = omega arith in
        b.stop (omega (arith, length-drop e s)) x
        (subst L (ap (λ (i : ℕ). take i s ++ x) q ∙ sym (shape (suc j) x)) l);
    not_one = λ l. b.not_one (subst L (sym (take-append-drop e s)) l);
  }
    where
      shape : (i : ℕ) (x : List ℕ) → take e s ++ (take i (drop e s) ++ x) ≡ take (e + i) s ++ x
      shape i x =
          sym (append_assoc (take e s) (take i (drop e s)) x) ∙ ap (λ (y : List ℕ). y ++ x) (sym (take-add e i s))

-- ---- a word and its numbers

module _ (s : List ℕ) (a : ℕ) (ok : ℕ → Bool) (p : At Parsed s a ok) where
  -- one number
  module _ (w : Kind) (o0 : ok 0 ≡ false) (o1 : ok 1 ≡ true) (o2 : (k : ℕ) → ok (suc (suc k)) ≡ false) where
    one_last : (v n : ℕ) → At Parsed s n (λ k. ok (suc k)) → (b : Bool) → ltb (length s) n ≡ b
        → Verdict s (of_record s (cond b (Ok (R.Plain w v 0)) (Err (bad_byte (end_before n)))))
    unfolding of_record
    one_last v n g true b =
        verdict_well _ (end_allowed Parsed s n (λ k. ok (suc k)) g (ltb-true (length s) n b) o1)
    one_last v n g false b =
        verdict_bad (end_before n) (field_bad Parsed s n (λ k. ok (suc k)) g (ltb-false (length s) n b) o1 o2)

    pub one_judged : (r : Result (ℕ × ℕ) BadByte) → number_at s a ≡ r → Verdict s (of_record s (of_one w s r))
    unfolding of_one of_record
    one_judged (Err c) q = verdict_bad c.place (next_bad Parsed s a ok p 0 o1 (λ h. o0) c q)
    one_judged (Ok (v, n)) q = one_last v n (next_well Parsed s a ok p v n q) (ltb (length s) n) refl

  -- two numbers
  module _ (f : ℕ → ℕ → LineRecord) (form : ℕ → ℕ → LineForm)
      (fine : (x y : ℕ) → of_record s (Ok (f x y)) ≡ Ok (form x y))
      (o0 : ok 0 ≡ false) (o1 : ok 1 ≡ false) (o2 : ok 2 ≡ true) (o3 : (k : ℕ) → ok (suc (suc (suc k))) ≡ false) where
    two_last : (u v n : ℕ) → At Parsed s n (λ k. ok (suc (suc k))) → (b : Bool) → ltb (length s) n ≡ b
        → Verdict s (of_record s (of_pair f (cond b (Ok (u, v)) (Err (bad_byte (end_before n))))))
    unfolding of_pair of_record
    two_last u v n g true b =
        subst (Verdict s) (sym (fine u v))
        (verdict_well (form u v) (end_allowed Parsed s n (λ k. ok (suc (suc k))) g (ltb-true (length s) n b) o2))
    two_last u v n g false b =
        verdict_bad (end_before n) (field_bad Parsed s n (λ k. ok (suc (suc k))) g (ltb-false (length s) n b) o2 o3)

    two_then : (u n : ℕ) → At Parsed s n (λ k. ok (suc k)) → (r : Result (ℕ × ℕ) BadByte) → number_at s n ≡ r
        → Verdict s (of_record s (of_pair f (last_pair s (with_second u r))))
    unfolding with_second last_pair of_pair of_record
    two_then u n g (Err c) q = verdict_bad c.place (next_bad Parsed s n (λ k. ok (suc k)) g 0 o2 (λ h. o1) c q)
    two_then u n g (Ok (v, m)) q =
        two_last u v m (next_well Parsed s n (λ k. ok (suc k)) g v m q) (ltb (length s) m) refl

    two_first : (r : Result (ℕ × ℕ) BadByte) → number_at s a ≡ r
        → Verdict s (of_record s (of_pair f (last_pair s (with_first s r))))
    unfolding with_first last_pair of_pair of_record
    two_first (Err c) q = verdict_bad c.place (next_bad Parsed s a ok p 1 o2 (λ h. o0) c q)
    two_first (Ok (u, n)) q = two_then u n (next_well Parsed s a ok p u n q) (number_at s n) refl

    pub two_judged : Verdict s (of_record s (of_pair f (last_pair s (pair_at s a))))
    unfolding pair_at
    two_judged = two_first (number_at s a) refl

  -- two numbers, and any number of them
  module _ (w : Kind) (o0 : ok 0 ≡ false) (o1 : ok 1 ≡ false) (o2 : (k : ℕ) → ok (suc (suc k)) ≡ true) where
    many_last : (e : ℕ) → e ≤ length s → (u v : ℕ) {r : Result ℕ BadByte}
        → ListJudged (λ x. Parsed (take e s ++ x)) (drop e s) r
        → Verdict s (with_list w u v e r)
    unfolding with_list
    many_last e h u v (list_well n l) = verdict_well _ (subst Parsed (take-append-drop e s) l)
    many_last e h u v (list_bad c b) = verdict_bad (e + c.place) (lift Parsed s e c.place b h)

    -- the rest of the line from where the child's field ends
    many_rest : (u v n : ℕ) → At Parsed s n (λ k. ok (suc (suc k)))
        → Verdict s (with_list w u v (end_before n) (list_of (drop (end_before n) s)))
    unfolding list_of
    many_rest u v n g =
        let i = g.e in
        let z : i ≡ end_before n = omega (arith, g.next) in
        subst (λ (j : ℕ). Verdict s (with_list w u v j (list_of (drop j s)))) z
        (many_last i g.over.within u v
        (list_judged (λ x. Parsed (take i s ++ x)) (drop i s) (length (drop i s)) 0 1 (λ k. ok (suc (suc k))) o2
        (behind Parsed s i (λ k. ok (suc (suc k))) g.over) (omega arith)))

    many_then : (u n : ℕ) → At Parsed s n (λ k. ok (suc k)) → (r : Result (ℕ × ℕ) BadByte) → number_at s n ≡ r
        → Verdict s (of_record s (of_list w (with_second u r)))
    unfolding with_second of_list of_record
    many_then u n g (Err c) q = verdict_bad c.place (next_bad Parsed s n (λ k. ok (suc k)) g 0 (o2 0) (λ h. o1) c q)
    many_then u n g (Ok (v, m)) q = many_rest u v m (next_well Parsed s n (λ k. ok (suc k)) g v m q)

    many_first : (r : Result (ℕ × ℕ) BadByte) → number_at s a ≡ r → Verdict s (of_record s (of_list w (with_first s r)))
    unfolding with_first of_list of_record
    many_first (Err c) q = verdict_bad c.place (next_bad Parsed s a ok p 1 (o2 0) (λ h. o0) c q)
    many_first (Ok (u, n)) q = many_then u n (next_well Parsed s a ok p u n q) (number_at s n) refl

    pub many_judged : Verdict s (of_record s (of_list w (pair_at s a)))
    unfolding pair_at
    many_judged = many_first (number_at s a) refl

-- ---- the line

-- what stands behind the word of a kind that takes h
at_kind : (s : List ℕ) (k : Kind) (h : Shape) → shape_of k ≡ h → keyword_of (field_at s 0) ≡ Ok (W.Step k)
    → At Parsed s (next_start s 0) (takes_shape h)
unfolding takes
at_kind s k h q e =
    subst (λ (g : Shape). At Parsed s (next_start s 0) (takes_shape g)) q
    (word_well s (W.Step k) (least (shape_of k)) (least_taken (shape_of k)) e)

by_kind : (s : List ℕ) (k : Kind) (h : Shape) → shape_of k ≡ h → keyword_of (field_at s 0) ≡ Ok (W.Step k)
    → Verdict s (of_record s (after_kind s (next_start s 0) k h))
unfolding after_kind takes_shape of_record
by_kind s k H.One q e =
    one_judged s (next_start s 0) (takes_shape H.One) (at_kind s k H.One q e) k refl refl
    (λ k. ne_eqb (suc (suc k)) 1 (λ (z : suc (suc k) ≡ 1). omega arith)) (number_at s (next_start s 0)) refl
by_kind s k H.Two q e =
    two_judged s (next_start s 0) (takes_shape H.Two) (at_kind s k H.Two q e) (R.Plain k)
    (λ x y. F.Step k x y 0) (λ x y. refl) refl refl refl
    (λ k. ne_eqb (suc (suc (suc k))) 2 (λ (z : suc (suc (suc k)) ≡ 2). omega arith))
by_kind s k H.List q e =
    many_judged s (next_start s 0) (takes_shape H.List) (at_kind s k H.List q e) k refl refl
    (λ k. le-leb 2 (suc (suc k)) (omega arith))

by_word : (s : List ℕ) (w : Result Keyword BadByte) → keyword_of (field_at s 0) ≡ w
    → Verdict s (of_record s (after_word s (next_start s 0) w))
unfolding after_word takes of_record
by_word s (Ok W.Open) e =
    two_judged s (next_start s 0) (takes W.Open) (word_well s W.Open 2 refl e) R.Open F.Open
    (λ x y. refl) refl refl refl
    (λ k. ne_eqb (suc (suc (suc k))) 2 (λ (z : suc (suc (suc k)) ≡ 2). omega arith))
by_word s (Ok (W.Step k)) e = by_kind s k (shape_of k) refl e
by_word s (Err b) e = verdict_bad b.place (word_bad s b e)

-- the record's form is right: a well-formed line, or its column
pub verdict : (s : List ℕ) → Verdict s (of_record s (record_of s))
unfolding record_of
verdict s = by_word s (keyword_of (field_at s 0)) refl

-- so the column of a bad line is the one where it goes bad
pub verdict_column : {s : List ℕ} {r : Result LineForm BadLine} (c : ℕ) → Verdict s r → r ≡ Err (at_column c)
    → BadAt Parsed s c
verdict_column {s} c (verdict_bad d b) e = subst (BadAt Parsed s) (same_column e) b
verdict_column c (verdict_well f p) e = absurd (cc)
