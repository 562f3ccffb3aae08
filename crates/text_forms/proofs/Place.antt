-- A place in a line at which a field is over: what may follow, and what the reader of the next number says there. All
-- over any language L of lines, and any `ok` that says how many numbers may still follow, so that every form is a few
-- lines of Column.antt.
-- Assumes nothing.
use Prim.Native.Nat.{ℕ, zero, suc, ◌+◌, ◌≤◌, ◌<◌}
use mathlib.Core.List.{List, [], ◌∷◌, ◌++◌, append_assoc, append-nil}
use mathlib.Core.Bool.{Bool, true, false}
use mathlib.Core.Logic.{◌⊎◌, inl, inr}
use mathlib.Core.Path.{◌≡◌, refl, ap, sym, subst, ◌∙◌}
use native.Mathlib.Omega.{arith}
use native.Mathlib.Decide.{dec_lt}
use borrow.Author.Tests.{lt-ltb, le-ltb}
use lib.ListN.{length, take, drop, length-drop, take-append-drop}
use lib.Seq.{take-take, take_all, drop-drop, take-add, length-take-le}
use Rattle.words.proofs.BoolLaws.{true_is_not_false}
use Rattle.std.specs.Prelude.{Result, Ok, Err}
use Rattle.text_fields.specs.Fields.{bad_byte}
use Rattle.text_fields.specs.declared.BadByte.{BadByte}
use Rattle.text_fields.specs.Fields.{run_to_tab, field_end, field_at, next_start, run_to, end_from}
use Rattle.text_numbers.specs.Numbers.{largest, number_in, dec}
use Rattle.text_numbers.proofs.PrintLaws.{number_in_print, number_in_printed}
use Rattle.text_numbers.proofs.NumberLaws.{number_in_bad_within, never}
use Rattle.text_records.specs.Records.{end_before, placed, number_at}
use Rattle.text_forms.specs.Forms.{BadAt}
use Rattle.text_forms.proofs.Parsed.{Numbers}
use Rattle.text_fields.proofs.FieldLaws.{first_field, run_to_tab_most, run_to_tab_tab, run_to_tab_after_field}
use Rattle.text_fields.proofs.FieldLaws.{run_to_tab_none, same_place}
use Rattle.text_records.proofs.RecordLaws.{same_next}
use Rattle.text_fields.proofs.FieldLaws.{first_field_front, next_start_is}
use Rattle.text_forms.proofs.NumberFields.{dec_whole, dec_split, number_in_stable, Start, number_in_bad_start}

-- ---- numbers after tabs

pub zeros : (k : ℕ) → (x : List ℕ) × Numbers k x
zeros zero = ([], refl)
zeros (suc k) = let (x, h) = zeros k in (9 ∷ (dec 0 ++ x), (0, x, omega arith, refl, h))

cons_nil : {b : ℕ} {x : List ℕ} {A : Type 0} → b ∷ x ≡ [] → A
cons_nil {b} {x} e = let z : suc (length x) ≡ 0 = ap length e in absurd (omega arith)

tail_of : (b c : ℕ) (x y : List ℕ) → b ∷ x ≡ c ∷ y → x ≡ y
tail_of b c x y e = cc

pub numbers_tabbed : (k : ℕ) (x : List ℕ) → Numbers k x → run_to_tab x ≡ 0
unfolding run_to
numbers_tabbed zero x e = rw e
numbers_tabbed (suc k) x (n, y, m, e, h) = rw e

pub no_numbers : (k : ℕ) → Numbers k [] → k ≡ 0
no_numbers zero e = refl
no_numbers (suc k) (n, y, m, e, h) = cons_nil (sym e)

-- ---- the place after a field

-- The first e bytes of s begin a line of L, a field is over there, and exactly `ok` many numbers make such a
-- beginning a line.
pub record Over (L : List ℕ → Type 0) (s : List ℕ) (e : ℕ) (ok : ℕ → Bool) : Type 0 where
  pub within : e ≤ length s
  pub tabbed : run_to_tab (drop e s) ≡ 0
  pub to : (k : ℕ) (x : List ℕ) → ok k ≡ true → Numbers k x → L (take e s ++ x)
  pub from : (x : List ℕ) → run_to_tab x ≡ 0 → L (take e s ++ x) → (k : ℕ) × (ok k ≡ true) × Numbers k x

drop_tail : (s : List ℕ) (e : ℕ) (x : List ℕ) → drop e s ≡ 9 ∷ x → drop (e + 1) s ≡ x
drop_tail s e x h = sym (drop-drop 1 e s) ∙ ap (λ (r : List ℕ). drop 1 r) h

module _ (L : List ℕ → Type 0) (s : List ℕ) (e : ℕ) (ok : ℕ → Bool) (a : Over L s e ok) where
  -- the line ends here, as it may
  end_well : length s ≤ e → ok 0 ≡ true → L s
  end_well h o = subst L (append-nil (take e s) ∙ take_all e s h) (a.to 0 [] o refl)

  -- the line ends here, too early
  end_bad : length s ≤ e → (k : ℕ) → ok k ≡ true → ok 0 ≡ false → BadAt L s e
  end_bad h k o z = record {
    within = a.within;
    start = let (x, n) = zeros k in (x, a.to k x o n);
    stop = λ b. absurd (omega arith);
    not_one =
        λ l. no (a.from [] (numbers_tabbed 0 [] refl) (subst L (sym (append-nil (take e s) ∙ take_all e s h)) l));
  }
    where
      no : (k : ℕ) × (ok k ≡ true) × Numbers k [] → ⊥
      no (k, o, n) = true_is_not_false (sym (subst (λ (i : ℕ). ok i ≡ true) (no_numbers k n) o) ∙ z)

  module _ (h : e < length s) where
    abbrev rest : List ℕ
    rest = drop (e + 1) s

    cut : drop e s ≡ 9 ∷ rest
    cut =
        let (x, p) = run_to_tab_none (drop e s) a.tabbed (omega (arith, length-drop e s)) in
        p ∙ ap (λ (y : List ℕ). 9 ∷ y) (sym (drop_tail s e x p))

    -- the first bytes, up to n past the tab
    front : (n : ℕ) → take (e + 1 + n) s ≡ take e s ++ 9 ∷ take n rest
    front n =
        let q : e + 1 + n ≡ e + suc n = omega arith in
        ap (λ (i : ℕ). take i s) q ∙ take-add e (suc n) s ∙ ap (λ (r : List ℕ). take e s ++ take (suc n) r) cut

    whole : s ≡ take e s ++ 9 ∷ rest
    whole = sym (take-append-drop e s) ∙ ap (λ (r : List ℕ). take e s ++ r) cut

    -- a line of L that begins so has a number there
    numbered : (x : List ℕ) → L (take e s ++ 9 ∷ x) → (k : ℕ) × (ok (suc k) ≡ true) × (m : ℕ) × (y : List ℕ)
        × (m ≤ largest) × (x ≡ dec m ++ y) × Numbers k y
    numbered x l = go (a.from (9 ∷ x) (run_to_tab_tab x) l)
      where
        go : (k : ℕ) × (ok k ≡ true) × Numbers k (9 ∷ x) → (k : ℕ) × (ok (suc k) ≡ true) × (m : ℕ) × (y : List ℕ)
            × (m ≤ largest) × (x ≡ dec m ++ y) × Numbers k y
        go (zero, o, n) = cons_nil n
        go (suc k, o, (m, y, b, q, n)) = (k, o, m, y, b, tail_of _ _ _ _ q, n)

    -- a tab where the line has to end
    tab_bad : ok 0 ≡ true → ((k : ℕ) → ok (suc k) ≡ false) → BadAt L s e
    tab_bad o z = record {
      within = a.within;
      start = ([], a.to 0 [] o refl);
      stop = λ b x l. no (x) (subst L (ap (λ (r : List ℕ). r ++ x) (step) ∙ append_assoc (take e s) (9 ∷ []) x) l);
      not_one = λ l. no rest (subst L whole l);
    }
      where
        no : (x : List ℕ) → L (take e s ++ 9 ∷ x) → ⊥
        no x l = let r = numbered x l in true_is_not_false (sym r.1 ∙ z r.0)

        step : take (suc e) s ≡ take e s ++ 9 ∷ []
        step = let q : suc e ≡ e + 1 + 0 = omega arith in ap (λ (i : ℕ). take i s) q ∙ front 0

    -- a number, and then a place after a field
    number_well : (v : ℕ) → number_in (first_field rest) ≡ Ok v → Over L s (e + 1 + run_to_tab rest) (λ k. ok (suc k))
    number_well v n = record {
      within = omega (arith, run_to_tab_most rest, length-drop (e + 1) s);
      tabbed = ap run_to_tab (sym (drop-drop (run_to_tab rest) (e + 1) s)) ∙ run_to_tab_after_field rest;
      to = λ k x o m. subst L (shape x)
          (a.to (suc k) (9 ∷ (dec v ++ x)) o (v, x, (number_in_printed (first_field rest) v n).0, refl, m));
      from = λ x z l. go x z (numbered (dec v ++ x) (subst L (sym (shape x)) l));
    }
      where
        shape : (x : List ℕ) → take e s ++ 9 ∷ (dec v ++ x) ≡ take (e + 1 + run_to_tab rest) s ++ x
        shape x =
            ap (λ (f : List ℕ). take e s ++ 9 ∷ (f ++ x)) (sym (number_in_printed (first_field rest) v n).1)
            ∙ sym (append_assoc (take e s) (9 ∷ first_field rest) x)
            ∙ ap (λ (r : List ℕ). r ++ x) (sym (front (run_to_tab rest)))

        go : (x : List ℕ) → run_to_tab x ≡ 0 → (k : ℕ) × (ok (suc k) ≡ true) × (m : ℕ) × (y : List ℕ) × (m ≤ largest)
            × (dec v ++ x ≡ dec m ++ y) × Numbers k y
            → (k : ℕ) × (ok (suc k) ≡ true) × Numbers k x
        go x z (k, o, m, y, b, q, t) =
            let w = dec_split (dec v) x y m (dec_whole v (number_in_printed (first_field rest) v n).0) z b
            (numbers_tabbed k y t) q in
            (k, o, subst (Numbers k) (sym w.1) t)

    -- a number that goes bad
    number_bad : (k : ℕ) → ok (suc k) ≡ true → (j : ℕ) → number_in (first_field rest) ≡ Err (bad_byte j)
        → j ≤ run_to_tab rest
        → BadAt L s (e + 1 + j)
    number_bad k o j n w = record {
      within = omega (arith, run_to_tab_most rest, length-drop (e + 1) s);
      start = begin (number_in_bad_start (first_field rest) j n);
      stop = λ b x l.
          let p : suc (e + 1 + j) ≡ e + 1 + suc j = omega arith in
          no (take (suc j) rest ++ x) (number_in_stable rest j x n (omega (arith, length-drop (e + 1) s)))
          (subst L (ap (λ (i : ℕ). take i s ++ x) p ∙ ap (λ (r : List ℕ). r ++ x) (front (suc j))
          ∙ append_assoc (take e s) (9 ∷ take (suc j) rest) x) l);
      not_one = λ l. no rest n (subst L whole l);
    }
      where
        begin : Start (take j (first_field rest)) → (x : List ℕ) × L (take (e + 1 + j) s ++ x)
        begin b =
            let (y, z) = zeros k in
            let f : take j (first_field rest) ≡ take j rest = take-take j (run_to_tab rest) rest w in (
              b.more ++ y,
              subst L
                  (ap (λ (r : List ℕ). take e s ++ 9 ∷ (r ++ y)) (sym b.text)
                  ∙ ap (λ (r : List ℕ). take e s ++ 9 ∷ r) (append_assoc (take j (first_field rest)) b.more y)
                  ∙ ap (λ (r : List ℕ). take e s ++ 9 ∷ (r ++ (b.more ++ y))) f
                  ∙ sym (append_assoc (take e s) (9 ∷ take j rest) (b.more ++ y))
                  ∙ ap (λ (r : List ℕ). r ++ (b.more ++ y)) (sym (front j)))
                  (a.to (suc k) (9 ∷ (dec b.number ++ y)) o (b.number, y, b.most, refl, z)),
            )

        no : (r : List ℕ) → number_in (first_field r) ≡ Err (bad_byte j) → L (take e s ++ 9 ∷ r) → ⊥
        no r n l =
            let (k, o, m, y, b, q, t) = numbered r l in
            let f : first_field r ≡ dec m =
            ap first_field q ∙ first_field_front (dec m) y (dec_whole m b) (numbers_tabbed k y t) in
            let c = sym (number_in_print m b) ∙ ap number_in (sym f) ∙ n in
            never c

-- ---- what the reader of one number says

number_told : (s : List ℕ) (a : ℕ) (r : Result (ℕ × ℕ) BadByte) → number_at s a ≡ r → Dec (length s < a)
    → ((length s < a) × (r ≡ Err (bad_byte (length s))))
    ⊎ ((a ≤ length s) × (r ≡ placed a (next_start s a) (number_in (field_at s a))))
unfolding number_at
number_told s a r q (yes h) = inl (h, sym q ∙ rw (lt-ltb (length s) a h))
number_told s a r q (no h) = inr (omega arith, sym q ∙ rw (le-ltb (length s) a (omega arith)))

length_field : (r : List ℕ) → length (first_field r) ≡ run_to_tab r
length_field r = length-take-le (run_to_tab r) r (run_to_tab_most r)

-- The next field starts at a, if there is one: the field before it is over at e, and a follows.
pub record At (L : List ℕ → Type 0) (s : List ℕ) (a : ℕ) (ok : ℕ → Bool) : Type 0 where
  pub e : ℕ
  pub next : a ≡ e + 1
  pub over : Over L s e ok

module _ (L : List ℕ → Type 0) (s : List ℕ) (e : ℕ) (ok : ℕ → Bool) (o : Over L s e ok) where
  over_well : (v n : ℕ) → number_at s (e + 1) ≡ Ok (v, n) → At L s n (λ k. ok (suc k))
  unfolding placed field_end end_from field_at
  over_well v n q = go (number_told s (e + 1) (Ok (v, n)) q (dec_lt (length s) (e + 1)))
    where
      at : e + 1 ≤ length s → (m : Result ℕ BadByte) → number_in (first_field (drop (e + 1) s)) ≡ m
          → ◌≡◌ {A = Result (ℕ × ℕ) BadByte} (Ok (v, n)) (placed (e + 1) (next_start s (e + 1)) m)
          → At L s n (λ k. ok (suc k))
      at h (Ok w) p r =
          let z : n ≡ next_start s (e + 1) = same_next r in record {
            e = e + 1 + run_to_tab (drop (e + 1) s);
            next = z ∙ next_start_is s (e + 1) h;
            over = number_well L s e ok o (omega arith) w p;
          }
      at h (Err j) p r = absurd (cc)

      go : ((length s < e + 1) × (◌≡◌ {A = Result (ℕ × ℕ) BadByte} (Ok (v, n)) (Err (bad_byte (length s)))))
          ⊎ ((e + 1 ≤ length s) × (◌≡◌ {A = Result (ℕ × ℕ) BadByte} (Ok (v, n))
          (placed (e + 1) (next_start s (e + 1)) (number_in (field_at s (e + 1))))))
          → At L s n (λ k. ok (suc k))
      go (inl (h, r)) = absurd (cc)
      go (inr (h, r)) = at h (number_in (first_field (drop (e + 1) s))) refl r

  over_bad : (k : ℕ) → ok (suc k) ≡ true → (length s ≤ e → ok 0 ≡ false) → (c : BadByte) → number_at s (e + 1) ≡ Err c
      → BadAt L s c.place
  unfolding placed field_at
  over_bad k t f c q = go (number_told s (e + 1) (Err c) q (dec_lt (length s) (e + 1)))
    where
      at : e + 1 ≤ length s → (m : Result ℕ BadByte) → number_in (first_field (drop (e + 1) s)) ≡ m
          → ◌≡◌ {A = Result (ℕ × ℕ) BadByte} (Err c) (placed (e + 1) (next_start s (e + 1)) m) → BadAt L s c.place
      at h (Ok w) p r = absurd (cc)
      at h (Err j) p r =
          let z : c.place ≡ e + 1 + j.place = same_place r in
          subst (BadAt L s) (sym z)
          (number_bad L s e ok o (omega arith) k t j.place p
          (omega (arith, length_field (drop (e + 1) s), number_in_bad_within (first_field (drop (e + 1) s)) j p)))

      go : ((length s < e + 1) × (◌≡◌ {A = Result (ℕ × ℕ) BadByte} (Err c) (Err (bad_byte (length s)))))
          ⊎ ((e + 1 ≤ length s) × (◌≡◌ {A = Result (ℕ × ℕ) BadByte} (Err c)
          (placed (e + 1) (next_start s (e + 1)) (number_in (field_at s (e + 1))))))
          → BadAt L s c.place
      go (inl (h, r)) =
          let y : c.place ≡ length s = same_place r in
          let z : e ≡ c.place = omega (arith, o.within) in
          subst (BadAt L s) z (end_bad L s e ok o (omega arith) (suc k) t (f (omega arith)))
      go (inr (h, r)) = at h (number_in (first_field (drop (e + 1) s))) refl r

-- at the place where the next field starts: the line is over, has one field too many, or goes on with a number
module _ (L : List ℕ → Type 0) (s : List ℕ) (a : ℕ) (ok : ℕ → Bool) (p : At L s a ok) where
  pub end_allowed : length s < a → ok 0 ≡ true → L s
  end_allowed h o = end_well L s p.e ok p.over (omega (arith, p.next)) o

  pub field_bad : a ≤ length s → ok 0 ≡ true → ((k : ℕ) → ok (suc k) ≡ false) → BadAt L s (end_before a)
  field_bad h o z =
      let k : p.e ≡ end_before a = omega (arith, p.next) in
      subst (BadAt L s) k (tab_bad L s p.e ok p.over (omega (arith, p.next)) o z)

  pub next_well : (v n : ℕ) → number_at s a ≡ Ok (v, n) → At L s n (λ k. ok (suc k))
  next_well v n q = over_well L s p.e ok p.over v n (subst (λ (i : ℕ). number_at s i ≡ Ok (v, n)) p.next q)

  pub next_bad : (k : ℕ) → ok (suc k) ≡ true → (length s < a → ok 0 ≡ false) → (c : BadByte) → number_at s a ≡ Err c
      → BadAt L s c.place
  next_bad k o f c q =
      over_bad L s p.e ok p.over k o (λ h. f (omega (arith, p.next))) c
      (subst (λ (i : ℕ). number_at s i ≡ Err c) p.next q)
