-- Numbers in fields, over the definitions of `text_fields` and `text_numbers` alone: what is read as a number has no
-- tab, a bad field stays bad at the same place whatever follows its bad byte, and up to that byte it is the start of
-- a number.
-- Assumes nothing.
use Prim.Native.Nat.{ℕ, zero, suc, ◌+◌, ◌*◌, ◌≤◌, ◌<◌}
use mathlib.Core.List.{List, [], ◌∷◌, ◌++◌, append-nil}
use mathlib.Core.Bool.{Bool, true, false}
use mathlib.Core.Path.{◌≡◌, refl, ap, sym, subst, ◌∙◌}
use native.Mathlib.Omega.{arith}
use lib.Dec.{eqb, leb, ltb}
use borrow.Author.Tests.{ne_eqb, ltb-true, eqb-true}
use lib.ListN.{length, take, drop}
use Rattle.text_fields.specs.Fields.{run_to_tab, run_to}
use Rattle.text_fields.proofs.FieldLaws.{first_field, first_field_front, first_field_rest, same_place}
use Rattle.text_numbers.specs.Numbers.{largest, digit_of, digits_from, after_zero, number_in, dec}
use Rattle.std.specs.Prelude.{Result, Ok, Err}
use Rattle.text_fields.specs.Fields.{bad_byte}
use Rattle.text_fields.specs.declared.BadByte.{BadByte}
use Rattle.text_numbers.proofs.NumberLaws.{never}
use Rattle.text_numbers.proofs.PrintLaws.{number_in_print, number_in_printed}

-- the answer of a reader of numbers that stops at the place k
abbrev bad : ℕ → Result ℕ BadByte
bad k = Err (bad_byte k)

-- ---- numbers have no tab

digit_no_tab : (b : ℕ) → digit_of b < 10 → b ≡ 9 → ⊥
unfolding digit_of
digit_no_tab b h e = omega (arith, rw e at h)

-- what is read as a number has no tab
digits_from_whole : (s : List ℕ) (v k n : ℕ) → digits_from v k s ≡ Ok n → run_to_tab s ≡ length s
unfolding digits_from run_to
digits_from_whole [] v k n e = refl
digits_from_whole (b ∷ s) v k n e =
    go (ltb (digit_of b) 10) refl (leb (v * 10 + digit_of b) largest) refl e
    (digits_from_whole s (v * 10 + digit_of b) (k + 1) n)
  where
    go : (x : Bool) → ltb (digit_of b) 10 ≡ x → (y : Bool) → leb (v * 10 + digit_of b) largest ≡ y
        → digits_from v k (b ∷ s) ≡ Ok n
        → (digits_from (v * 10 + digit_of b) (k + 1) s ≡ Ok n → run_to_tab s ≡ length s)
        → run_to_tab (b ∷ s) ≡ suc (length s)
    go false p y q e ih = never (sym (rw p at e))
    go true p false q e ih = never (sym (rw (p, q) at e))
    go true p true q e ih = rw (ne_eqb b 9 (digit_no_tab b (ltb-true _ _ p))) (ap suc (ih (rw (p, q) at e)))

pub number_in_whole : (s : List ℕ) (n : ℕ) → number_in s ≡ Ok n → run_to_tab s ≡ length s
unfolding number_in after_zero run_to
number_in_whole [] n e = never (sym e)
number_in_whole (b ∷ s) n e = go (eqb b 48) refl s e
  where
    go : (x : Bool) → eqb b 48 ≡ x → (s : List ℕ) → number_in (b ∷ s) ≡ Ok n → run_to_tab (b ∷ s) ≡ suc (length s)
    go true p [] e = rw (ne_eqb b 9 (λ (z : b ≡ 9). omega (arith, eqb-true b 48 p)))
    go true p (a ∷ s) e = never (sym (rw p at e))
    go false p s e = digits_from_whole (b ∷ s) 0 0 n (rw p at e)

pub dec_whole : (n : ℕ) → n ≤ largest → run_to_tab (dec n) ≡ length (dec n)
dec_whole n h = number_in_whole (dec n) n (number_in_print n h)

-- a number, and a tab or the end: what stands there is told by the list
pub dec_split : (f x y : List ℕ) (m : ℕ) → run_to_tab f ≡ length f → run_to_tab x ≡ 0 → m ≤ largest → run_to_tab y ≡ 0
    → f ++ x ≡ dec m ++ y → (f ≡ dec m) × (x ≡ y)
dec_split f x y m h z l w e = (
  sym (first_field_front f x h z) ∙ ap first_field e ∙ first_field_front (dec m) y (dec_whole m l) w,
  sym (first_field_rest f x h z) ∙ ap (λ (r : List ℕ). drop (run_to_tab r) r) e
      ∙ first_field_rest (dec m) y (dec_whole m l) w,
)

-- ---- where a number goes bad

digits_from_low : (s : List ℕ) (v k j : ℕ) → digits_from v k s ≡ bad j → k ≤ j
unfolding digits_from
digits_from_low [] v k j e = never e
digits_from_low (b ∷ s) v k j e =
    go (ltb (digit_of b) 10) refl (leb (v * 10 + digit_of b) largest) refl e
    (digits_from_low s (v * 10 + digit_of b) (k + 1) j)
  where
    go : (x : Bool) → ltb (digit_of b) 10 ≡ x → (y : Bool) → leb (v * 10 + digit_of b) largest ≡ y
        → digits_from v k (b ∷ s) ≡ bad j
        → (digits_from (v * 10 + digit_of b) (k + 1) s ≡ bad j → k + 1 ≤ j) → k ≤ j
    go false p y q e ih = let r = rw p at e in let z : k ≡ j = same_place r in omega arith
    go true p false q e ih = let r = rw (p, q) at e in let z : k ≡ j = same_place r in omega arith
    go true p true q e ih = omega (arith, ih (rw (p, q) at e))

digits_from_up : (b v k : ℕ) (s : List ℕ) → ltb (digit_of b) 10 ≡ true → leb (v * 10 + digit_of b) largest ≡ true
    → (n : ℕ) × (digits_from (v * 10 + digit_of b) (k + 1) s ≡ Ok n) → (n : ℕ) × (digits_from v k (b ∷ s) ≡ Ok n)
unfolding digits_from
digits_from_up b v k s p q (n, h) = (n, rw (p, q) h)

-- up to its bad byte it is a number
digits_from_prefix : (s : List ℕ) (v k i : ℕ) → digits_from v k s ≡ bad (k + i)
    → (n : ℕ) × (digits_from v k (take i s) ≡ Ok n)
unfolding digits_from
digits_from_prefix s v k zero e = (v, refl)
digits_from_prefix [] v k (suc i) e = never e
digits_from_prefix (b ∷ s) v k (suc i) e =
    go (ltb (digit_of b) 10) refl (leb (v * 10 + digit_of b) largest) refl e
    (digits_from_prefix s (v * 10 + digit_of b) (k + 1) i)
  where
    go : (x : Bool) → ltb (digit_of b) 10 ≡ x → (y : Bool) → leb (v * 10 + digit_of b) largest ≡ y
        → digits_from v k (b ∷ s) ≡ bad (k + suc i)
        → (digits_from (v * 10 + digit_of b) (k + 1) s ≡ bad (k + 1 + i)
        → (n : ℕ) × (digits_from (v * 10 + digit_of b) (k + 1) (take i s) ≡ Ok n))
        → (n : ℕ) × (digits_from v k (b ∷ take i s) ≡ Ok n)
    go false p y q e ih = let r = rw p at e in let z : k ≡ k + suc i = same_place r in absurd (omega arith)
    go true p false q e ih = let r = rw (p, q) at e in let z : k ≡ k + suc i = same_place r in absurd (omega arith)
    go true p true q e ih =
        let z : k + suc i ≡ k + 1 + i = omega arith in
        digits_from_up b v k (take i s) p q (ih ((rw (p, q) at e) ∙ ap bad z))

-- and nothing that begins with it and its bad byte is one
digits_from_stable : (r : List ℕ) (v k i : ℕ) (x : List ℕ) → digits_from v k (first_field r) ≡ bad (k + i)
    → digits_from v k (first_field (take (suc i) r ++ x)) ≡ bad (k + i)
unfolding digits_from run_to
digits_from_stable [] v k i x e = never e
digits_from_stable (b ∷ r) v k i x e =
    tab (eqb b 9) refl i e (λ i'. digits_from_stable r (v * 10 + digit_of b) (k + 1) i' x)
  where
    on : eqb b 9 ≡ false → (p : Bool) → ltb (digit_of b) 10 ≡ p → (y : Bool) → leb (v * 10 + digit_of b) largest ≡ y
        → (i : ℕ) → digits_from v k (b ∷ first_field r) ≡ bad (k + i)
        → ((i' : ℕ) → digits_from (v * 10 + digit_of b) (k + 1) (first_field r) ≡ bad (k + 1 + i')
        → digits_from (v * 10 + digit_of b) (k + 1) (first_field (take (suc i') r ++ x)) ≡ bad (k + 1 + i'))
        → digits_from v k (b ∷ first_field (take i r ++ x)) ≡ bad (k + i)
    on t false p y q i e ih = rw p (rw p at e)
    on t true p false q i e ih = rw (p, q) (rw (p, q) at e)
    on t true p true q zero e ih =
        absurd (omega (arith, digits_from_low (first_field r) (v * 10 + digit_of b) (k + 1) (k + 0) (rw (p, q) at e)))
    on t true p true q (suc i) e ih =
        let z : k + suc i ≡ k + 1 + i = omega arith in
        rw (p, q) (ih i ((rw (p, q) at e) ∙ ap bad z) ∙ ap bad (sym z))

    tab : (t : Bool) → eqb b 9 ≡ t → (i : ℕ) → digits_from v k (first_field (b ∷ r)) ≡ bad (k + i)
        → ((i' : ℕ) → digits_from (v * 10 + digit_of b) (k + 1) (first_field r) ≡ bad (k + 1 + i')
        → digits_from (v * 10 + digit_of b) (k + 1) (first_field (take (suc i') r ++ x)) ≡ bad (k + 1 + i'))
        → digits_from v k (first_field (b ∷ (take i r ++ x))) ≡ bad (k + i)
    tab true t i e ih = never (rw t at e)
    tab false t i e ih =
        rw t (on t (ltb (digit_of b) 10) refl (leb (v * 10 + digit_of b) largest) refl i (rw t at e) ih)

pub number_in_stable : (r : List ℕ) (j : ℕ) (x : List ℕ) → number_in (first_field r) ≡ bad j → j < length r
    → number_in (first_field (take (suc j) r ++ x)) ≡ bad j
unfolding number_in after_zero run_to
number_in_stable [] j x e h = absurd (omega arith)
number_in_stable (b ∷ r) j x e h = tab (eqb b 9) refl j e
  where
    zero_at : eqb b 48 ≡ true → (r : List ℕ) (j : ℕ) → after_zero (first_field r) ≡ bad j
        → after_zero (first_field (take j r ++ x)) ≡ bad j
    zero_at p [] j e = never e
    zero_at p (a ∷ r) j e = go (eqb a 9) refl j e
      where
        go : (t : Bool) → eqb a 9 ≡ t → (j : ℕ) → after_zero (first_field (a ∷ r)) ≡ bad j
            → after_zero (first_field (take j (a ∷ r) ++ x)) ≡ bad j
        go true t j e = never (rw t at e)
        go false t j e =
            let y = rw t at e in
            let z : 1 ≡ j = same_place y in
            rw (← z, t)

    on : (p : Bool) → eqb b 48 ≡ p → eqb b 9 ≡ false → (j : ℕ) → number_in (b ∷ first_field r) ≡ bad j
        → number_in (b ∷ first_field (take j r ++ x)) ≡ bad j
    on true p t j e = rw p (zero_at p r j (rw p at e))
    on false p t j e =
        let z : digits_from 0 0 (first_field (b ∷ r)) ≡ bad (0 + j) = rw t ((rw p at e) ∙ ap bad (omega arith)) in
        let w : digits_from 0 0 (b ∷ first_field (take j r ++ x)) ≡ bad (0 + j) =
        rw t at (digits_from_stable (b ∷ r) 0 0 j x z) in
        rw p (w ∙ ap bad (omega arith))

    tab : (t : Bool) → eqb b 9 ≡ t → (j : ℕ) → number_in (first_field (b ∷ r)) ≡ bad j
        → number_in (first_field (b ∷ (take j r ++ x))) ≡ bad j
    tab true t j e = rw t (rw t at e)
    tab false t j e = rw t (on (eqb b 48) refl t j (rw t at e))

-- the start of a number
pub record Start (f : List ℕ) : Type 0 where
  pub number : ℕ
  pub most : number ≤ largest
  pub more : List ℕ
  pub text : f ++ more ≡ dec number

zero_start : Start []
zero_start = record { number = 0; most = omega arith; more = dec 0; text = refl }

is_start : (f : List ℕ) (n : ℕ) → number_in f ≡ Ok n → Start f
is_start f n e =
    let p = number_in_printed f n e in
    record { number = n; most = p.0; more = []; text = append-nil f ∙ p.1 }

pub number_in_bad_start : (f : List ℕ) (j : ℕ) → number_in f ≡ bad j → Start (take j f)
unfolding number_in after_zero
number_in_bad_start f zero e = zero_start
number_in_bad_start [] (suc j) e = zero_start
number_in_bad_start (b ∷ f) (suc j) e = go (eqb b 48) refl f j e
  where
    go : (x : Bool) → eqb b 48 ≡ x → (f : List ℕ) (j : ℕ) → number_in (b ∷ f) ≡ bad (suc j) → Start (b ∷ take j f)
    go true p [] j e = never (rw p at e)
    go true p (a ∷ f) j e =
        let y = rw p at e in
        let z : 1 ≡ suc j = same_place y in
        let w : 0 ≡ j = omega arith in
        subst (λ (i : ℕ). Start (b ∷ take i (a ∷ f))) w (is_start (b ∷ []) 0 (rw p))
    go false p f j e =
        let h = digits_from_prefix (b ∷ f) 0 0 (suc j) ((rw p at e) ∙ ap bad (omega arith)) in
        is_start (b ∷ take j f) h.0 (rw p h.1)
