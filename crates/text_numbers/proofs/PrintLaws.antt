-- Laws of `dec`, the printing half of specs/Numbers.antt: that a printed number is read back, that nothing else is
-- read as it, the form by its last digit, and how many digits there are. Printed digits are read from the left with
-- the value so far as the state.
-- Assumes nothing.
use Prim.Native.Nat.{ℕ, zero, suc, ◌+◌, ◌*◌, ◌/◌, ◌%◌, ◌≤◌, ◌<◌}
use mathlib.Core.List.{List, [], ◌∷◌, ◌++◌, append_assoc, append-nil}
use mathlib.Core.Bool.{Bool, true, false}
use mathlib.Core.Path.{◌≡◌, refl, ap, sym, ◌∙◌}
use native.Mathlib.Omega.{arith}
use native.Mathlib.Decide.{dec_lt}
use borrow.Author.Tests.{ne_eqb, lt-ltb, le-ltb, le-leb, ltb-true, ltb-false, leb-true, eqb-true, eqb-false}
use lib.Dec.{ltb, leb, eqb}
use lib.ListN.{length, length-append}
use Rattle.text_buffers.specs.Buffers.{Wrote, Added}
use Rattle.text_buffers.proofs.BufferLaws.{wrote_none, wrote_added, added_added}
use Rattle.std.specs.Prelude.{Ok}
use Rattle.text_numbers.specs.Numbers.{largest, digit_of, digits_from, after_zero, number_in, dec_within, dec}
use Rattle.text_numbers.specs.Numbers.{last_three}
use Rattle.text_numbers.proofs.NumberLaws.{never}

lim : ℕ → ℕ
lim zero = 1
lim (suc f) = lim f * 10

digit_of_lem : (d : ℕ) → d < 10 → digit_of (48 + d) ≡ d
unfolding digit_of
digit_of_lem d h = rw (le-ltb (48 + d) 48 (omega arith), le-ltb 57 (48 + d) (omega arith)) (omega arith)

more_digit : (v k d : ℕ) (t : List ℕ) → d < 10 → v * 10 + d ≤ largest
    → digits_from v k ((48 + d) ∷ t) ≡ digits_from (v * 10 + d) (k + 1) t
unfolding digits_from
more_digit v k d t h o = rw (digit_of_lem d h, lt-ltb d 10 h, le-leb (v * 10 + d) largest o)

dec_one : (f n : ℕ) → n < 10 → dec_within (suc f) n ≡ (48 + n) ∷ []
unfolding dec_within
dec_one f n h = rw (lt-ltb n 10 h)

dec_more : (f n : ℕ) → 10 ≤ n → dec_within (suc f) n ≡ dec_within f (n / 10) ++ ((48 + n % 10) ∷ [])
unfolding dec_within
dec_more f n h = rw (le-ltb n 10 h)

head_nonzero : (d : ℕ) (t : List ℕ) → 0 < d → number_in ((48 + d) ∷ t) ≡ digits_from 0 0 ((48 + d) ∷ t)
unfolding number_in
head_nonzero d t h = rw (ne_eqb (48 + d) 48 (λ e. omega arith))

-- n's printed form, before any rest t, is read up to t with the value n
abbrev Reads : ℕ → ℕ → Type 0
Reads f n = (t : List ℕ) → 0 < n → n ≤ largest → n < lim f
    → (k : ℕ) × (number_in (dec_within f n ++ t) ≡ digits_from n k t)

reads_step : (f n : ℕ) → Reads f (n / 10) → Dec (n < 10) → Reads (suc f) n
unfolding lim
reads_step f n ih (yes h) t p m l = (
  0 + 1,
  rw (dec_one f n h) (head_nonzero n t p ∙ more_digit 0 0 n t h (omega arith)
      ∙ ap (λ (v : ℕ). digits_from v (0 + 1) t) (omega arith)),
)
reads_step f n ih (no h) t p m l =
    let r = ih ((48 + n % 10) ∷ t) (omega arith) (omega arith) (omega arith) in (
      r.0 + 1,
      rw (dec_more f n (omega arith), append_assoc)
          (r.1 ∙ more_digit (n / 10) r.0 (n % 10) t (omega arith) (omega arith)
          ∙ ap (λ (v : ℕ). digits_from v (r.0 + 1) t) (omega arith)),
    )

reads : (f n : ℕ) → Reads f n
unfolding lim
reads zero n = λ t p m l. absurd (omega arith)
reads (suc f) n = reads_step f n (reads f (n / 10)) (dec_lt n 10)

pub number_in_print : (n : ℕ) → n ≤ largest → number_in (dec n) ≡ Ok n
unfolding dec lim digits_from number_in after_zero dec_within
number_in_print zero m = refl
number_in_print (suc n) m =
    let r = reads 10 (suc n) [] (omega arith) m (omega arith) in
    rw append-nil at r.1

-- the other way: what is read as n is n's printed form
byte_of : (b : ℕ) → digit_of b < 10 → 48 + digit_of b ≡ b
unfolding digit_of
byte_of b h = go (ltb b 48) refl (ltb 57 b) refl
  where
    go : (x : Bool) → ltb b 48 ≡ x → (y : Bool) → ltb 57 b ≡ y → 48 + digit_of b ≡ b
    go true p y q = absurd (omega (arith, rw p at h))
    go false p true q = absurd (omega (arith, rw (p, q) at h))
    go false p false q = rw (p, q) (omega (arith, ltb-false b 48 p))

fuel_step : (f n : ℕ) → (n / 10 < lim (suc f) → dec_within (suc f) (n / 10) ≡ dec_within (suc (suc f)) (n / 10))
    → Dec (n < 10)
    → n < lim (suc (suc f)) → dec_within (suc (suc f)) n ≡ dec_within (suc (suc (suc f))) n
unfolding lim
fuel_step f n ih (yes h) l = rw (dec_one (suc f) n h, dec_one (suc (suc f)) n h)
fuel_step f n ih (no h) l =
    rw (dec_more (suc f) n (omega arith), dec_more (suc (suc f)) n (omega arith), ih (omega arith))

fuel : (f n : ℕ) → n < lim (suc f) → dec_within (suc f) n ≡ dec_within (suc (suc f)) n
unfolding lim
fuel zero n l = rw (dec_one 0 n (omega arith), dec_one 1 n (omega arith))
fuel (suc f) n l = fuel_step f n (fuel f (n / 10)) (dec_lt n 10) l

dec_snoc : (v d : ℕ) → 0 < v → v ≤ largest → d < 10 → dec (v * 10 + d) ≡ dec v ++ ((48 + d) ∷ [])
unfolding dec lim
dec_snoc v d p m h =
    let q : (v * 10 + d) / 10 ≡ v = omega arith in
    let r : (v * 10 + d) % 10 ≡ d = omega arith in
    rw (dec_more 9 (v * 10 + d) (omega arith), q, r, fuel 8 v (omega arith))

prints_step : (b v k n : ℕ) (s : List ℕ)
    → (digits_from (v * 10 + digit_of b) (k + 1) s ≡ Ok n → v * 10 + digit_of b ≤ largest
    → (n ≤ largest) × (dec (v * 10 + digit_of b) ++ s ≡ dec n))
    → (x : Bool) → ltb (digit_of b) 10 ≡ x → (y : Bool) → leb (v * 10 + digit_of b) largest ≡ y
    → 0 < v → v ≤ largest → digits_from v k (b ∷ s) ≡ Ok n → (n ≤ largest) × (dec v ++ (b ∷ s) ≡ dec n)
unfolding digits_from
prints_step b v k n s ih false d y o p m e = never (sym (rw d at e))
prints_step b v k n s ih true d false o p m e = never (sym (rw (d, o) at e))
prints_step b v k n s ih true d true o p m e =
    let h = ltb-true (digit_of b) 10 d in
    let r = ih (rw (d, o) at e) (leb-true _ _ o) in (
      r.0,
      rw (← byte_of b h) (sym (append_assoc (dec v) ((48 + digit_of b) ∷ []) s)
          ∙ ap (λ (l : List ℕ). l ++ s) (sym (dec_snoc v (digit_of b) p m h)) ∙ r.1),
    )

prints : (s : List ℕ) (v k n : ℕ) → 0 < v → v ≤ largest → digits_from v k s ≡ Ok n
    → (n ≤ largest) × (dec v ++ s ≡ dec n)
unfolding digits_from
prints [] v k n p m e = let q : v ≡ n = cc in (omega arith, append-nil (dec v) ∙ ap dec q)
prints (b ∷ s) v k n p m e =
    prints_step b v k n s (λ e' o. prints s (v * 10 + digit_of b) (k + 1) n (omega arith) o e')
    (ltb (digit_of b) 10) refl
    (leb (v * 10 + digit_of b) largest) refl p m e

first_step : (b n : ℕ) (s : List ℕ) (x : Bool) → ltb (digit_of b) 10 ≡ x → (b ≡ 48 → ⊥) → digits_from 0 0 (b ∷ s) ≡ Ok n
    → (n ≤ largest) × (b ∷ s ≡ dec n)
unfolding digits_from dec
first_step b n s false d z e = never (sym (rw d at e))
first_step b n s true d z e =
    let h = ltb-true (digit_of b) 10 d in
    let v : 0 * 10 + digit_of b ≡ digit_of b = omega arith in
    let o : leb (digit_of b) largest ≡ true = le-leb (digit_of b) largest (omega arith) in
    let nz : 0 < digit_of b = omega (arith, byte_of b h) in
    let r = prints s (digit_of b) (0 + 1) n nz (omega arith) (rw (d, v, o) at e) in
    (r.0, sym (ap (λ (l : List ℕ). l ++ s) (dec_one 9 (digit_of b) h ∙ ap (λ (j : ℕ). j ∷ []) (byte_of b h))) ∙ r.1)

number_in_printed_step : (b n : ℕ) (s : List ℕ) (x : Bool) → eqb b 48 ≡ x → number_in (b ∷ s) ≡ Ok n
    → (n ≤ largest) × (b ∷ s ≡ dec n)
unfolding number_in after_zero dec dec_within
number_in_printed_step b n s false z e = first_step b n s (ltb (digit_of b) 10) refl (eqb-false b 48 z) (rw z at e)
number_in_printed_step b n s true z e = zero_case s (rw z at e)
  where
    zero_case : (s : List ℕ) → after_zero s ≡ Ok n → (n ≤ largest) × (b ∷ s ≡ dec n)
    zero_case [] e = let q : 0 ≡ n = cc in (omega arith, rw (← q, eqb-true b 48 z))
    zero_case (a ∷ s) e = never (sym e)

pub number_in_printed : (s : List ℕ) (n : ℕ) → number_in s ≡ Ok n → (n ≤ largest) × (s ≡ dec n)
unfolding number_in
number_in_printed [] n e = never (sym e)
number_in_printed (b ∷ s) n e = number_in_printed_step b n s (eqb b 48) refl e

-- ---- the printed form, by its last digit

dec_small : (n : ℕ) → n < 10 → dec n ≡ (48 + n) ∷ []
unfolding dec
dec_small n h = dec_one 9 n h

dec_step : (n : ℕ) → 10 ≤ n → n < 4294967296 → dec n ≡ dec (n / 10) ++ ((48 + n % 10) ∷ [])
unfolding dec lim
dec_step n h l = rw (dec_more 9 n h, fuel 8 (n / 10) (omega arith))

-- ---- how many digits there are

within_step : (d f n : ℕ) → ((e : ℕ) → n / 10 < lim (suc e) → length (dec_within f (n / 10)) ≤ suc e) → Dec (n < 10)
    → n < lim (suc d)
    → length (dec_within (suc f) n) ≤ suc d
unfolding lim
within_step d f n ih (yes h) l = rw (dec_one f n h) (omega arith)
within_step zero f n ih (no h) l = absurd (omega arith)
within_step (suc d) f n ih (no h) l = rw (dec_more f n (omega arith), length-append) (omega (arith, ih d (omega arith)))

digits_within : (f d n : ℕ) → n < lim (suc d) → length (dec_within f n) ≤ suc d
unfolding dec_within
digits_within zero d n l = omega arith
digits_within (suc f) d n l = within_step d f n (λ e h. digits_within f e (n / 10) h) (dec_lt n 10) l

module _ (n : ℕ) where
  pub dec_three : n < 1000 → length (dec n) ≤ 3
  unfolding dec lim
  dec_three h = digits_within 10 2 n (omega arith)

  -- a word
  pub dec_five : n < 65536 → length (dec n) ≤ 5
  unfolding dec lim
  dec_five h = digits_within 10 4 n (omega arith)

  -- a line number
  pub dec_six : n < 1000000 → length (dec n) ≤ 6
  unfolding dec lim
  dec_six h = digits_within 10 5 n (omega arith)

-- ---- the digits, written one after another

-- a number below ten has one digit, one below a hundred two, and one below a thousand three
pub digits_one : (n : ℕ) {o x : List ℕ} {r : ℕ} → n < 10 → Added ((48 + n % 10) ∷ []) o 0 x r → Wrote (dec n) o x r
digits_one n {o} h a =
    let q : n % 10 ≡ n = omega arith in
    rw (dec_small n h, ← q) (wrote_added (wrote_none o) a)

module _ (n : ℕ) {o x y : List ℕ} {k r : ℕ} where
  digits_more : 10 ≤ n → n < 4294967296 → Wrote (dec (n / 10)) o x k → Added ((48 + n % 10) ∷ []) x k y r
      → Wrote (dec n) o y r
  digits_more h l w a = rw (dec_step n h l) (wrote_added w a)

  pub digits_two : 10 ≤ n → n < 100 → Added ((48 + (n / 10) % 10) ∷ []) o 0 x k → Added ((48 + n % 10) ∷ []) x k y r
      → Wrote (dec n) o y r
  digits_two h l a b = digits_more h (omega arith) (digits_one (n / 10) (omega arith) a) b

-- the last three of them, one after another
pub added_three : (n : ℕ) {o x y z : List ℕ} {at j k r : ℕ} → Added ((48 + (n / 100) % 10) ∷ []) o at x j
    → Added ((48 + (n / 10) % 10) ∷ []) x j y k → Added ((48 + n % 10) ∷ []) y k z r → Added (last_three n) o at z r
unfolding last_three
added_three n a b c = added_added (added_added a b) c

dec_hundreds : (n : ℕ) → 100 ≤ n → n < 4294967296
    → dec n ≡ (dec (n / 100) ++ ((48 + (n / 10) % 10) ∷ [])) ++ ((48 + n % 10) ∷ [])
dec_hundreds n h l =
    let q : (n / 10) / 10 ≡ n / 100 = omega arith in
    rw (dec_step n (omega arith) l, dec_step (n / 10) (omega arith) (omega arith), q)

dec_three_digits : (n : ℕ) → 100 ≤ n → n < 1000 → dec n ≡ last_three n
unfolding last_three
dec_three_digits n h l =
    let q : (n / 100) % 10 ≡ n / 100 = omega arith in
    rw (dec_hundreds n h (omega arith), dec_small (n / 100) (omega arith), q)

dec_thousands : (n : ℕ) → 1000 ≤ n → n < 4294967296 → dec n ≡ dec (n / 1000) ++ last_three n
unfolding last_three
dec_thousands n h l =
    let q : (n / 100) / 10 ≡ n / 1000 = omega arith in
    rw (dec_hundreds n (omega arith) l, dec_step (n / 100) (omega arith) (omega arith), q, append_assoc, append_assoc)

pub digits_three : (n : ℕ) {o x : List ℕ} {r : ℕ} → 100 ≤ n → n < 1000 → Added (last_three n) o 0 x r
    → Wrote (dec n) o x r
digits_three n {o} h l a = rw (dec_three_digits n h l) (wrote_added (wrote_none o) a)

-- the number m of the thousands of n, and three digits more
pub digits_thousands : (n m : ℕ) {o x y : List ℕ} {k r : ℕ} → m ≡ n / 1000 → 1000 ≤ n → n < 4294967296
    → Wrote (dec m) o x k → Added (last_three n) x k y r → Wrote (dec n) o y r
digits_thousands n m q h l w a = rw (dec_thousands n h l, ← q) (wrote_added w a)
