-- Laws of specs/Records.antt: one for each way out of reading a number, that the next field starts past a number and
-- within the line or one past it, and that a line goes by its first field's word.
-- Assumes nothing.
use Prim.Native.Nat.{ℕ, ◌+◌, ◌≤◌, ◌<◌}
use mathlib.Core.List.{List}
use mathlib.Core.Path.{◌≡◌, refl, ap, sym, ◌∙◌}
use native.Mathlib.Omega.{arith}
use native.Mathlib.Decide.{dec_lt}
use borrow.Author.Tests.{lt-ltb, le-ltb}
use lib.ListN.{length}
use Rattle.std.specs.Prelude.{Result, Ok, Err}
use Rattle.text_fields.specs.Fields.{field_at, next_start, bad_byte}
use Rattle.text_fields.specs.declared.BadByte.{BadByte}
use Rattle.text_fields.proofs.FieldLaws.{field_at_length, field_end_within, next_start_is, next_start_end}
use Rattle.text_numbers.specs.Numbers.{number_in}
use Rattle.text_numbers.proofs.NumberLaws.{number_in_bad_within, number_in_is_nonempty}
use Rattle.text_keywords.specs.Keywords.{keyword_of}
use Rattle.text_keywords.specs.declared.Keyword.{Keyword}
use Rattle.text_records.specs.Records.{placed, number_at, with_second, with_first, pair_at, after_word, record_of}

-- ---- equal answers go on at the same place

pub same_next : {v w m n : ℕ} → ◌≡◌ {A = Result (ℕ × ℕ) BadByte} (Ok (v, m)) (Ok (w, n)) → m ≡ n
same_next {v} {w} {m} {n} e = let p : ◌≡◌ {A = ℕ × ℕ} (v, m) (w, n) = cc in ap (λ (q : ℕ × ℕ). q.1) p

same_third : {u v w x m n : ℕ} → ◌≡◌ {A = Result (ℕ × ℕ × ℕ) BadByte} (Ok (u, v, m)) (Ok (w, x, n)) → m ≡ n
same_third {u} {v} {w} {x} {m} {n} e =
    let p : ◌≡◌ {A = ℕ × ℕ × ℕ} (u, v, m) (w, x, n) = cc in ap (λ (q : ℕ × ℕ × ℕ). q.2) p

-- ---- the ways out

pub number_at_end : (s : List ℕ) (a : ℕ) → length s < a → number_at s a ≡ Err (bad_byte (length s))
unfolding number_at
number_at_end s a h = rw (lt-ltb (length s) a h)

-- the field at a, as code holds it, and where the next one starts
module _ (s : List ℕ) (a : ℕ) (f : List ℕ) (h : a ≤ length s) (q : f ≡ field_at s a) where
  pub number_at_is : (n v : ℕ) → n ≡ next_start s a → number_in f ≡ Ok v → number_at s a ≡ Ok (v, n)
  unfolding number_at placed
  number_at_is n v m e = rw (le-ltb (length s) a h, ← q, e, m)

  pub number_at_bad : (k : BadByte) → number_in f ≡ Err k → number_at s a ≡ Err (bad_byte (a + k.place))
  unfolding number_at placed
  number_at_bad k e = rw (le-ltb (length s) a h, ← q, e)

  pub bad_within : (k : BadByte) → number_in f ≡ Err k → a + k.place ≤ length s
  bad_within k e =
      let l = ap (λ (g : List ℕ). length g) q in
      omega (arith, field_at_length s a, field_end_within s a h, number_in_bad_within f k e)

-- ---- what an answer says of places

-- the next field starts past the number at a, a digit and a tab at least, and within the line or one past it
pub record Next (s : List ℕ) (a n : ℕ) : Type 0 where
  pub past : a + 2 ≤ n
  pub within : n ≤ length s + 1

placed_next : (s : List ℕ) (a : ℕ) → a ≤ length s → (v n : ℕ) (r : Result ℕ BadByte) → r ≡ number_in (field_at s a)
    → placed a (next_start s a) r ≡ Ok (v, n) → Next s a n
unfolding placed
placed_next s a h v n (Ok w) q p =
    let z : next_start s a ≡ n = same_next p in
    let e = next_start_is s a h in
    record {
      past = omega (arith, field_at_length s a, number_in_is_nonempty (field_at s a) w (sym q));
      within = omega (arith, field_end_within s a h);
    }
placed_next s a h v n (Err k) q p = absurd (cc)

pub number_at_next : (s : List ℕ) (a v n : ℕ) → number_at s a ≡ Ok (v, n) → Next s a n
unfolding number_at
number_at_next s a v n q = go (dec_lt (length s) a)
  where
    go : Dec (length s < a) → Next s a n
    go (yes h) =
        let e = rw (lt-ltb (length s) a h) at q in
        absurd (cc)
    go (no h) =
        placed_next s a (omega arith) v n (number_in (field_at s a)) refl (rw (le-ltb (length s) a (omega arith)) at q)

pub pair_at_next : (s : List ℕ) (a x y n : ℕ) → pair_at s a ≡ Ok (x, y, n) → Next s a n
unfolding pair_at with_first with_second
pair_at_next s a x y n q = first (number_at s a) refl q
  where
    second : (i u : ℕ) → a ≤ i → (r : Result (ℕ × ℕ) BadByte) → number_at s i ≡ r → with_second u r ≡ Ok (x, y, n)
        → Next s a n
    second i u l (Ok (v, m)) e p =
        let z : m ≡ n = same_third p in
        let g = number_at_next s i v m e in
        record { past = omega (arith, g.past); within = omega (arith, g.within) }
    second i u l (Err k) e p = absurd (cc)

    first : (r : Result (ℕ × ℕ) BadByte) → number_at s a ≡ r → with_first s r ≡ Ok (x, y, n) → Next s a n
    first (Ok (u, i)) e p = second i u (omega (arith, (number_at_next s a u i e).past)) (number_at s i) refl p
    first (Err k) e p = absurd (cc)

-- ---- the line

-- a line goes by its first field's word
pub record_of_by : (s f : List ℕ) (n : ℕ) (w : Result Keyword BadByte) → f ≡ field_at s 0
    → n ≡ next_start s (length f) → w ≡ keyword_of f → record_of s ≡ after_word s n w
unfolding record_of
record_of_by s f n w q m k =
    let z : length f ≡ 0 + length f = omega arith in
    let next : n ≡ next_start s 0 = next_start_end s 0 (omega arith) q (m ∙ ap (next_start s) z) in
    rw (k, q, next)
