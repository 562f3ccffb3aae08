-- Laws of specs/Keywords.antt that the code cites: what an iterator over two lists counts, and one word more of the
-- table. What the definitions say of a whole field is in LookupLaws.antt.
-- Assumes nothing.
use Prim.Native.Nat.{ℕ, suc, ◌+◌, ◌≤◌, ◌<◌}
use mathlib.Core.List.{List, [], ◌∷◌}
use mathlib.Core.Bool.{Bool, true, false}
use mathlib.Core.Path.{◌≡◌, refl, ap, sym}
use native.Mathlib.Omega.{arith}
use lib.Dec.{eqb}
use native.Mathlib.Numerals.{add-one}
use lib.ListN.{length, drop, get_or, drop_of_length-le}
use lib.Seq.{drop-cons}
use Rattle.std.specs.Prelude.{max, Ok, Err}
use Rattle.text_fields.specs.Fields.{bad_byte}
use Rattle.text_keywords.proofs.LookupLaws.{same_refl, same_true}
use Rattle.std.specs.List.{zip, take_while}
use Rattle.std.proofs.lemmas.Grind.{common_steps}
use Rattle.text_keywords.specs.Keywords.{same, common, larger, longest, lookup, text_of}
use Rattle.text_keywords.specs.declared.Keyword.{Keyword}

one_more : (n : ℕ) → 1 + n ≡ suc n
one_more n = omega arith

-- what two lists begin with alike, as an iterator over both counts it
pub common_zip : (a b : List ℕ) → length (take_while (λ (p : ℕ × ℕ). eqb p.0 p.1) (zip a b)) ≡ common a b
unfolding common
common_zip [] b = refl
common_zip (x ∷ a) [] = refl
common_zip (x ∷ a) (y ∷ b) = go (eqb x y) refl (common_zip a b)
  where
    go : (t : Bool) → eqb x y ≡ t → length (take_while (λ (p : ℕ × ℕ). eqb p.0 p.1) (zip a b)) ≡ common a b
        → length (take_while (λ (p : ℕ × ℕ). eqb p.0 p.1) (zip (x ∷ a) (y ∷ b))) ≡ common (x ∷ a) (y ∷ b)
    go true e ih = rw (e, one_more) (ap suc ih)
    go false e ih = rw e

-- ---- the table, from its place i on

larger_max : (a b : ℕ) → larger a b ≡ max a b
unfolding larger
larger_max a b = grind (arith, common_steps)

pub longest_start : (m : ℕ) → larger m 0 ≡ m
longest_start m = grind (arith, common_steps, larger_max m 0)

module _ (s : List ℕ) (ws : List Keyword) (i : ℕ) where
  -- no word is left
  pub longest_end : (m : ℕ) → length ws ≤ i → larger (longest s (drop i ws)) m ≡ m
  unfolding longest
  longest_end m h = rw drop_of_length-le (grind (arith, common_steps, larger_max 0 m))

  pub lookup_end : (k : ℕ) → length ws ≤ i → lookup s k (drop i ws) ≡ Err (bad_byte k)
  unfolding lookup
  lookup_end k h = rw drop_of_length-le

  -- the field along with one word more
  module _ (d : Keyword) (h : i < length ws) where
    pub longest_more : (n m x : ℕ) → n ≡ common s (text_of (get_or ws i d)) → x ≡ max n m
        → larger (longest s (drop (i + 1) ws)) x ≡ larger (longest s (drop i ws)) m
    unfolding longest
    longest_more n m x e f =
        let r = longest s (drop (suc i) ws) in
        rw (add-one i, drop-cons ws i d, ← e, f, larger_max r (max n m), larger_max n r, larger_max (max n r) m)
        (grind (arith, common_steps))

    -- the field is that word, or looked up in the rest
    pub lookup_here : (k : ℕ) → text_of (get_or ws i d) ≡ s → lookup s k (drop i ws) ≡ Ok (get_or ws i d)
    unfolding lookup
    lookup_here k e = rw (drop-cons ws i d, e, same_refl s)

    pub lookup_past : (k : ℕ) → (text_of (get_or ws i d) ≡ s → ⊥)
        → lookup s k (drop i ws) ≡ lookup s k (drop (i + 1) ws)
    unfolding lookup
    lookup_past k n = rw (add-one i, drop-cons ws i d) (go (same s (text_of (get_or ws i d))) refl)
      where
        go : (t : Bool) → same s (text_of (get_or ws i d)) ≡ t
            → lookup s k (get_or ws i d ∷ drop (suc i) ws) ≡ lookup s k (drop (suc i) ws)
        go true e = absurd (n (sym (same_true s (text_of (get_or ws i d)) e)))
        go false e = rw e
