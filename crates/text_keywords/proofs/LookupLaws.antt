-- Laws of specs/Keywords.antt over a whole field: what `same`, `common`, `longest` and `lookup` say of the lists and
-- the table that they are given. `On w ws` says that the word w stands in the table ws.
-- Assumes nothing.
use Prim.Native.Nat.{ℕ, suc, ◌≤◌}
use mathlib.Core.List.{List, [], ◌∷◌}
use mathlib.Core.Bool.{Bool, true, false}
use mathlib.Core.Logic.{◌⊎◌, inl, inr}
use mathlib.Core.Path.{◌≡◌, refl, ap, sym, ◌∙◌}
use native.Mathlib.Omega.{arith}
use lib.Dec.{eqb, ltb}
use borrow.Author.Tests.{eq-eqb, eqb-true, ltb-true, ltb-false}
use lib.ListN.{length, take}
use Rattle.words.proofs.BoolLaws.{true_is_not_false}
use Rattle.text_keywords.specs.declared.Keyword.{Keyword}
use Rattle.std.specs.Prelude.{Ok, Err}
use Rattle.text_fields.specs.declared.BadByte.{BadByte}
use Rattle.text_fields.specs.Fields.{bad_byte}
use Rattle.text_keywords.specs.Keywords.{On, here, later, same, common, larger, text_of, longest, lookup}

-- ---- two lists alike

pub same_true : (a b : List ℕ) → same a b ≡ true → a ≡ b
unfolding same
same_true [] [] e = refl
same_true [] (y ∷ b) e = true_is_not_false (sym e)
same_true (x ∷ a) [] e = true_is_not_false (sym e)
same_true (x ∷ a) (y ∷ b) e = go (eqb x y) refl e (same_true a b)
  where
    go : (t : Bool) → eqb x y ≡ t → same (x ∷ a) (y ∷ b) ≡ true → (same a b ≡ true → a ≡ b) → x ∷ a ≡ y ∷ b
    go true p e ih = rw (eqb-true x y p, ih (rw p at e))
    go false p e ih = true_is_not_false (sym (rw p at e))

pub same_refl : (a : List ℕ) → same a a ≡ true
unfolding same
same_refl [] = refl
same_refl (x ∷ a) = rw (eq-eqb x x refl) (same_refl a)

pub common_most : (a b : List ℕ) → common a b ≤ length a
unfolding common
common_most [] b = omega arith
common_most (x ∷ a) [] = omega arith
common_most (x ∷ a) (y ∷ b) = go (eqb x y) refl (common_most a b)
  where
    go : (t : Bool) → eqb x y ≡ t → common a b ≤ length a → common (x ∷ a) (y ∷ b) ≤ suc (length a)
    go true p ih = rw p (omega arith)
    go false p ih = rw p (omega arith)

pub common_take : (a b : List ℕ) → take (common a b) a ≡ take (common a b) b
unfolding common
common_take [] b = refl
common_take (x ∷ a) [] = refl
common_take (x ∷ a) (y ∷ b) = go (eqb x y) refl (common_take a b)
  where
    go : (t : Bool) → eqb x y ≡ t → take (common a b) a ≡ take (common a b) b
        → take (common (x ∷ a) (y ∷ b)) (x ∷ a) ≡ take (common (x ∷ a) (y ∷ b)) (y ∷ b)
    go true p ih = rw (p, eqb-true x y p, ih)
    go false p ih = rw p

-- ---- the table read

pub lookup_is : (s : List ℕ) (k : ℕ) (ws : List Keyword) (w : Keyword) → lookup s k ws ≡ Ok w → s ≡ text_of w
unfolding lookup
lookup_is s k [] w e = absurd (cc)
lookup_is s k (v ∷ ws) w e = go (same s (text_of v)) refl e (λ q. lookup_is s k ws w q)
  where
    go : (t : Bool) → same s (text_of v) ≡ t → lookup s k (v ∷ ws) ≡ Ok w → (lookup s k ws ≡ Ok w → s ≡ text_of w)
        → s ≡ text_of w
    go true p e ih = let r = rw p at e in let q : v ≡ w = cc in same_true s (text_of v) p ∙ ap text_of q
    go false p e ih = ih (rw p at e)

put_at : (v : Keyword) (ws : List Keyword) (s : List ℕ) → same s (text_of v) ≡ false
    → ((w : Keyword) → On w ws → same s (text_of w) ≡ false) → (w : Keyword) → On w (v ∷ ws)
    → same s (text_of w) ≡ false
put_at v ws s p f w here = p
put_at v ws s p f w (later i) = f w i

pub lookup_other : (s : List ℕ) (k : ℕ) (ws : List Keyword) (b : BadByte) → lookup s k ws ≡ Err b
    → (bad_byte k ≡ b) × ((w : Keyword) → On w ws → same s (text_of w) ≡ false)
unfolding lookup
lookup_other s k [] b e = (cc, λ w i. elim i [ ])
lookup_other s k (v ∷ ws) b e = go (same s (text_of v)) refl e (lookup_other s k ws b)
  where
    put : same s (text_of v) ≡ false → ((w : Keyword) → On w ws → same s (text_of w) ≡ false) → (w : Keyword)
        → On w (v ∷ ws) → same s (text_of w) ≡ false
    put p f w i = put_at v ws s p f w i

    go : (t : Bool) → same s (text_of v) ≡ t → lookup s k (v ∷ ws) ≡ Err b
        → (lookup s k ws ≡ Err b → (bad_byte k ≡ b) × ((w : Keyword) → On w ws → same s (text_of w) ≡ false))
        → (bad_byte k ≡ b) × ((w : Keyword) → On w (v ∷ ws) → same s (text_of w) ≡ false)
    go true p e ih = let r = rw p at e in absurd (cc)
    go false p e ih = let r = ih (rw p at e) in (r.0, put p r.1)

pub longest_most : (s : List ℕ) {w : Keyword} {ws : List Keyword} → On w ws → common s (text_of w) ≤ longest s ws
unfolding longest larger
longest_most s {w} (here {ws = ws}) = go (ltb (common s (text_of w)) (longest s ws)) refl
  where
    go : (t : Bool) → ltb (common s (text_of w)) (longest s ws) ≡ t → common s (text_of w) ≤ longest s (w ∷ ws)
    go true p = rw p (omega (arith, ltb-true (common s (text_of w)) (longest s ws) p))
    go false p = rw p (omega arith)
longest_most s {w} (later {v = v} {ws = ws} i) = go (ltb (common s (text_of v)) (longest s ws)) refl (longest_most s i)
  where
    go : (t : Bool) → ltb (common s (text_of v)) (longest s ws) ≡ t → common s (text_of w) ≤ longest s ws
        → common s (text_of w) ≤ longest s (v ∷ ws)
    go true p h = rw p h
    go false p h = rw p (omega (arith, ltb-false (common s (text_of v)) (longest s ws) p))

pub longest_is : (s : List ℕ) (ws : List Keyword)
    → (longest s ws ≡ 0) ⊎ ((w : Keyword) × On w ws × (common s (text_of w) ≡ longest s ws))
unfolding longest larger
longest_is s [] = inl refl
longest_is s (v ∷ ws) = go (ltb (common s (text_of v)) (longest s ws)) refl (longest_is s ws)
  where
    go : (t : Bool) → ltb (common s (text_of v)) (longest s ws) ≡ t
        → (longest s ws ≡ 0) ⊎ ((w : Keyword) × On w ws × (common s (text_of w) ≡ longest s ws))
        → (longest s (v ∷ ws) ≡ 0) ⊎ ((w : Keyword) × On w (v ∷ ws) × (common s (text_of w) ≡ longest s (v ∷ ws)))
    go true p (inl e) = inl (rw p e)
    go true p (inr (w, i, e)) = inr (w, later i, rw p e)
    go false p h = inr (v, here, rw p)
