-- What is promised of the words that start a line: a field is told as a word exactly if it is that word's bytes, and
-- otherwise the place of the first byte with which it stops being the start of any (02, request 1).
-- Assumes nothing.
use Prim.Native.Nat.{ℕ, zero, suc, ◌≤◌}
use mathlib.Core.List.{List, [], ◌∷◌}
use mathlib.Core.Bool.{true, false}
use mathlib.Core.Logic.{◌⊎◌, inl, inr}
use mathlib.Core.Path.{◌≡◌, refl, ap, sym, subst, ◌∙◌}
use native.Mathlib.Omega.{arith}
use borrow.Author.Tests.{eq-eqb}
use lib.Dec.{ltb}
use lib.ListN.{length, take}
use Rattle.words.proofs.BoolLaws.{true_is_not_false}
use Rattle.step_kinds.specs.declared.Kind.{Kind}
use Rattle.step_kinds.specs.declared.Kind.TheVariants.{New, Set, Get, Async, End}
use Rattle.text_keywords.specs.declared.Keyword.{Keyword}
use Rattle.text_keywords.specs.declared.Keyword.TheVariants as W
use Rattle.std.specs.Prelude.{Result, Ok, Err}
use Rattle.text_fields.specs.declared.BadByte.{BadByte}
use Rattle.text_keywords.specs.Keywords.{On, here, later, StopsAt, same, common, text_of, keywords, longest}
use Rattle.text_keywords.specs.Keywords.{lookup, keyword_of}
use Rattle.text_keywords.proofs.LookupLaws.{same_refl, common_most, common_take, lookup_is}
use Rattle.text_keywords.proofs.LookupLaws.{lookup_other, longest_most, longest_is}

-- ---- the table

-- each word of the table is found by its text
data Each (P : Keyword → Type 0) : List Keyword → Type 0 where
  nil : Each P []
  cons : {w : Keyword} {ws : List Keyword} → P w → Each P ws → Each P (w ∷ ws)

each_at : {P : Keyword → Type 0} {w : Keyword} {ws : List Keyword} → On w ws → Each P ws → P w
each_at here (cons p l) = p
each_at (later i) (cons p l) = each_at i l

found : Each (λ w. keyword_of (text_of w) ≡ Ok w) keywords
unfolding keywords text_of keyword_of lookup same
found = cons refl (cons refl (cons refl (cons refl (cons refl (cons refl nil)))))

-- no word's text is empty
long : Each (λ w. ltb 0 (length (text_of w)) ≡ true) keywords
unfolding keywords text_of
long = cons refl (cons refl (cons refl (cons refl (cons refl (cons refl nil)))))

pub text_not_empty : (w : Keyword) → On w keywords → ltb 0 (length (text_of w)) ≡ true
text_not_empty w i = each_at i long

-- a word's text is told as that word
pub keyword_of_text : (w : Keyword) → On w keywords → keyword_of (text_of w) ≡ Ok w
keyword_of_text w i = each_at i found

-- ---- the word

-- what is told as a word is that word's text
pub keyword_of_is : (s : List ℕ) (w : Keyword) → On w keywords → keyword_of s ≡ Ok w → s ≡ text_of w
unfolding keyword_of
keyword_of_is s w i e = lookup_is s (longest s keywords) keywords w e

-- ---- the place

common_least : (n : ℕ) (a b : List ℕ) → n ≤ length a → take n a ≡ take n b → n ≤ common a b
unfolding common
common_least zero a b h e = omega arith
common_least (suc n) [] b h e = absurd (omega arith)
common_least (suc n) (x ∷ a) [] h e = let z : suc (length (take n a)) ≡ 0 = ap length e in absurd (omega arith)
common_least (suc n) (x ∷ a) (y ∷ b) h e =
    let p : x ≡ y = cc in
    let q : take n a ≡ take n b = cc in
    rw (eq-eqb x y p) (omega (arith, common_least n a b (omega arith) q))

pub open_on : On W.Open keywords
unfolding keywords
open_on = here

-- each kind of step has its word in the table
pub step_on : (k : Kind) → On (W.Step k) keywords
unfolding keywords
step_on New = later here
step_on Set = later (later here)
step_on Get = later (later (later here))
step_on Async = later (later (later (later here)))
step_on End = later (later (later (later (later here))))

pub keyword_of_other : (s : List ℕ) (b : BadByte) → keyword_of s ≡ Err b → StopsAt s b.place
unfolding keyword_of
keyword_of_other s b e =
    let other = lookup_other s (longest s keywords) keywords b e in
    let r : (longest s keywords ≡ b.place) × ((w : Keyword) → On w keywords → same s (text_of w) ≡ false) =
    (ap (λ (x : BadByte). x.place) other.0, other.1) in
    record {
      within = subst (λ (i : ℕ). i ≤ length s) r.0 (most (longest_is s keywords));
      start = subst (λ (i : ℕ). (w : Keyword) × On w keywords × (take i s ≡ take i (text_of w))) r.0
          (begin (longest_is s keywords));
      stop = λ h w i q. omega (arith, r.0, longest_most s i, common_least (suc b.place) s (text_of w) h q);
      none = λ w i q. true_is_not_false (sym (same_refl (text_of w)) ∙ ap (λ (y : List ℕ). same y (text_of w)) (sym q)
          ∙ r.1 w i);
    }
  where
    Found : Type 0
    Found = (longest s keywords ≡ 0) ⊎ ((w : Keyword) × On w keywords × (common s (text_of w) ≡ longest s keywords))

    most : Found → longest s keywords ≤ length s
    most (inl z) = omega arith
    most (inr (w, i, z)) = omega (arith, common_most s (text_of w))

    begin : Found
        → (w : Keyword) × On w keywords × (take (longest s keywords) s ≡ take (longest s keywords) (text_of w))
    begin (inl z) = (W.Open, open_on, rw z)
    begin (inr (w, i, z)) = (w, i, rw (← z) (common_take s (text_of w)))

-- ---- 01, "How much each contract must say": any two outcomes that the contract allows coincide

pub keyword_of_unique : (s : List ℕ) {p q : Result Keyword BadByte} → p ≡ keyword_of s → q ≡ keyword_of s → p ≡ q
keyword_of_unique s e f = e ∙ sym f
