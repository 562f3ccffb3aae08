-- The word that starts a line, or the place where it stops being the start of one: for a line whose first field is a
-- word, what may follow it (`word_well`); for any other, its column (`word_bad`).
-- Assumes nothing.
use Prim.Native.Nat.{ℕ, zero, suc, ◌+◌, ◌≤◌, ◌<◌}
use mathlib.Core.List.{List, [], ◌∷◌, ◌++◌, append_assoc}
use mathlib.Core.Bool.{Bool, true, false}
use mathlib.Core.Logic.{◌⊎◌, inl, inr}
use mathlib.Core.Path.{◌≡◌, refl, ap, sym, subst, ◌∙◌}
use native.Mathlib.Omega.{arith}
use lib.Dec.{eqb}
use lib.ListN.{length, take, drop, take-append-drop}
use lib.Seq.{take-take, length-take-le}
use Rattle.text_fields.specs.Fields.{tab, run_to_tab, field_end, field_at, next_start, run_to, end_from}
use Rattle.text_fields.proofs.FieldLaws.{first_field, run_to_tab_most, run_to_tab_after_field, first_field_front}
use Rattle.text_fields.proofs.FieldLaws.{first_field_rest, next_start_is}
use Rattle.text_keywords.specs.Keywords.{On, StopsAt, text_of, keywords, keyword_of}
use Rattle.step_kinds.specs.Kinds.{shape_of}
use Rattle.step_kinds.specs.declared.Kind.TheVariants as K
use Rattle.step_kinds.specs.declared.Shape.{Shape}
use Rattle.step_kinds.specs.declared.Shape.TheVariants as H
use Rattle.text_keywords.specs.declared.Keyword.{Keyword}
use Rattle.text_keywords.specs.declared.Keyword.TheVariants as W
use Rattle.std.specs.Prelude.{Ok, Err}
use Rattle.text_fields.specs.declared.BadByte.{BadByte}
use Rattle.text_keywords.proofs.Theorems.{open_on, step_on, keyword_of_text, keyword_of_is, keyword_of_other}
use Rattle.text_forms.specs.Forms.{takes_shape, takes, BadAt}
use Rattle.text_forms.proofs.Parsed.{Numbers, Parsed}
use Rattle.text_forms.proofs.Place.{At, Over, zeros, numbers_tabbed}

-- ---- the table: what a new word has to answer to

-- a word has no tab, and if it takes numbers it stands in the table
pub text_whole : (w : Keyword) → run_to_tab (text_of w) ≡ length (text_of w)
unfolding text_of run_to
text_whole W.Open = refl
text_whole (W.Step K.New) = refl
text_whole (W.Step K.Set) = refl
text_whole (W.Step K.Get) = refl
text_whole (W.Step K.Async) = refl
text_whole (W.Step K.End) = refl

pub in_table : (w : Keyword) (n : ℕ) → takes w n ≡ true → On w keywords
unfolding takes
in_table W.Open n e = open_on
in_table (W.Step k) n e = step_on k

-- each word of the table takes some number of numbers
unfoldable pub least : Shape → ℕ
least H.One = 1
least H.Two = 2
least H.List = 2

pub least_taken : (h : Shape) → takes_shape h (least h) ≡ true
unfolding takes_shape least
least_taken H.One = refl
least_taken H.Two = refl
least_taken H.List = refl

all_take : (w : Keyword) → On w keywords → (n : ℕ) × (takes w n ≡ true)
unfolding takes
all_take W.Open i = (2, refl)
all_take (W.Step k) i = (least (shape_of k), least_taken (shape_of k))

-- ---- one byte more

-- the first field of a line goes along with t past its byte j, or is t
abbrev Along : List ℕ → ℕ → List ℕ → Type 0
Along s j t = ((j < length (first_field s)) × (take (suc j) (first_field s) ≡ take (suc j) t)) ⊎ (first_field s ≡ t)

-- if the first k + 1 bytes of s begin a line whose first field is t, then so it does
beyond : (k : ℕ) (s x t : List ℕ) → k < length s → first_field (take (suc k) s ++ x) ≡ t → Along s k t
unfolding run_to
beyond k [] x t h e = absurd (omega arith)
beyond k (b ∷ s) x t h e = go (eqb b tab) refl k h e (λ j g. beyond j s x (first_field (take (suc j) s ++ x)) g refl)
  where
    longer : ((j : ℕ) → j < length s → Along s j (first_field (take (suc j) s ++ x))) → (k : ℕ) → k < suc (length s)
        → b ∷ first_field (take k s ++ x) ≡ t
        → ((k < suc (length (first_field s))) × (take (suc k) (b ∷ first_field s) ≡ take (suc k) t))
        ⊎ (b ∷ first_field s ≡ t)
    longer ih zero h e = inl (omega arith, rw (← e))
    longer ih (suc k) h e = put (ih k (omega arith))
      where
        put : Along s k (first_field (take (suc k) s ++ x))
            → ((suc k < suc (length (first_field s))) × (take (suc (suc k)) (b ∷ first_field s) ≡ take (suc (suc k)) t))
            ⊎ (b ∷ first_field s ≡ t)
        put (inl (l, q)) = inl (omega arith, ap (λ (r : List ℕ). b ∷ r) q ∙ ap (λ (r : List ℕ). take (suc (suc k)) r) e)
        put (inr q) = inr (ap (λ (r : List ℕ). b ∷ r) q ∙ e)

    go : (z : Bool) → eqb b tab ≡ z → (k : ℕ) → k < suc (length s) → first_field (b ∷ (take k s ++ x)) ≡ t
        → ((j : ℕ) → j < length s → Along s j (first_field (take (suc j) s ++ x))) → Along (b ∷ s) k t
    go true p k h e ih = inr (rw p (rw p at e))
    go false p k h e ih = rw p (longer ih k h (rw p at e))

-- ---- a line whose first field is a word, and one whose first field is none

-- a line's first field is its word
pub first_field_lem : (s : List ℕ) (w : Keyword) (rest : List ℕ) → s ≡ text_of w ++ rest → run_to_tab rest ≡ 0
    → first_field s ≡ text_of w
first_field_lem s w rest e z = ap first_field e ∙ first_field_front (text_of w) rest (text_whole w) z

parsed_field : (s : List ℕ) (f : Parsed s) → first_field s ≡ text_of f.word
parsed_field s f = first_field_lem s f.word f.rest f.text (numbers_tabbed f.count f.rest f.numbers)

word_over : (s : List ℕ) (w : Keyword) (n : ℕ) → takes w n ≡ true → keyword_of (field_at s 0) ≡ Ok w
    → Over Parsed s (field_end s 0) (takes w)
unfolding field_end end_from field_at
word_over s w n t e = record {
  within = omega (arith, run_to_tab_most s);
  tabbed = ap (λ (i : ℕ). run_to_tab (drop i s)) zero_plus ∙ run_to_tab_after_field s;
  to = λ k x o m. record {
    word = w;
    count = k;
    taken = o;
    rest = x;
    text = ap (λ (i : ℕ). take i s ++ x) zero_plus
        ∙ ap (λ (f : List ℕ). f ++ x) is;
    numbers = m;
  };
  from = λ x z f. back x z f;
}
  where
    zero_plus : 0 + run_to_tab s ≡ run_to_tab s
    zero_plus = omega arith

    is : first_field s ≡ text_of w
    is = keyword_of_is (first_field s) w (in_table w n t) e

    back : (x : List ℕ) → run_to_tab x ≡ 0 → Parsed (take (0 + run_to_tab s) s ++ x)
        → (k : ℕ) × (takes w k ≡ true) × Numbers k x
    back x z f =
        let tabs = numbers_tabbed f.count f.rest f.numbers in
        let g : text_of w ++ x ≡ text_of f.word ++ f.rest = ap (λ (y : List ℕ). y ++ x) (sym is)
        ∙ ap (λ (i : ℕ). take i s ++ x) (sym zero_plus) ∙ f.text in
        let h : text_of w ≡ text_of f.word = sym (first_field_front (text_of w) x (text_whole w) z)
        ∙ first_field_lem (text_of w ++ x) f.word f.rest g tabs in
        let r : x ≡ f.rest = sym (first_field_rest (text_of w) x (text_whole w) z)
        ∙ ap (λ (y : List ℕ). drop (run_to_tab y) y) g
        ∙ first_field_rest (text_of f.word) f.rest (text_whole f.word) tabs in
        let o = sym (keyword_of_text f.word (in_table f.word f.count f.taken))
        ∙ ap keyword_of (sym h) ∙ keyword_of_text w (in_table w n t) in
        let v : f.word ≡ w = cc in (
          f.count,
          subst (λ (u : Keyword). takes u f.count ≡ true) v f.taken,
          subst (Numbers f.count) (sym r) f.numbers,
        )

pub word_well : (s : List ℕ) (w : Keyword) (n : ℕ) → takes w n ≡ true → keyword_of (field_at s 0) ≡ Ok w
    → At Parsed s (next_start s 0) (takes w)
word_well s w n t e = record { e = field_end s 0; next = next_start_is s 0 (omega arith); over = word_over s w n t e }

pub word_bad : (s : List ℕ) (b : BadByte) → keyword_of (field_at s 0) ≡ Err b → BadAt Parsed s b.place
unfolding field_at
word_bad s b e = record {
  within = omega (arith, short, run_to_tab_most s);
  start = begin st.start;
  stop = λ h x f. no f (beyond k s x (text_of f.word) h (parsed_field (take (suc k) s ++ x) f));
  not_one = λ f. st.none f.word (in_table f.word f.count f.taken) (parsed_field s f);
}
  where
    k : ℕ
    k = b.place

    st : StopsAt (first_field s) k
    st = keyword_of_other (first_field s) b e

    short : k ≤ run_to_tab s
    short = omega (arith, st.within, length-take-le (run_to_tab s) s (run_to_tab_most s))

    begin : (w : Keyword) × On w keywords × (take k (first_field s) ≡ take k (text_of w))
        → (x : List ℕ) × Parsed (take k s ++ x)
    begin (w, i, q) =
        let (n, t) = all_take w i in
        let (z, m) = zeros n in
        let y : take k s ++ drop k (text_of w) ≡ text_of w =
        ap (λ (r : List ℕ). r ++ drop k (text_of w)) (sym (take-take k (run_to_tab s) s short) ∙ q)
        ∙ take-append-drop k (text_of w) in (
          drop k (text_of w) ++ z,
          record {
            word = w;
            count = n;
            taken = t;
            rest = z;
            text = sym (append_assoc (take k s) (drop k (text_of w)) z) ∙ ap (λ (u : List ℕ). u ++ z) y;
            numbers = m;
          },
        )

    no : {y : List ℕ} (f : Parsed y) → Along s k (text_of f.word) → ⊥
    no f (inl (l, q)) = st.stop l f.word (in_table f.word f.count f.taken) q
    no f (inr q) = st.none f.word (in_table f.word f.count f.taken) q
