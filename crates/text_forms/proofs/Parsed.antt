-- The forms once more, cut where the proofs cut them: `Numbers k x` says that x is k numbers, each after a tab and in
-- its printed form, and `Parsed s` that s is a word and as many of them as it takes. Both ways between `Parsed` and
-- `Formed`.
-- Assumes nothing.
use Prim.Native.Nat.{ℕ, zero, suc, ◌≤◌}
use mathlib.Core.List.{List, [], ◌∷◌, ◌++◌}
use mathlib.Core.Bool.{true}
use mathlib.Core.Path.{◌≡◌, refl, ap, sym, subst, ◌∙◌}
use lib.ListN.{length}
use Rattle.text_fields.specs.Fields.{tab}
use Rattle.text_numbers.specs.Numbers.{largest, dec}
use Rattle.text_keywords.specs.Keywords.{text_of}
use Rattle.text_keywords.specs.declared.Keyword.{Keyword}
use Rattle.text_writers.specs.Texts.{fields_text, no_more, one_more}
use Rattle.text_forms.specs.Forms.{takes, AllSmall, Formed, BadAt}

abbrev pub Numbers : ℕ → List ℕ → Type 0
Numbers zero x = x ≡ []
Numbers (suc k) x = (n : ℕ) × (y : List ℕ) × (n ≤ largest) × (x ≡ tab ∷ (dec n ++ y)) × Numbers k y

pub record Parsed (s : List ℕ) : Type 0 where
  pub word : Keyword
  pub count : ℕ
  pub taken : takes word count ≡ true
  pub rest : List ℕ
  pub text : s ≡ text_of word ++ rest
  pub numbers : Numbers count rest

-- ---- both ways

pub numbers_of : (ns : List ℕ) → AllSmall ns → Numbers (length ns) (fields_text ns)
unfolding fields_text
numbers_of [] no_more = refl
numbers_of (n ∷ ns) (one_more h a) = (n, fields_text ns, h, refl, numbers_of ns a)

pub of_numbers : (k : ℕ) (x : List ℕ) → Numbers k x → (ns : List ℕ) × (length ns ≡ k) × AllSmall ns
    × (x ≡ fields_text ns)
unfolding fields_text
of_numbers zero x e = ([], refl, no_more, e)
of_numbers (suc k) x (n, y, h, e, t) =
    let (ns, l, a, q) = of_numbers k y t in
    (n ∷ ns, ap suc l, one_more h a, e ∙ ap (λ (z : List ℕ). tab ∷ (dec n ++ z)) q)

pub parsed : (s : List ℕ) → Formed s → Parsed s
parsed s (w, ns, f) =
    record {
      word = w;
      count = length ns;
      taken = f.taken;
      rest = fields_text ns;
      text = f.text;
      numbers = numbers_of ns f.small;
    }

pub formed : (s : List ℕ) → Parsed s → Formed s
formed s p =
    let (ns, l, a, q) = of_numbers p.count p.rest p.numbers in (
      p.word,
      ns,
      record {
        taken = subst (λ (k : ℕ). takes p.word k ≡ true) (sym l) p.taken;
        small = a;
        text = p.text ∙ ap (λ (x : List ℕ). text_of p.word ++ x) q;
      },
    )

pub bad_formed : (s : List ℕ) (c : ℕ) → BadAt Parsed s c → BadAt Formed s c
bad_formed s c b = record {
  within = b.within;
  start = let (x, p) = b.start in (x, formed _ p);
  stop = λ h x f. b.stop h x (parsed _ f);
  not_one = λ f. b.not_one (parsed s f);
}
