-- A line that does not start as one with a list has none: the word of any record but async's takes none, and async's
-- word is the start of its line.
-- Assumes nothing.
use Prim.Native.Nat.{ℕ, zero, suc, ◌<◌}
use mathlib.Core.List.{List, [], ◌∷◌}
use mathlib.Core.Bool.{Bool, true, false}
use mathlib.Core.Path.{◌≡◌, refl, ap, ◌∙◌}
use native.Mathlib.Omega.{arith}
use native.Mathlib.Decide.{dec_lt}
use borrow.Author.Tests.{eqb-false}
use lib.Dec.{eqb, ltb}
use lib.ListN.{length, take, get_or}
use Rattle.words.specs.Words.{longest_line}
use Rattle.step_kinds.specs.Kinds.{shape_of}
use Rattle.step_kinds.specs.declared.Kind.TheVariants.{New, Set, Get, Async, End}
use Rattle.std.specs.Prelude.{Result, Ok, Err}
use Rattle.text_fields.specs.declared.BadByte.{BadByte}
use Rattle.text_fields.specs.Fields.{run_to_tab, field_at, next_start}
use Rattle.text_keywords.specs.Keywords.{text_of, keyword_of}
use Rattle.text_keywords.specs.declared.Keyword.{Keyword}
use Rattle.text_keywords.specs.declared.Keyword.TheVariants as W
use Rattle.text_keywords.proofs.Theorems.{keyword_of_is, step_on}
use Rattle.text_records.specs.Records.{number_at, pair_at, last_pair, of_pair, of_one, after_kind}
use Rattle.text_records.specs.Records.{after_word, record_of}
use Rattle.text_records.specs.declared.LineRecord.{LineRecord}
use Rattle.text_records.specs.declared.LineRecord.TheVariants as R
use Rattle.text_forms.specs.Judging.{entries_in, entries_of, may_list}
use Rattle.text_forms.proofs.JudgingLaws.{entries_of_long, entries_of_within}

-- ---- the record of a word that takes no list

module _ (s : List ℕ) where
  pair_unlisted : (f : ℕ → ℕ → LineRecord) → ((a b : ℕ) → entries_in s (Ok (f a b)) ≡ [])
      → (p : Result (ℕ × ℕ) BadByte)
      → entries_in s (of_pair f p) ≡ []
  unfolding of_pair entries_in
  pair_unlisted f h (Ok (a, b)) = h a b
  pair_unlisted f h (Err k) = refl

  one_unlisted : (r : Result (ℕ × ℕ) BadByte) → entries_in s (of_one End s r) ≡ []
  unfolding of_one entries_in
  one_unlisted (Ok (a, n)) = go (ltb (length s) n) refl
    where
      go : (b : Bool) → ltb (length s) n ≡ b → entries_in s (of_one End s (Ok (a, n))) ≡ []
      go true e = rw e
      go false e = rw e
  one_unlisted (Err k) = refl

  word_unlisted : (n : ℕ) (w : Result Keyword BadByte) → (w ≡ Ok (W.Step Async) → ⊥)
      → entries_in s (after_word s n w) ≡ []
  unfolding after_word after_kind shape_of entries_in
  word_unlisted n (Ok W.Open) h = pair_unlisted R.Open (λ a b. refl) (last_pair s (pair_at s n))
  word_unlisted n (Ok (W.Step New)) h = pair_unlisted (R.Plain New) (λ a b. refl) (last_pair s (pair_at s n))
  word_unlisted n (Ok (W.Step Set)) h = pair_unlisted (R.Plain Set) (λ a b. refl) (last_pair s (pair_at s n))
  word_unlisted n (Ok (W.Step Get)) h = pair_unlisted (R.Plain Get) (λ a b. refl) (last_pair s (pair_at s n))
  word_unlisted n (Ok (W.Step Async)) h = absurd (h refl)
  word_unlisted n (Ok (W.Step End)) h = one_unlisted (number_at s n)
  word_unlisted n (Err k) h = refl

-- ---- the first byte

take_first : (k : ℕ) (s : List ℕ) (b : ℕ) (t : List ℕ) → take k s ≡ b ∷ t → get_or s 0 0 ≡ b
take_first zero s b t e = let z : 0 ≡ suc (length t) = ap length e in absurd (omega arith)
take_first (suc k) [] b t e = let z : 0 ≡ suc (length t) = ap length e in absurd (omega arith)
take_first (suc k) (a ∷ s) b t e = cc

async_first : (s : List ℕ) → keyword_of (field_at s 0) ≡ Ok (W.Step Async)
    → get_or s 0 0 ≡ get_or (text_of (W.Step Async)) 0 0
unfolding field_at text_of
async_first s e = take_first (run_to_tab s) s _ _ (keyword_of_is (field_at s 0) (W.Step Async) (step_on Async) e)

pub may_list_is : (s : List ℕ) → may_list s ≡ eqb (get_or s 0 0) 97
unfolding may_list text_of
may_list_is s = refl

-- A LINE THAT STARTS OTHERWISE HAS NO LIST
pub entries_of_none : (s : List ℕ) → may_list s ≡ false → entries_of s ≡ []
unfolding may_list record_of
entries_of_none s e = go (dec_lt longest_line (length s))
  where
    go : Dec (longest_line < length s) → entries_of s ≡ []
    go (yes h) = entries_of_long s h
    go (no h) =
        entries_of_within s (omega arith)
        ∙ word_unlisted s (next_start s 0) (keyword_of (field_at s 0)) (λ k. eqb-false _ _ e (async_first s k))
