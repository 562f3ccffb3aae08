-- Theorems of specs/Flat.antt: one outcome, records written as words and read back, and a worked text. Assumes nothing.
use Prim.Native.Nat.{ℕ}
use mathlib.Core.Path.{◌≡◌, refl, sym, ◌∙◌}
use mathlib.Core.List.{List, [], ◌∷◌}
use mathlib.Core.Bool.{true, false}
use lib.Dec.{leb}
use Rattle.words.specs.Words.{Form}
use Rattle.rules.specs.Tables.{Tables}
use Rattle.step_kinds.specs.declared.Kind.{Kind}
use Rattle.step_kinds.specs.declared.Kind.TheVariants.{New, Set, Get, Async, End}
use Rattle.batch_record.specs.declared.Record.{Record}
use Rattle.batch.specs.Batches.{CallOutcome, batched}
use Rattle.batch_words.specs.Flat.{kind_of, records_of, is_flat, flatly, Flats}

-- any two outcomes that the contract of `registry_batch` allows coincide (of `batch_words`: `batch/Theorems.one_call`)
pub flat_unique : {o : CallOutcome} {rs ws : List ℕ} {r r' : ℕ} {s s' : Tables} {rs₁ rs₂ ws₁ ws₂ : List ℕ}
    → Flats o rs ws r s rs₁ ws₁ → Flats o rs ws r' s' rs₂ ws₂
    → (r ≡ r') × (s ≡ s') × (rs₁ ≡ rs₂) × (ws₁ ≡ ws₂)
flat_unique g h = (
  g.number ∙ sym h.number,
  g.after ∙ sym h.after,
  g.report ∙ sym h.report,
  g.answers
      ∙ sym h.answers,
)

-- ---- any records have words that stand for them, and a call by these is the call by the records

abbrev kind_word : Kind → ℕ
kind_word New = 0
kind_word Set = 1
kind_word Get = 2
kind_word Async = 3
kind_word End = 4

kind_back : (c : Kind) → (kind_of (kind_word c) ≡ c) × (leb (kind_word c) 4 ≡ true)
unfolding kind_of
kind_back New = (refl, refl)
kind_back Set = (refl, refl)
kind_back Get = (refl, refl)
kind_back Async = (refl, refl)
kind_back End = (refl, refl)

pub records_have_words : (rs : List Record) → (ws : List ℕ) × (is_flat ws ≡ true) × (records_of ws ≡ rs)
unfolding is_flat records_of
records_have_words [] = ([], refl, refl)
records_have_words (r ∷ rs) =
    let (ws, flat, back) = records_have_words rs in
    let (kind, below) = kind_back r.kind in
    (kind_word r.kind ∷ r.task ∷ r.other ∷ r.start ∷ r.length ∷ ws, rw (below, flat), rw (kind, back))

pub flat_is_batch : (F : Form) (list : List ℕ) (s : Tables) (rs : List Record) (m k : ℕ)
    → (ws : List ℕ) × (flatly F list s ws m k ≡ batched F list s rs m k)
unfolding flatly
flat_is_batch F list s rs m k = let (ws, flat, back) = records_have_words rs in (ws, rw (flat, back))

-- ---- a worked text

abbrev text : List ℕ
text = 0 ∷ 1 ∷ 2 ∷ 0 ∷ 0 ∷ 3 ∷ 0 ∷ 1 ∷ 5 ∷ 2 ∷ 4 ∷ 7 ∷ 9 ∷ 9 ∷ 9 ∷ []

pub worked_records_lem : records_of text
    ≡ record { kind = New; task = 1; other = 2; start = 0; length = 0 }
    ∷ record { kind = Async; task = 0; other = 1; start = 5; length = 2 }
    ∷ record { kind = End; task = 7; other = 9; start = 9; length = 9 }
    ∷ []
unfolding records_of kind_of
worked_records_lem = refl

pub worked_flat : is_flat text ≡ true
unfolding is_flat
worked_flat = refl

-- a word too many, and a sixth kind
pub one_more : is_flat (4 ∷ 7 ∷ 9 ∷ 9 ∷ 9 ∷ 0 ∷ []) ≡ false
unfolding is_flat
one_more = refl

pub sixth_kind : is_flat (0 ∷ 1 ∷ 2 ∷ 0 ∷ 0 ∷ 5 ∷ 7 ∷ 9 ∷ 9 ∷ 9 ∷ []) ≡ false
unfolding is_flat
sixth_kind = refl
