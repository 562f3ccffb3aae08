-- The number and the values of a step's answer tell the answer: `answer_of` (specs/Answers.antt) reads it back. For one
-- given step its four words do: whether a place or a blamed task stands in them follows from the step and the number.
-- Assumes nothing.
use mathlib.Core.Path.{◌≡◌, refl, sym, subst, ◌∙◌}
use mathlib.Core.Logic.{◌⊎◌, inl, inr}
use mathlib.Core.List.{List}
use mathlib.Core.Bool.{true, not, cond}
use Prim.Native.Nat.{ℕ, ◌-◌, ◌<◌}
use lib.Dec.{ltb}
use lib.ListN.{get_or}
use borrow.Author.Tests.{ltb-true, lt-ltb, le-ltb, ne_eqb}
use Rattle.words.specs.Words.{Form}
use Rattle.words.specs.Lists.{In}
use Rattle.words.proofs.BoolLaws.{not_is_true}
use Rattle.words.proofs.ListLaws.{in_passes, is_in}
use Rattle.rules.specs.Tables.{Tables}
use Rattle.rules.specs.Answers.{laid, number_of, values_of, refusal_of, accepted, answer_of, SameWords, by_number}
use Rattle.rules.specs.Answers.{refused_with, refused_at_with, value_of}
use Rattle.rules.specs.Steps.{Step, step_new, step_set, step_get, step_async, step_end, step_refused, step}
use Rattle.rules.specs.Demands.{paper_rows, paper_entry_rows, BadPlace, Refusal, HowRefused, by_row, for_entry}
use Rattle.rules.specs.declared.Answer.{Answer}
use Rattle.rules.specs.declared.Answer.TheVariants.{Opened}
use Rattle.rules.proofs.AnswerLaws.{Accepted, accepted_or_refused, with_by, at_with_by, step_refused_by}
use Rattle.rules.proofs.AnswerLaws.{step_refused_number}
use Rattle.rules.proofs.Order.{papers_order, given_in, refused_first, placed_first, how_refused, refusal_passes}

-- ---- the number and the values

abbrev Told : Answer → Type 0
Told a = (answer_of (number_of a) (values_of a) ≡ a) × ((laid a).refuses ≡ ltb (number_of a) 100)

told_back : (a : Answer) → (Refusal a → Told a) → Told a
told_back a h = go (accepted_or_refused a)
  where
    go : Accepted a ⊎ Refusal a → Told a
    go (inl c) = (c.told, c.accepts ∙ sym (le-ltb (number_of a) 100 c.from_100))
    go (inr w) = h w

refused_told : (F : Form) (s : Tables) (x : Step) {a : Answer} → HowRefused F s x a → number_of a < 100 → Told a
unfolding laid answer_of refusal_of
refused_told F s x (by_row r) =
    step_refused_by (λ (a : Answer). number_of a < 100 → Told a) F s x r (λ b e h. (refl, refl))
    (λ h. rw (lt-ltb r 100 h) (refl, refl))
refused_told F s x (for_entry t c list i b r e) =
    at_with_by (λ (a : Answer). number_of a < 100 → Told a) b i r (λ q h. (refl, refl))
    (λ q h. rw (lt-ltb r 100 h, ne_eqb r 17 q) (refl, refl))

pub step_told : (F : Form) (n : ℕ) (s : Tables) (x : Step) → Told (step F n s x).answer
step_told F n s x = told_back (step F n s x).answer (λ w. refused_told F s x (how_refused F n s x w) (low w))
  where
    low : Refusal (step F n s x).answer → number_of (step F n s x).answer < 100
    low w = ltb-true (number_of (step F n s x).answer) 100 (refusal_passes (λ r. ltb r 100) refl F n s x w)

-- ---- the four words, for one given step

-- the refusal of the step x by r, where v and w are the first two values
abbrev refusal_back : Step → ℕ → ℕ → ℕ → Answer
refusal_back (step_new t p) r v w = by_number r
refusal_back (step_set t p) r v w = refused_with v r
refusal_back (step_get t p) r v w = by_number r
refusal_back (step_async t c list) r v w = cond (is_in paper_entry_rows r) (refused_at_with w v r) (by_number r)
refusal_back (step_end t) r v w = by_number r

-- the answer to the step x
abbrev read_back : Step → ℕ → ℕ → ℕ → Answer
read_back x r v w = cond (ltb r 100) (refusal_back x r v w) (get_or (accepted v w) (r - 100) Opened)

abbrev ReadBack : Step → Answer → Type 0
ReadBack x a = read_back x (number_of a) (value_of (laid a).first) (value_of (laid a).second) ≡ a

accepted_read : (x : Step) {a : Answer} → Accepted a → ReadBack x a
accepted_read x {a} c = rw (le-ltb (number_of a) 100 c.from_100) c.read

-- refused by a row
row_read : (F : Form) (s : Tables) (x : Step) (r : ℕ) → ltb r 100 ≡ true → In r (paper_rows x)
    → ReadBack x (step_refused F s x r)
unfolding laid refused_with
row_read F s (step_new t p) r low i = rw low refl
row_read F s (step_set t p) r low i =
    with_by (ReadBack (step_set t p)) _ r (λ e. refl) (λ q. rw (low, ne_eqb r 17 q) refl)
row_read F s (step_get t p) r low i = rw low refl
row_read F s (step_async t c list) r low i =
    rw (low, not_is_true (is_in paper_entry_rows r) (in_passes (λ q. not (is_in paper_entry_rows q)) refl i)) refl
row_read F s (step_end t) r low i = rw low refl

-- refused for an entry
entry_read : (t c : ℕ) (list : List ℕ) (i b r : ℕ) → In r paper_entry_rows
    → ReadBack (step_async t c list) (refused_at_with b i r)
unfolding laid refused_at_with
entry_read t c list i b r m =
    at_with_by (ReadBack (step_async t c list)) b i r (λ e. refl)
    (λ q. rw (in_passes (λ k. ltb k 100) refl m, in_passes (is_in paper_entry_rows) refl m, ne_eqb r 17 q) refl)

module _ (F : Form) (n : ℕ) (s : Tables) where
  refused_read : (x : Step) {a : Answer} → HowRefused F s x a → (step F n s x).answer ≡ a → ltb (number_of a) 100 ≡ true
      → ReadBack x a
  refused_read x (by_row r) e low =
      row_read F s x r (subst (λ (k : ℕ). ltb k 100 ≡ true) (step_refused_number F s x r) low)
      (subst (In r) (papers_order F n s x) (given_in (refused_first F n s x r e)))
  refused_read x (for_entry t c list i b r z) e low =
      subst (λ (y : Step). ReadBack y (refused_at_with b i r)) (sym z)
      (entry_read t c list i b r (given_in bad.given))
    where
      bad : BadPlace F.base s.promises t list r i
      bad =
          (placed_first F n s t c list r i b
          (subst (λ (y : Step). (step F n s y).answer ≡ refused_at_with b i r) z e)).1

  step_read : (x : Step) → ReadBack x (step F n s x).answer
  step_read x = go (accepted_or_refused (step F n s x).answer)
    where
      go : Accepted (step F n s x).answer ⊎ Refusal (step F n s x).answer → ReadBack x (step F n s x).answer
      go (inl c) = accepted_read x c
      go (inr w) = refused_read x (how_refused F n s x w) refl (refusal_passes (λ r. ltb r 100) refl F n s x w)

-- two answers to one step with the same four words are read back alike
pub words_tell : (F : Form) (x : Step) (n n' : ℕ) (s s' : Tables)
    → SameWords (step F n s x).answer (step F n' s' x).answer → (step F n s x).answer ≡ (step F n' s' x).answer
words_tell F x n n' s s' e = sym (step_read F n s x) ∙ rw (e.number, e.first, e.second) (step_read F n' s' x)
