-- Laws of specs/Exports.antt: the two ways out of an exported step, and that its contract leaves one outcome.
-- Assumes nothing.
use Prim.Native.Nat.{ℕ, ◌≤◌, ◌<◌}
use mathlib.Core.Path.{◌≡◌, refl, sym, ◌∙◌}
use mathlib.Core.List.{List}
use native.Mathlib.Omega.{arith}
use borrow.Author.Tests.{lt-ltb, le-ltb}
use lib.ListN.{length}
use lib.Seq.{sets}
use Rattle.words.proofs.ListLaws.{over_sets}
use Rattle.rules.specs.Tables.{Tables}
use Rattle.rules.specs.Answers.{number_of}
use Rattle.rules.specs.Steps.{Outcome}
use Rattle.rules.specs.StepContracts.{Gives}
use Rattle.rules.specs.declared.Answer.{Answer}
use Rattle.answer_words.specs.AnswerWords.{answer_words}
use Rattle.answer_words.proofs.AnswerWordLaws.{answer_words_length}
use Rattle.registry.specs.Exports.{Exported, exported, Exports}

-- fewer than four words are lent for the answer
pub exports_short : (s : Tables) (rs ws : List ℕ) (o : Outcome) → length ws < 4 → Exports (exported s rs ws o) 1 s rs ws
unfolding exported
exports_short s rs ws o h =
    rw (lt-ltb (length ws) 4 h) (record { number = refl; after = refl; report = refl; answer = refl })

pub exports_step : (s : Tables) (ws : List ℕ) {s' : Tables} {rs rs' ws' : List ℕ} {o : Outcome} {a : Answer} {r : ℕ}
    → 4 ≤ length ws → Gives o rs a s' rs' → r ≡ number_of a → ws' ≡ sets ws 0 (answer_words a)
    → Exports (exported s rs ws o) r s' rs' ws'
unfolding exported
exports_step s ws {a = a} h g e w =
    let told = sym (over_sets (answer_words a) ws (omega (arith, answer_words_length a))) in
    rw (le-ltb (length ws) 4 h, ← g.answer)
    (record { number = e; after = g.after; report = g.report; answer = w ∙ told })

-- any two outcomes that the contract of an exported step allows coincide
pub exports_unique : {e : Exported} {r r' : ℕ} {s s' : Tables} {rs rs' ws ws' : List ℕ}
    → Exports e r s rs ws → Exports e r' s' rs' ws' → (r ≡ r') × (s ≡ s') × (rs ≡ rs') × (ws ≡ ws')
exports_unique g h =
    (g.number ∙ sym h.number, g.after ∙ sym h.after, g.report ∙ sym h.report, g.answer ∙ sym h.answer)
