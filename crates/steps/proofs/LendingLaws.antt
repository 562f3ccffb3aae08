-- Laws of specs/Lending.antt. Assumes nothing.
use mathlib.Core.Path.{◌≡◌, sym, ◌∙◌}
use Rattle.steps.specs.declared.Lent.{Lent}
use Rattle.steps.specs.Lending.{SameLoan}

-- any two loans that the clause allows are of the same slices
pub one_loan_left : {l a b : Lent} → SameLoan l a → SameLoan l b
    → (a.tasks.ghost_name ≡ b.tasks.ghost_name) × (a.promises.ghost_name ≡ b.promises.ghost_name)
    × (a.report.ghost_name ≡ b.report.ghost_name)
one_loan_left h k = (h.tasks ∙ sym k.tasks, h.promises ∙ sym k.promises, h.report ∙ sym k.report)
