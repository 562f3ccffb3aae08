-- Laws of specs/Board.antt. Assumes nothing.
use Rattle.std.proofs.Common.{◌≡◌, ℕ, sym, ◌∙◌}
use Rattle.edges.specs.declared.load.Board.{Board}
use Rattle.edges.specs.Board.{FreshensOn}

-- any two outcomes that the contract of `freshen` allows coincide
pub one_board_freshened : {b c d : Board} {m n : ℕ} → FreshensOn b m c → FreshensOn b n d
    → (m ≡ n) × (c.tasks.words ≡ d.tasks.words) × (c.promises.words ≡ d.promises.words)
    × (c.tasks.length ≡ d.tasks.length) × (c.promises.length ≡ d.promises.length) × (c.report ≡ d.report)
    × (c.story ≡ d.story)
one_board_freshened h k = (
  h.number ∙ sym k.number,
  h.tasks ∙ sym k.tasks,
  h.promises ∙ sym k.promises,
  h.task_count ∙ sym k.task_count,
  h.promise_count ∙ sym k.promise_count,
  h.report ∙ sym k.report,
  h.story ∙ sym k.story,
)
