-- `text_fields::next_start` meets its contract: past the line it stays, within it the next field starts after this
-- one's end.
-- Assumes nothing.
use Prim.Native.Nat.{ℕ, ◌+◌}
use mathlib.Core.Path.{ap, sym, ◌∙◌}
use Rattle.text_fields.proofs.FieldLaws.{next_start_past, next_start_is, field_end_bounds}
use borrow.Author.Rules.{rules}
use Rattle.text_fields.proofs.next_start.Goals as goal

pub overflow_add-result : goal.overflow_add-result
overflow_add-result c = let h = field_end_bounds _ _ _ c.field_end.ensures c.if-at-line.true in search rules

pub returns-then-at-line : goal.returns-then-at-line
returns-then-at-line c = ap (λ (e : ℕ). e + 1) c.field_end.ensures ∙ sym (next_start_is _ _ c.if-at-line.true)

pub returns : goal.returns
returns c = sym (next_start_past _ _ c.if-at-line.false)
