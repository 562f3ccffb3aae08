-- `text_writers::add_bytes` meets its contract: past the end nothing is written, else the rest is lent (`added_lent`).
-- Assumes nothing.
use Rattle.text_buffers.proofs.BufferLaws.{added_past, added_lent, lent_most}
use native.Mathlib.Omega.{arith}
use borrow.Author.Rules.{rules}
use Rattle.text_writers.proofs.add_bytes.Goals as goal

pub returns-then-out-at : goal.returns-then-out-at
returns-then-out-at c = let a = c.args in added_past _ a.out.now a.at (omega arith)

pub overflow_add-result : goal.overflow_add-result
overflow_add-result c =
    let a = c.args in
    let h = lent_most _ a.out.now _ a.at _ c.put_bytes.ensures c.if-out-at.false in
    search rules

pub returns : goal.returns
returns c = added_lent _ _ _ _ _ c.put_bytes.ensures
