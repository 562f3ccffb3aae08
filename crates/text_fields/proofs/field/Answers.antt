-- `text_fields::field` meets its contract: the part from `at` to the field's end is the field (`field_at_part`), and
-- past the line there is none (`field_at_past`).
-- Assumes nothing.
use mathlib.Core.Path.{refl, sym}
use native.Mathlib.Omega.{arith}
use Rattle.text_fields.proofs.FieldLaws.{field_at_part, field_at_past, field_end_bounds, part_start_past}
use Rattle.text_fields.proofs.FieldLaws.{part_start_is}
use borrow.Author.Rules.{rules}
use Rattle.text_fields.proofs.field.Goals as goal

pub returns-then-line-at : goal.returns-then-line-at
returns-then-line-at c =
    let a = c.args in
    record {
      bytes = sym (field_at_past _ _ (omega arith));
      memory = refl;
      place = omega (arith, part_start_past a.line.now a.at c.if-line-at.true);
    }

pub slice_bounds-result-count-2 : goal.slice_bounds-result-count-2
slice_bounds-result-count-2 c =
    let h = field_end_bounds _ _ _ c.field_end-end.ensures c.if-line-at.false in
    search rules

pub slice_bounds-result-start-2 : goal.slice_bounds-result-start-2
slice_bounds-result-start-2 c =
    let h = field_end_bounds _ _ _ c.field_end-end.ensures c.if-line-at.false in
    search rules

pub slice_bounds-result-end-2 : goal.slice_bounds-result-end-2
slice_bounds-result-end-2 c = let h = field_end_bounds _ _ _ c.field_end-end.ensures c.if-line-at.false in search rules

pub returns : goal.returns
returns c =
    let a = c.args in
    record {
      bytes = field_at_part _ _ _ c.field_end-end.ensures;
      memory = refl;
      place = omega (arith, part_start_is a.line.now a.at c.if-line-at.false);
    }
