-- `table_fresh::fresh` meets its contract: the sizes decide, and each fill and store is a part of the fresh tables.
-- Assumes nothing.
use Rattle.std.proofs.Common.{◌≡◌, length, rules}
use mathlib.Core.Path.{ap₂, ◌∙◌}
use borrow.Author.Tests.{ne_eqb}
use Rattle.words.specs.Words.{small}
use Rattle.rules.specs.Tables.{tables}
use Rattle.rules.specs.Refusals.{fresh_refusal, refused_by}
use Rattle.rules.specs.StepContracts.{freshened}
use Rattle.rules.proofs.RefusalLaws.{number_not_0}
use Rattle.table_fresh.proofs.fresh.Goals as goal

pub returns-in_err-check_sizes : goal.returns-in_err-check_sizes
unfolding freshened
returns-in_err-check_sizes c =
    let r = c.in_err-check_sizes.ensures in
    let told : refused_by c.from_residual.result
    ≡ fresh_refusal small (length c.args.tasks.now) (length c.args.promises.now) =
    search rules in
    record { number = told; after = rw (← r, ne_eqb _ 0 (number_not_0 c.in_err-check_sizes.field-0.0)) }

pub returns : goal.returns
unfolding freshened
returns c =
    let r = c.in_ok-check_sizes.ensures in
    let unused = rw c.unused.ensures at (c.fill.ensures.after (λ y h. h)) in
    let unmade = rw c.unmade.ensures at (c.fill-2.ensures.after (λ y h. h)) in
    record {
      number = r;
      after = rw (← r) (ap₂ tables (c.put.ensures ∙ rw (unused, c.ready.ensures)) unmade);
    }
