-- `text_fields::run_end` meets its contract. The invariant: the place reached, and the run from there on, still give
-- the run's end.
-- Assumes nothing.
use Rattle.std.proofs.Common.{arith, refl}
use Rattle.std.proofs.lemmas.Grind.{common_steps}
use Rattle.text_fields.specs.Fields.{end_from}
use Rattle.text_fields.proofs.FieldLaws.{run_to_stop, run_to_go, run_to_end}
use Rattle.text_fields.proofs.run_end.Goals as goal

pub loop-end-init : goal.loop-end-init
unfolding end_from
loop-end-init c = refl

pub returns-then-bytes-end : goal.returns-then-bytes-end
unfolding end_from
returns-then-bytes-end c =
    omega (
      arith,
      run_to_stop c.args.stop c.args.bytes.now c.loop-end.end c.loop-end-test.true c.if-bytes-end.true,
    )

pub loop-end-preserved : goal.loop-end-preserved
unfolding end_from
loop-end-preserved c =
    omega (
      arith,
      run_to_go c.args.stop c.args.bytes.now c.loop-end.end c.loop-end-test.true c.if-bytes-end.false,
    )

pub returns : goal.returns
unfolding end_from
returns c =
    let e = run_to_end c.args.stop c.args.bytes.now c.loop-end.end c.loop-end-test.false in
    grind (arith, common_steps, e)
