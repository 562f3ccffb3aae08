-- The run starts where the desk opens, and at its end what is known of its input is answered.
use Rattle.std.proofs.Common.{◌∙◌, ◌+◌, sym, arith}
use Rattle.words.proofs.BoolLaws.{clash}
use Rattle.bench.proofs.BenchLaws.{reached_start, runs_closed, reads_more, reads_no_more}
use Rattle.bench.proofs.Theorems.{what_is_known_is_answered}
use Rattle.bench.proofs.State.run.Goals as goal

pub loop-init : goal.loop-init
loop-init g c = (c.requires.reading, reached_start c.args.self.now _ _ c.requires)

pub read_on-requires : goal.read_on-requires
read_on-requires g c = (c.loop.invariant.1.nothing_waits, c.loop.invariant.0)

pub returns-in_err-read_on-clause-runs : goal.returns-in_err-read_on-clause-runs
returns-in_err-read_on-clause-runs g c =
    runs_closed c.from_residual.result _ _ _ _ _ _ c.from_residual.ensures.0
    (c.in_err-read_on.ensures.ran_to _ _ _ c.loop.invariant.1)

pub loop-preserved : goal.loop-preserved
loop-preserved g c = (
  reads_more _ _ (sym c.reads_on.ensures ∙ c.if-not-reads_on.false),
  c.in_ok-read_on.ensures.ran_to _ _ _ c.loop.invariant.1,
)

pub returns-after-loop-clause-runs : goal.returns-after-loop-clause-runs
returns-after-loop-clause-runs g c = record {
  reads = c.loop.counter;
  reached = c.loop.invariant.1;
  stops = λ e f h. omega arith;
}

pub returns-after-loop-clause-end : goal.returns-after-loop-clause-end
returns-after-loop-clause-end g c = λ some e. clash (let z = c.loop.invariant.0 in cc)

pub returns-after-loop-clause-answers : goal.returns-after-loop-clause-answers
returns-after-loop-clause-answers g c =
    λ some h. what_is_known_is_answered c.loop.invariant.1 h (λ e. clash (let z = c.loop.invariant.0 in cc))

pub returns-then-not-reads_on-clause-runs : goal.returns-then-not-reads_on-clause-runs
returns-then-not-reads_on-clause-runs g c = record {
  reads = c.loop.counter + 1;
  reached = c.in_ok-read_on.ensures.ran_to _ _ _ c.loop.invariant.1;
  stops = λ e f h. absurd (reads_no_more _ _ (sym c.reads_on.ensures ∙ c.if-not-reads_on.true) e f);
}

pub returns-then-not-reads_on-clause-answers : goal.returns-then-not-reads_on-clause-answers
returns-then-not-reads_on-clause-answers g c =
    λ some h.
    let w = c.in_ok-read_on.ensures in
    what_is_known_is_answered (w.ran_to _ _ _ c.loop.invariant.1) h (w.end (omega arith))
