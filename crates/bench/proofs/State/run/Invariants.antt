-- Between two reads the run is where the bytes read so far lead, and nothing waits.
use Rattle.std.proofs.Common.{◌≡◌, true}
use Rattle.bench.specs.declared.Reading.TheVariants.{Open}
use Rattle.bench.specs.Running.{RanTo}
use Rattle.bench.proofs.State.run.Given as goal

abbrev pub invariant-loop : goal.invariant-loop
invariant-loop g l =
    (l.self.reading ≡ Open)
    × RanTo l.counter true l.self (g.R.Read.remaining l.initial.input) (g.R.Read.remaining l.input)
    (g.W.Write.contents l.initial.output) (g.W.Write.contents l.output)
