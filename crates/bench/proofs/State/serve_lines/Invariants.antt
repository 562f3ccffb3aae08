-- Each turn goes on in the block from where the turns before it led.
use Rattle.std.proofs.Common.{◌≡◌, ◌-◌, length, Option, List, ℕ}
use Rattle.line_serving.specs.Input.{Desk}
use Rattle.bench.specs.Carrying.{At, Fed}
use Rattle.bench.proofs.State.serve_lines.Given as goal

abbrev pub invariant-loop-self : goal.invariant-loop-self
invariant-loop-self g l =
    (l.self.reading ≡ l.initial.self.reading)
    × ((d : Desk) (held : Option (List ℕ)) → At d l.initial.self held (g.W.Write.contents l.initial.output)
    → Fed d l.block 0 l.from l.self held (g.W.Write.contents l.output))

abbrev pub decreases-loop-self : goal.decreases-loop-self
decreases-loop-self g l = length l.block - l.from
