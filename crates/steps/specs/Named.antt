-- The step that a value stands for, and the one that a kind and its numbers name.
--
--   of_rules x       the step of the rules that the value x stands for
--   step_by k t p l  the step of the kind k with the numbers t and p and the list l; what the kind does not take is
--                    ignored
-- Assumes nothing.
use Rattle.std.specs.Prelude.{ℕ, List}
use Rattle.step_kinds.specs.declared.Kind.{Kind}
use Rattle.step_kinds.specs.declared.Kind.TheVariants.{New, Set, Get, Async, End}
use Rattle.rules.specs.Steps.{Step, step_new, step_set, step_get, step_async, step_end}
use Rattle.steps.specs.declared.Step as D
use Rattle.steps.specs.declared.Step.TheVariants as V

abbrev pub of_rules : D.Step → Step
of_rules (V.New t p) = step_new t p
of_rules (V.Set t p) = step_set t p
of_rules (V.Get t p) = step_get t p
of_rules (V.Async t c l) = step_async t c l.now
of_rules (V.End t) = step_end t

abbrev pub step_by : Kind → ℕ → ℕ → List ℕ → Step
step_by New t p l = step_new t p
step_by Set t p l = step_set t p
step_by Get t p l = step_get t p
step_by Async t c l = step_async t c l
step_by End t p l = step_end t
