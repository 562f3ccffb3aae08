-- Laws of specs/Named.antt. Assumes nothing.
use Prim.Native.Nat.{ℕ}
use mathlib.Core.Path.{◌≡◌, refl}
use mathlib.Core.List.{List}
use mathlib.Core.Bool.{false}
use denote.Bor.{Bor}
use Rattle.words.proofs.BoolLaws.{true_is_not_false}
use Rattle.step_kinds.specs.declared.Kind.{Kind}
use Rattle.step_kinds.specs.declared.Kind.TheVariants.{New, Set, Get, Async, End}
use Rattle.step_kinds.specs.Kinds.{shape_of, takes_list}
use Rattle.rules.specs.Steps.{Step, step_new, step_set, step_get, step_async, step_end}
use Rattle.steps.specs.Named.{of_rules, step_by}
use Rattle.steps.specs.declared.Step as D
use Rattle.steps.specs.declared.Step.TheVariants as V

-- a kind that takes no list is the same step with any
pub step_by_plain : (k : Kind) (t p : ℕ) (l m : List ℕ) → takes_list (shape_of k) ≡ false
    → step_by k t p l ≡ step_by k t p m
unfolding shape_of takes_list
step_by_plain New t p l m h = refl
step_by_plain Set t p l m h = refl
step_by_plain Get t p l m h = refl
step_by_plain Async t p l m h = absurd (true_is_not_false h)
step_by_plain End t p l m h = refl

-- the contract of a step is that of each of the five: the values stand for these steps
pub named_new : (t p : ℕ) → of_rules (V.New t p) ≡ step_new t p
named_new t p = refl

pub named_set : (t p : ℕ) → of_rules (V.Set t p) ≡ step_set t p
named_set t p = refl

pub named_get : (t p : ℕ) → of_rules (V.Get t p) ≡ step_get t p
named_get t p = refl

pub named_async : (t c : ℕ) (l : Bor (List ℕ)) → of_rules (V.Async t c l) ≡ step_async t c l.now
named_async t c l = refl

pub named_end : (t : ℕ) → of_rules (V.End t) ≡ step_end t
named_end t = refl

-- and no step of the rules is left out
pub each_is_named : (x : Step) → (v : D.Step) × (of_rules v ≡ x)
each_is_named (step_new t p) = (V.New t p, refl)
each_is_named (step_set t p) = (V.Set t p, refl)
each_is_named (step_get t p) = (V.Get t p, refl)
each_is_named (step_async t c l) = (V.Async t c (record { ref_ptr = (0, 0); now = l }), refl)
each_is_named (step_end t) = (V.End t, refl)
