-- The kinds of steps, and what each takes. Paper: 01, "Lines", "`new t p`, `set t p`, `get t p`, `async t c p..`,
-- `end t`".
--
--   shape_of k    one number, two, or two and a list
--   takes_list h  whether a list belongs to it
-- Assumes nothing.
use Rattle.std.specs.Prelude.{Bool, true, false}
use Rattle.step_kinds.specs.declared.Kind.{Kind}
use Rattle.step_kinds.specs.declared.Kind.TheVariants.{New, Set, Get, Async, End}
use Rattle.step_kinds.specs.declared.Shape.{Shape}
use Rattle.step_kinds.specs.declared.Shape.TheVariants.{One, Two, List}

unfoldable pub shape_of : Kind → Shape
shape_of New = Two
shape_of Set = Two
shape_of Get = Two
shape_of Async = List
shape_of End = One

unfoldable pub takes_list : Shape → Bool
takes_list One = false
takes_list Two = false
takes_list List = true
