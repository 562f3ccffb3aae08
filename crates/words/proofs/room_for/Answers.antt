-- Within the bounds nothing overflows.
use Rattle.std.proofs.Common.{arith}
use Rattle.words.specs.Words.{small}
use Rattle.words.proofs.WordLaws.{sizes_in_bounds_true}
use Rattle.words.proofs.room_for.Goals as goal

pub overflow_mul-result : goal.overflow_mul-result
overflow_mul-result c = let b = sizes_in_bounds_true small _ _ c.requires in omega (arith, b.tasks)

pub overflow_add-result : goal.overflow_add-result
overflow_add-result c = let b = sizes_in_bounds_true small _ _ c.requires in omega (arith, b.tasks, b.promises)
