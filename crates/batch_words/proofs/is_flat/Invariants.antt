-- The words that are left are records if all are. Assumes nothing.
use mathlib.Core.Path.{◌≡◌}
use Rattle.std.specs.Slice.Iter.{chunks_rest, chunks_size}
use Rattle.batch_words.specs.Flat.{is_flat}
use Rattle.batch_words.proofs.is_flat.Given as goal

abbrev pub invariant-loop-five : goal.invariant-loop-five
invariant-loop-five l = record {
  can_next : (goal.iterator-loop-five).can_next l.five-iterator;
  ends : (goal.iterator-loop-five).is_finite l.five-iterator;
  fives : chunks_size l.five-iterator ≡ 5;
  rest : is_flat (chunks_rest l.five-iterator) ≡ is_flat l.words;
}
