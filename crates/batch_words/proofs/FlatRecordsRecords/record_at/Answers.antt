-- The i-th record is that of the five words behind those of the records before it. Assumes nothing.
use mathlib.Core.Path.{◌≡◌, ◌∙◌}
use Prim.Native.Nat.{◌+◌, ◌*◌, ◌-◌}
use native.Mathlib.Omega.{arith}
use Rattle.batch_words.proofs.FlatLaws.{records_within, records_at}
use Rattle.batch_words.proofs.FlatRecordsRecords.record_at.Goals as goal

pub overflow_mul-from : goal.overflow_mul-from
overflow_mul-from c = omega (arith, records_within c.args.self.now.words.now c.args.i c.requires)

pub overflow_add-from : goal.overflow_add-from
overflow_add-from c = omega (arith, records_within c.args.self.now.words.now c.args.i c.requires)

pub offset_bounds-words-from : goal.offset_bounds-words-from
offset_bounds-words-from c = omega (arith, records_within c.args.self.now.words.now c.args.i c.requires)

pub slice_bounds-record_of-end : goal.slice_bounds-record_of-end
slice_bounds-record_of-end c =
    let h = records_within c.args.self.now.words.now c.args.i c.requires in omega arith

pub returns : goal.returns
returns c =
    let five : 5 * c.args.i + 5 - 5 * c.args.i ≡ 5 = omega arith in
    rw five at c.record_of.ensures ∙ records_at c.args.self.now.words.now c.args.i c.requires
