-- `batch::has_room` meets its contract: within the bounds no product overflows. Assumes nothing.
use Prim.Native.Nat.{◌≤◌}
use mathlib.Core.Path.{sym, ◌∙◌}
use native.Mathlib.Nat.{mul-le-mul}
use Rattle.words.specs.Words.{small, room_for}
use Rattle.words.proofs.WordLaws.{sizes_in_bounds_true}
use Rattle.batch.proofs.BatchLaws.{room_no_sizes, room_too_many, room_rest}
use native.Mathlib.Omega.{arith}
use borrow.Author.Tests.{le-leb, lt-leb}
use Rattle.batch.proofs.has_room.Goals as goal

pub returns-then-records-gt-RECORDS : goal.returns-then-records-gt-RECORDS
returns-then-records-gt-RECORDS c =
    let a = c.args in
    room_too_many small a.tasks a.promises a.records a.report a.answers c.if-records-gt-RECORDS.true

pub returns-then-not-sizes_in_bounds : goal.returns-then-not-sizes_in_bounds
returns-then-not-sizes_in_bounds c =
    let a = c.args in
    room_no_sizes small a.tasks a.promises a.records a.report a.answers
    (sym c.sizes_in_bounds.ensures ∙ c.if-not-sizes_in_bounds.true)

pub overflow_mul-records : goal.overflow_mul-records
overflow_mul-records c =
    let b = sizes_in_bounds_true small _ _ (sym c.sizes_in_bounds.ensures ∙ c.if-not-sizes_in_bounds.false) in
    let h : c.room_for.result ≤ room_for small.most_tasks small.most_promises =
    omega (arith, c.room_for.ensures, b.tasks, b.promises) in
    omega (arith, mul-le-mul c.if-records-gt-RECORDS.false h)

pub returns-then-records-room_for : goal.returns-then-records-room_for
returns-then-records-room_for c =
    let a = c.args in
    let rest = room_rest small a.tasks a.promises a.records a.report a.answers
    (sym c.sizes_in_bounds.ensures ∙ c.if-not-sizes_in_bounds.false) c.if-records-gt-RECORDS.false in
    let fits = rw c.room_for.ensures at c.if-records-room_for.true in
    rw (le-leb _ _ fits) at rest

pub returns-else-records-room_for : goal.returns-else-records-room_for
returns-else-records-room_for c =
    let a = c.args in
    let rest = room_rest small a.tasks a.promises a.records a.report a.answers
    (sym c.sizes_in_bounds.ensures ∙ c.if-not-sizes_in_bounds.false) c.if-records-gt-RECORDS.false in
    let passes = rw c.room_for.ensures at c.if-records-room_for.false in
    rw (c.room_for.ensures, lt-leb _ _ passes) (rw (lt-leb _ _ passes) at rest)
