-- What was lent is the rest of the output array, so the answer ends within it, and what the turn leaves is what the
-- desk comes to.
use Rattle.std.proofs.Common.{refl, arith, ◌∙◌}
use Rattle.rules.specs.Tables.{tables}
use Rattle.bench.proofs.BenchLaws.{fed_line, line_ends}
use Rattle.bench.proofs.State.serve_line.Goals as goal

pub overflow_add-self : goal.overflow_add-self
overflow_add-self g c =
    let v = c.serve-served in
    let room = c.make_room-room.ensures.room in
    let h =
    line_ends c.args.block.now c.args.from c.make_room-room.new.self {st = tables v.new.tasks v.new.promises} v.ensures
    c.requires (omega arith) in
    omega (arith, h.2)

pub invariant_of-self : goal.invariant_of-self
invariant_of-self g c =
    let v = c.serve-served in
    let room = c.make_room-room.ensures.room in
    let h =
    line_ends c.args.block.now c.args.from c.make_room-room.new.self {st = tables v.new.tasks v.new.promises} v.ensures
    c.requires (omega arith) in
    record { waits_within = omega (arith, h.2) }

pub returns-clause-next : goal.returns-clause-next
returns-clause-next g c =
    let v = c.serve-served in
    let room = c.make_room-room.ensures.room in
    let h =
    line_ends c.args.block.now c.args.from c.make_room-room.new.self {st = tables v.new.tasks v.new.promises} v.ensures
    c.requires (omega arith) in
    (h.0, h.1)

pub returns-clause-fed : goal.returns-clause-fed
returns-clause-fed g c =
    λ d held e h.
    fed_line d c.args.block.now c.args.from c.make_room-room.new.self _ held _ c.serve-served.ensures
    (refl, refl, refl, refl, refl, refl, refl) (omega (arith, c.make_room-room.ensures.room)) c.requires (h.going ∙ e)
    (c.in_ok-room.ensures.at d held h)
