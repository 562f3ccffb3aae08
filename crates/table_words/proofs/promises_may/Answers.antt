-- `table_words::promises_may` meets its contract: each word is looked up, unless one is past the table's end or all are
-- known to be good. Assumes nothing.
use Prim.Native.Nat.{◌<◌, ◌≤◌}
use mathlib.Core.Path.{sym, ◌∙◌}
use native.Mathlib.Omega.{arith}
use lib.ListN.{length}
use borrow.Author.Tests.{lt-ltb, le-ltb}
use Rattle.table_words.proofs.AllowedLaws.{looked_up_lem, too_large}
use Rattle.table_words.proofs.promises_may.Goals as goal

pub returns-then-may-from : goal.returns-then-may-from
returns-then-may-from c =
    let room = c.requires.room in
    let n = length c.args.may.now in
    let past : n ≤ c.largest-most.result = omega (arith, c.from.ensures, c.if-may-from.true) in
    let high = c.largest-most.ensures n (omega (arith, c.requires.apart, room)) ∙ le-ltb _ _ past in
    sym (too_large _ c.args.tasks.now c.requires.apart c.args.promises.now n room high)

pub returns-then-all_owned : goal.returns-then-all_owned
returns-then-all_owned c = sym (c.all_owned.ensures c.if-all_owned.true _)

pub look_up-requires : goal.look_up-requires
look_up-requires c =
    let n = length c.args.may.now in
    let some : 0 < n = omega (arith, c.requires.apart, c.requires.room) in
    let within : c.largest-most.result < n = omega (arith, c.from.ensures, c.if-may-from.false) in
    let low = c.largest-most.ensures n some ∙ lt-ltb _ _ within in
    rw c.fill_may.auto.may low

pub returns : goal.returns
returns c =
    c.look_up.ensures
    ∙ looked_up_lem _ c.args.tasks.now c.requires.apart c.args.promises.now _
    c.fill_may.ensures
