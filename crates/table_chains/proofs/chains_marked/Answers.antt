-- `table_chains::chains_marked` meets its contract. The loop keeps: the tasks from v on pass, and the marks say what is
-- known. Assumes nothing.
use Prim.Native.Nat.{◌-◌, ◌<◌}
use mathlib.Core.Path.{sym, ◌∙◌}
use native.Mathlib.Omega.{arith}
use Rattle.words.proofs.ListLaws.{all_below_fails}
use Rattle.words.proofs.LoopLaws.{tested_from_start, tested_from_turn, tested_from_end}
use Rattle.table_chains.proofs.chains_marked.Goals as goal

pub loop-v-init : goal.loop-v-init
loop-v-init c = (tested_from_start _ _, c.requires)

pub chain_passes-requires : goal.chain_passes-requires
chain_passes-requires c =
    let kept = c.loop-v.invariant in
    (omega (arith, kept.0.within, c.loop-v-test.true), kept.1)

pub returns-then-not-chain_passes : goal.returns-then-not-chain_passes
returns-then-not-chain_passes c =
    let r = c.chain_passes in
    let kept = c.loop-v.invariant in
    let fails = sym r.ensures.0 ∙ c.if-not-chain_passes.true in
    sym (all_below_fails _ (c.loop-v.v - 1) _ (omega (arith, kept.0.within, c.loop-v-test.true)) fails)

pub loop-v-preserved : goal.loop-v-preserved
loop-v-preserved c =
    let kept = c.loop-v.invariant in
    let r = c.chain_passes in
    let good = c.if-not-chain_passes.false in
    let same = r.auto.marks in
    let some : 0 < c.loop-v.v = omega (arith, c.loop-v-test.true) in
    let tested = tested_from_turn _ _ kept.0 some (sym r.ensures.0 ∙ good) in
    (tested, record { room = omega (arith, same, kept.1.room); fits = kept.1.fits; marked = r.ensures.1 good })

pub returns : goal.returns
returns c = tested_from_end _ _ c.loop-v.invariant.0 (omega (arith, c.loop-v-test.false))
