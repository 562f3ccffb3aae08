-- `table_chains::chains_pass` meets its contract: a short way says yes where it can, and otherwise the marks decide.
-- Assumes nothing.
use Prim.Native.Nat.{ℕ, ◌+◌}
use mathlib.Core.Path.{sym, refl, ◌∙◌}
use native.Mathlib.Omega.{arith}
use borrow.Author.Rules.{rules}
use lib.ListN.{length}
use Rattle.std.proofs.lemmas.Iterator.{cases_from_all, YieldsList-from_range}
use Rattle.rules.specs.Tables.{tables}
use Rattle.table_chains.specs.Marks.{LeadsWithin}
use Rattle.table_chains.proofs.EachBelow.{each_below, road_down, each_below_down}
use Rattle.table_chains.proofs.OneWayLaws.{all_lead_up, all_lead_down}
use Rattle.table_chains.proofs.chains_pass.Goals as goal
use Rattle.table_chains.proofs.chains_pass.Goals.{then-all, else-all}

pub returns-then-all-2 : goal.returns-then-all-2
returns-then-all-2 c =
    let lent = tables c.args.tasks.now c.args.promises.now in
    let count = length c.args.tasks.now in
    let road = YieldsList-from_range 0 count count refl (omega arith) in
    let yes = c.if-all-2.true in
    elim c.if-all.branch [
      | then-all w ↦
          let P : ℕ → Type 0 = λ v. LeadsWithin lent (v + 1) count v in
          let cases =
          cases_from_all _ _ _ P (λ v. Unit {0}) c.all.ensures.ran road (λ x q k. search rules) (λ x q k. tt) in
          yes ∙ sym (all_lead_up lent (each_below count P _ _ cases w.if-all.true))
      | else-all w ↦
          let P : ℕ → Type 0 = λ v. LeadsWithin lent 0 v v in
          let cases =
          cases_from_all _ _ _ P (λ v. Unit {0}) w.all-else-all.ensures.ran (road_down count w.rev.ensures.source)
          (λ x q k. search rules) (λ x q k. tt) in
          yes ∙ sym (all_lead_down lent (each_below_down count P _ _ cases (sym w.value-is ∙ yes)))
    ]
