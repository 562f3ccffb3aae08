-- `table_chains::leads_within` meets its contract: where it says yes, the words are those of a link. Assumes nothing.
use Prim.Native.Nat.{◌-◌}
use borrow.Author.Rules.{rules}
use Rattle.words.specs.Words.{first_owned}
use Rattle.words.proofs.ListLaws.{within_table}
use Rattle.rules.specs.Tables.{tables}
use Rattle.table_chains.proofs.OneWayLaws.{leads_by_words}
use Rattle.table_chains.proofs.leads_within.Goals as goal

pub returns-in-1 : goal.returns-in-1
returns-in-1 c e w =
    leads_by_words (tables c.args.tasks.now c.args.promises.now) _ _ _ (c.at-2.result - first_owned) w
    (search (rules, within_table)) (search (rules, within_table)) (search (rules, within_table))
    (search (rules, within_table)) (search (rules, within_table))

pub returns-in-1-2 : goal.returns-in-1-2
returns-in-1-2 c e w =
    leads_by_words (tables c.args.tasks.now c.args.promises.now) _ _ _ (c.at-2.result - first_owned) w
    (search (rules, within_table)) (search (rules, within_table)) (search (rules, within_table))
    (search (rules, within_table)) (search (rules, within_table))
