-- `line_entry::act_held` meets its contract: a line that starts otherwise than one with a list has no entries, and no
-- words are enough for them. Assumes nothing.
use mathlib.Core.Path.{sym, ◌∙◌}
use Rattle.line_entry.proofs.LineLaws.{none_fit}
use Rattle.line_entry.proofs.act_held.Goals as goal

pub act_with-requires : goal.act_with-requires
act_with-requires c =
    let told = sym c.may_list.ensures ∙ c.if-may_list.false in
    let pre = c.requires in
    (none_fit _ told, pre.0, pre.1, pre.2)
