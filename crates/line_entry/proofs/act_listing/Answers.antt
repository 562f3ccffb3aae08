-- `line_entry::act_listing` meets its contract: the words that are cleared are enough for any list. Assumes nothing.
use Rattle.line_entry.proofs.LineLaws.{most_fit}
use Rattle.line_entry.proofs.act_listing.Goals as goal

pub act_with-requires : goal.act_with-requires
act_with-requires c =
    let pre = c.requires in
    (most_fit _, pre.0, pre.1, pre.2)
