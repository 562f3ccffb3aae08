-- `text_lists::list_after` meets its contract: past the line the rest is empty (`listing_past`). Assumes nothing.
use Rattle.std.proofs.Common.{rules, ◌≤◌, length}
use Rattle.text_lists.proofs.ListLaws.{listing_past}
use Rattle.text_lists.proofs.list_after.Goals as goal

pub returns-in-None : goal.returns-in-None
returns-in-None c =
    let h : length c.args.line.now ≤ c.args.at = search rules in
    listing_past c.args.line.now _ c.args.at h
