-- `line_entry::enter` meets its contract: the reply to a whole buffer is the entry of what it holds. Assumes nothing.
use Rattle.line_entry.proofs.LineLaws.{replied_whole}
use Rattle.line_entry.proofs.enter.Goals as goal

pub returns : goal.returns
returns c =
    replied_whole _ _ _ _ _ _ c.reply.ensures
