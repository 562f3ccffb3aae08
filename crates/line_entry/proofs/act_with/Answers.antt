-- `line_entry::act_with` meets its contract: what was judged is what is done. Assumes nothing.
use Rattle.line_entry.proofs.LineLaws.{judged_count, does_read}
use Rattle.line_entry.proofs.act_with.Goals as goal

pub act-requires : goal.act-requires
act-requires c =
    let pre = c.requires in
    (judged_count _ _ _ _ c.judge_held-form.ensures pre.0, pre.1, pre.2, pre.3)

pub returns : goal.returns
returns c =
    does_read _ _ _ _ _ _ _ c.judge_held-form.ensures c.requires.0 c.act.ensures
