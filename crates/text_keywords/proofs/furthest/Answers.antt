-- `text_keywords::furthest` meets its contract. The invariant: the words so far, and those that are left, give the
-- answer. Assumes nothing.
use Rattle.std.proofs.Common.{◌∙◌, sym, ap}
use Rattle.text_keywords.specs.Keywords.{keywords, common}
use Rattle.text_keywords.proofs.KeywordLaws.{common_zip, longest_start, longest_more, longest_end}
use Rattle.text_keywords.proofs.furthest.Goals as goal

pub loop-word-init : goal.loop-word-init
unfolding keywords
loop-word-init c = longest_start _

pub loop-word-preserved : goal.loop-word-preserved
loop-word-preserved c =
    longest_more _ _ _ _ c.loop-word-test.true _ _ _
    (c.common.ensures ∙ common_zip _ _ ∙ ap (common c.args.field.now) c.text.ensures) c.max-most.ensures
    ∙ c.loop-word.invariant

pub returns : goal.returns
returns c = sym (longest_end c.args.field.now _ _ _ c.loop-word-test.false) ∙ c.loop-word.invariant
