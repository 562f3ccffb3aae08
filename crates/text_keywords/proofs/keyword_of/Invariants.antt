-- `text_keywords::keyword_of` meets its contract. The invariant: the field is looked up in the words that are left.
-- Assumes nothing.
use Rattle.std.proofs.Common.{◌≡◌, drop}
use Rattle.text_keywords.specs.Keywords.{lookup, longest, keywords, keyword_of}
use Rattle.text_keywords.proofs.keyword_of.Given as goal

abbrev pub invariant-loop-keyword : goal.invariant-loop-keyword
invariant-loop-keyword l =
    lookup l.field (longest l.field keywords) (drop l.keyword-index l.keyword-items) ≡ keyword_of l.field
