-- `text_keywords::furthest` meets its contract. The invariant: the words so far, and those that are left, give the
-- answer. Assumes nothing.
use Rattle.std.proofs.Common.{◌≡◌, drop}
use Rattle.text_keywords.specs.Keywords.{larger, longest, keywords}
use Rattle.text_keywords.proofs.furthest.Given as goal

abbrev pub invariant-loop-word : goal.invariant-loop-word
invariant-loop-word l = larger (longest l.field (drop l.word-index l.word-items)) l.most ≡ longest l.field keywords
