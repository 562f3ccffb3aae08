-- `table_words::largest` meets its contract: the iterator's fold is the fold of the list. Assumes nothing.
use Prim.Native.Nat.{max}
use borrow.Author.Rules.{rules}
use Rattle.std.proofs.lemmas.Iterator.{YieldsList-from_slice}
use Rattle.std.proofs.lemmas.Iterator.Consumers.{fold_from_yields_List}
use Rattle.table_words.proofs.AllowedLaws.{largest_of_all}
use Rattle.table_words.proofs.largest.Goals as goal

pub returns : goal.returns
returns c =
    let words = c.args.table.now in
    let road = YieldsList-from_slice words c.iter.ensures.rest in
    let most = fold_from_yields_List _ max 0 c.fold.result c.fold.ensures.ran road (λ a x b q k. search rules) in
    rw most (largest_of_all words)
