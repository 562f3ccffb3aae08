-- `text_records::last_pair` meets its contract: a field starts past the pair before it (`pair_at_next`).
-- Assumes nothing.
use Rattle.std.proofs.Common.{rules, ◌≡◌, Ok}
use Rattle.text_records.specs.Records.{pair_at}
use Rattle.text_records.proofs.RecordLaws.{pair_at_next}
use Rattle.text_records.proofs.last_pair.Goals as goal

pub ended-requires : goal.ended-requires
ended-requires c =
    let e : pair_at c.args.line.now c.args.at ≡ Ok (c.in_ok-first.first, c.in_ok-first.second, c.in_ok-first.next) =
    search rules in
    let h = (pair_at_next _ _ _ _ _ e).past in
    search rules
