-- `text_records::step_after` meets its contract: each way out is the clause of `after_kind` for what the kind
-- takes, and a field starts past the numbers before it (`number_at_next`, `pair_at_next`). Assumes nothing.
use Rattle.std.proofs.Common.{rules, ◌≡◌, Ok}
use Rattle.text_records.specs.Records.{number_at, pair_at, ended, of_pair, of_list, of_one, after_kind}
use Rattle.text_records.proofs.RecordLaws.{number_at_next, pair_at_next}
use Rattle.text_records.proofs.step_after.Goals as goal

pub ended-requires : goal.ended-requires
ended-requires c =
    let w = c.in_ok-number-in-One in
    let e : number_at c.args.line.now c.args.at ≡ Ok (w.number, w.next) = search rules in
    let h = (number_at_next _ _ _ _ e).past in
    search rules

pub overflow_sub-result : goal.overflow_sub-result
overflow_sub-result c =
    let w = c.in_ok-first-in-List in
    let e : pair_at c.args.line.now c.args.at ≡ Ok (w.first, w.second, w.next) = search rules in
    let h = (pair_at_next _ _ _ _ _ e).past in
    search rules

pub returns-in_err-number-in-One : goal.returns-in_err-number-in-One
unfolding after_kind of_one
returns-in_err-number-in-One c = search rules

pub returns-in_err-ended-in-One : goal.returns-in_err-ended-in-One
unfolding after_kind of_one ended
returns-in_err-ended-in-One c = search rules

pub returns-in_ok-ended-in-One : goal.returns-in_ok-ended-in-One
unfolding after_kind of_one ended
returns-in_ok-ended-in-One c = search rules

pub returns-in_err-first-in-Two : goal.returns-in_err-first-in-Two
unfolding after_kind of_pair
returns-in_err-first-in-Two c = search rules

pub returns-in_ok-first-in-Two : goal.returns-in_ok-first-in-Two
unfolding after_kind of_pair
returns-in_ok-first-in-Two c = search rules

pub returns-in_err-first-in-List : goal.returns-in_err-first-in-List
unfolding after_kind of_list
returns-in_err-first-in-List c = search rules

pub returns-in_ok-first-in-List : goal.returns-in_ok-first-in-List
unfolding after_kind of_list
returns-in_ok-first-in-List c = search rules
