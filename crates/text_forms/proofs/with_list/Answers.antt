-- `text_forms::with_list` meets its contract: the list behind the child is read, and its answer is that of `with_list`.
-- Assumes nothing.
use Rattle.std.proofs.Common.{◌≡◌, ◌∙◌, ◌+◌, ◌≤◌, ℕ, sym, refl, ap, drop, rules, Ok, Err, Result}
use Rattle.text_fields.specs.declared.BadByte.{BadByte}
use Rattle.words.specs.Words.{longest_line}
use Rattle.text_lists.specs.Lists.{list_of}
use Rattle.text_forms.specs.Judging.{at_column, with_list}
use Rattle.text_forms.proofs.JudgingLaws.{with_list_all, with_list_bad}
use Rattle.text_forms.proofs.with_list.Goals as goal

pub map_err-requires : goal.map_err-requires
map_err-requires c = λ e q.
    let l : list_of (drop c.args.at c.args.line.now) ≡ Err e = search rules in
    let h : c.args.at + e.place ≤ longest_line = c.requires _ (sym (with_list_bad _ _ _ _ _ _ l)) in
    search rules

pub returns-in_err-count-clause-value : goal.returns-in_err-count-clause-value
returns-in_err-count-clause-value c = go c.list_after.result refl
  where
    told : c.from_residual.result ≡ Err c.in_err-count.field-0.0
    told = search rules

    go : (r : Result ℕ BadByte) → c.list_after.result ≡ r
        → c.from_residual.result
        ≡ with_list c.args.kind c.args.t c.args.c c.args.at (list_of (drop c.args.at c.args.line.now))
    go (Ok n) e = absurd (search rules)
    go (Err b) e =
        let h = rw e at c.map_err.ensures.cases in
        let l : list_of (drop c.args.at c.args.line.now) ≡ Err b = search rules in
        let m : c.map_err.result ≡ Err (at_column (c.args.at + b.place)) = search rules in
        let w : c.map_err.result ≡ Err c.in_err-count.field-0.0 = search rules in
        let x : c.in_err-count.field-0.0 ≡ at_column (c.args.at + b.place) = cc (m, w) in
        told ∙ ap Err x ∙ with_list_bad _ _ _ _ _ _ l

pub returns-clause-value : goal.returns-clause-value
returns-clause-value c =
    let l : list_of (drop c.args.at c.args.line.now) ≡ Ok c.in_ok-count.count = search rules in
    with_list_all _ _ _ _ _ _ l
