-- The fields are the parts of the text after its first.
use Rattle.std.proofs.Common.{◌∙◌, ap, sym, length, List, [], ℕ, Bor, rules}
use Rattle.std.specs.List.{slice_split}
use Rattle.std.proofs.lemmas.List.{get_or_default, length_push}
use Rattle.std.proofs.lemmas.Iterator.Splits.{YieldsList-from_slice_split}
use Rattle.edges.specs.Lines.{is_blank}
use Rattle.edges.specs.Commands.{fields_in, all_words}
use Rattle.edges.proofs.Parts.{first_given, turn_after, end_after}
use Rattle.edges.proofs.Reading.{all_words_more, too_much_at, err_of, parts_some, take_whole}
use Rattle.edges.proofs.read.read_command.Goals as goal

pub returns-clause-word : goal.returns-clause-word
returns-clause-word c =
    let text = c.args.text.now in
    let first = first_given c.next.result _ c.next.ensures.steps (parts_some text)
    (YieldsList-from_slice_split {s = c.split-fields.result} _ is_blank text c.split-fields.ensures.rest
    c.split-fields.ensures.done c.split-fields.ensures.closure (λ x b q k. search rules)) in
    let word = rw first.1 at c.unwrap_or-word.ensures in
    ap (λ (r : Bor (List ℕ)). r.now) word ∙ first.2
    ∙ get_or_default (slice_split is_blank text) 0 _ [] (parts_some text)

pub loop-field-preserved : goal.loop-field-preserved
loop-field-preserved c =
    let text = c.args.text.now in
    let turn = turn_after c.next.result _ _ c.next.ensures.steps c.into_iter-field-iterator.ensures.into_iter_gives
    c.loop-field.yielded _ c.loop-field.yielded_by c.next-in-loop-field.result _ c.in-Some.field c.in-Some.is
    c.next-in-loop-field.ensures.steps (parts_some text)
    (YieldsList-from_slice_split {s = c.split-fields.result} _ is_blank text c.split-fields.ensures.rest
    c.split-fields.ensures.done c.split-fields.ensures.closure (λ x b q k. search rules)) in
    rw (length_push c.loop-field.yielded c.in-Some.field)
    (all_words_more (fields_in text) (length c.loop-field.yielded) c.in-Some.field.now _ c.loop-field.invariant turn.0
    turn.1 ∙ c.in_ok-add_field.ensures.ok)

pub returns-in_err-add_field-clause-err : goal.returns-in_err-add_field-clause-err
returns-in_err-add_field-clause-err c =
    let text = c.args.text.now in
    let turn = turn_after c.next.result _ _ c.next.ensures.steps c.into_iter-field-iterator.ensures.into_iter_gives
    c.loop-field.yielded _ c.loop-field.yielded_by c.next-in-loop-field.result _ c.in-Some.field c.in-Some.is
    c.next-in-loop-field.ensures.steps (parts_some text)
    (YieldsList-from_slice_split {s = c.split-fields.result} _ is_blank text c.split-fields.ensures.rest
    c.split-fields.ensures.done c.split-fields.ensures.closure (λ x b q k. search rules)) in
    err_of c.from_residual.result
    (too_much_at _ (fields_in text) (length c.loop-field.yielded) c.in-Some.field.now _ c.loop-field.invariant turn.0
    turn.1 c.in_err-add_field.ensures.err)

pub returns-clause-values : goal.returns-clause-values
returns-clause-values c =
    let text = c.args.text.now in
    let end = end_after c.next.result _ _ c.next.ensures.steps c.into_iter-field-iterator.ensures.into_iter_gives
    c.loop-field.yielded _ c.loop-field.yielded_by c.next-in-loop-field.result _ c.in-None.is
    c.next-in-loop-field.ensures.steps (parts_some text)
    (YieldsList-from_slice_split {s = c.split-fields.result} _ is_blank text c.split-fields.ensures.rest
    c.split-fields.ensures.done c.split-fields.ensures.closure (λ x b q k. search rules)) in
    ap all_words (sym (take_whole (fields_in text) (length c.loop-field.yielded) end)) ∙ c.loop-field.invariant
