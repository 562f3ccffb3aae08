-- `text_keywords::keyword_of` meets its contract. The invariant: the field is looked up in the words that are left.
-- Assumes nothing.
use Rattle.std.proofs.Common.{rules, ◌≡◌, ◌∙◌, sym, ap, refl, Err}
use Rattle.text_fields.specs.Fields.{bad_byte}
use Rattle.text_keywords.specs.Keywords.{keywords, keyword_of}
use Rattle.text_keywords.proofs.KeywordLaws.{lookup_here, lookup_past, lookup_end}
use Rattle.text_keywords.proofs.keyword_of.Goals as goal

pub loop-keyword-init : goal.loop-keyword-init
unfolding keywords keyword_of
loop-keyword-init c = refl

pub returns-then-eq : goal.returns-then-eq
returns-then-eq c =
    let e : c.text.result.now ≡ c.args.field.now = search rules in
    sym (lookup_here _ _ _ _ c.loop-keyword-test.true _ (sym c.text.ensures ∙ e)) ∙ c.loop-keyword.invariant

pub loop-keyword-preserved : goal.loop-keyword-preserved
loop-keyword-preserved c =
    let n : c.text.result.now ≡ c.args.field.now → ⊥ = search rules in
    sym (lookup_past _ _ _ _ c.loop-keyword-test.true _ (λ e. n (c.text.ensures ∙ e))) ∙ c.loop-keyword.invariant

pub returns : goal.returns
returns c =
    ap (λ k. Err (bad_byte k)) c.furthest.ensures
    ∙ sym (lookup_end c.args.field.now _ _ _ c.loop-keyword-test.false) ∙ c.loop-keyword.invariant
