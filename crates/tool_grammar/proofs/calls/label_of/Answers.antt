use Rattle.std.proofs.Common.{◌≡◌, ℕ, List, ◌∷◌, ◌++◌, sym, subst, ap, ◌∙◌}
use Rattle.tool_grammar.specs.Grammar.{IsLabel}
use Rattle.tool_grammar.proofs.WordsLemmas.{no_label_key, no_label_value, is_label}
use Rattle.tool_grammar.proofs.calls.label_of.Goals as goal

pub returns-in_default-from_utf8 : goal.returns-in_default-from_utf8
returns-in_default-from_utf8 c = no_label_key _ _ _ c.in-Some.ensures.0 c.in-Some.ensures.1 c.in_default-from_utf8.ensures.cases.0

pub returns-in_default-from_utf8-2 : goal.returns-in_default-from_utf8-2
returns-in_default-from_utf8-2 c = no_label_value _ _ _ c.in-Some.ensures.0 c.in-Some.ensures.1 c.in_default-from_utf8-2.ensures.cases.0

pub returns : goal.returns
returns c =
    let key = c.in-Some.key.now in
    let value = c.in-Some.value.now in
    let is : (key, value) ≡ c.in_ok-new.field-0 =
    sym (c.in_ok-new.ensures ∙ ap (λ k. (k, c.in-Ok-from_utf8.value_text.now)) c.in-Ok.ensures.cases.0 ∙ ap (λ v. (key, v)) c.in-Ok-from_utf8.ensures.cases.0) in
    subst (λ (l : List ℕ × List ℕ). IsLabel l × (c.args.word.now ≡ l.0 ++ 61 ∷ l.1)) is
    (is_label c.args.word.now key value c.in-Some.ensures.0 c.in-Some.ensures.1 c.requires c.in-Ok.ensures.cases.1 c.in-Ok-from_utf8.ensures.cases.1, c.in-Some.ensures.0)
