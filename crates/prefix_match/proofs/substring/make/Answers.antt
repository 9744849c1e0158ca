use Rattle.std.proofs.Common.{◌≡◌, ◌∙◌, ap, subst, map}
use Rattle.prefix_match.specs.Substring.{lowered}
use Rattle.prefix_match.specs.SubstringForms.{IsFormOf}
use Rattle.prefix_match.proofs.SubstringAnswers.{compared_is}
use Rattle.prefix_match.proofs.substring.make.Goals as goal

pub invariant_of-result : goal.invariant_of-result
invariant_of-result c =
    let fold = c.args.fold_case in
    let patterns = c.in_ok-patterns.patterns.items in
    let e : map (λ p. lowered fold p.items) c.deref.result.now ≡ map (lowered fold) (map (λ p. p.items) patterns) =
    ap (λ vs. map (λ p. lowered fold p.items) vs) c.deref.ensures.value ∙ compared_is fold patterns in
    subst (λ ps. IsFormOf ps fold c.in_ok-form.form) e ((c.in_ok-form.ensures {u = tt}).form _ (c.in_ok-linked.ensures {u = tt}))
