use Rattle.std.proofs.Common.{◌∷◌, [], ◌++◌, ap, sym, ◌∙◌}
use Rattle.tool_requests.specs.Lines.{body_of}
use Rattle.tool_requests.proofs.SentenceLemmas.{body-return, body-other}
use Rattle.tool_requests.proofs.requests.body_of.Goals as goal

pub returns-then-last-eq13 : goal.returns-then-last-eq13
returns-then-last-eq13 c =
    let whole = c.in-Some.ensures.cases.0 ∙ ap (λ z. c.in-Some.front.now ++ z ∷ []) c.if-last-eq13.true in
    sym (ap body_of whole ∙ body-return c.in-Some.front.now)

pub returns-else-last-eq13 : goal.returns-else-last-eq13
returns-else-last-eq13 c =
    let whole = c.in-Some.ensures.cases.0 in
    whole ∙ sym (ap body_of whole ∙ body-other c.in-Some.front.now c.in-Some.last.now c.if-last-eq13.false)
