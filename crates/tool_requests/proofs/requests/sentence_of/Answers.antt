use Rattle.std.proofs.Common.{refl, ap, ◌∙◌, ◌∷◌}
use Rattle.tool_requests.specs.Lines.{comment}
use Rattle.tool_requests.proofs.requests.sentence_of.Goals as goal

pub returns-then-first-eq35 : goal.returns-then-first-eq35
returns-then-first-eq35 c =
    (comment c.in-Some._others.now, tt, c.in-Some.ensures.cases.0 ∙ ap (λ z. z ∷ c.in-Some._others.now) c.if-first-eq35.true, refl)
