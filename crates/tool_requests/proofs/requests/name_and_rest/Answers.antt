use Rattle.std.proofs.Common.{◌∷◌, ◌∙◌, ap}
use Rattle.tool_requests.proofs.ReadLemmas.{no-name, no-name-text}
use Rattle.tool_requests.proofs.WordLemmas.{passed-on}
use Rattle.tool_requests.proofs.requests.name_and_rest.Goals as goal

pub returns-in_err-text : goal.returns-in_err-text
returns-in_err-text c =
    passed-on _ c.from_residual.result c.in_err-text.field-0.0 c.from_residual.ensures.1
    (no-name-text c.args.bytes.now c.in-Some.others.now c.in-Some.ensures) c.in_err-text.ensures

pub returns-in_err-name : goal.returns-in_err-name
returns-in_err-name c =
    passed-on _ c.from_residual-in_err-name.result c.in_err-name.field-0.0 c.from_residual-in_err-name.ensures.1
    (no-name c.args.bytes.now c.in_ok-text.text.now c.in_ok-text.rest.now (c.in-Some.ensures ∙ ap (λ z. 32 ∷ z) c.in_ok-text.ensures.2)
    c.in_ok-text.ensures.1 c.in_ok-text.ensures.3) c.in_err-name.ensures
