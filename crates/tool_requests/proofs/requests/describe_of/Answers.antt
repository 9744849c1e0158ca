use Rattle.tool_requests.proofs.ReadLemmas.{no-description-unit, no-description-text, description-read}
use Rattle.tool_requests.proofs.WordLemmas.{passed-on}
use Rattle.tool_requests.proofs.requests.describe_of.Goals as goal

pub returns-in_err-unit : goal.returns-in_err-unit
returns-in_err-unit c = λ dialect.
    passed-on _ c.from_residual-in_err-unit.result c.in_err-unit.field-0.0 c.from_residual-in_err-unit.ensures.1
    (no-description-unit c.args.bytes.now c.in_ok-kind.kind c.in_ok-kind.rest.now c.in_ok-kind.ensures.0 c.in_ok-kind.ensures.1
    c.in_ok-name.name.now c.in_ok-name.rest.now c.in_ok-name.ensures.0 c.in_ok-name.ensures.1 c.in_ok-name.ensures.2) c.in_err-unit.ensures

pub returns-in_err-text : goal.returns-in_err-text
returns-in_err-text c = λ dialect.
    passed-on _ c.from_residual-in_err-text.result c.in_err-text.field-0.0 c.from_residual-in_err-text.ensures.1
    (no-description-text c.args.bytes.now c.in_ok-kind.kind c.in_ok-kind.rest.now c.in_ok-kind.ensures.0 c.in_ok-kind.ensures.1
    c.in_ok-name.name.now c.in_ok-name.rest.now c.in_ok-name.ensures.0 c.in_ok-name.ensures.1 c.in_ok-name.ensures.2 c.in_ok-unit.unit c.in_ok-unit.rest.now c.in_ok-unit.ensures.0 c.in_ok-unit.ensures.1) c.in_err-text.ensures

pub returns : goal.returns
returns c = λ dialect.
    description-read c.args.bytes.now c.in_ok-kind.kind c.in_ok-kind.rest.now c.in_ok-kind.ensures.0 c.in_ok-kind.ensures.1
    c.in_ok-name.name.now c.in_ok-name.rest.now c.in_ok-name.ensures.0 c.in_ok-name.ensures.1 c.in_ok-name.ensures.2 c.in_ok-unit.unit c.in_ok-unit.rest.now c.in_ok-unit.ensures.0 c.in_ok-unit.ensures.1 dialect c.in_ok-text.text.now c.in_ok-text.ensures.0 c.in_ok-text.ensures.1
