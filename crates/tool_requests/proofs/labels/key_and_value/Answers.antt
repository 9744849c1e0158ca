use Rattle.tool_requests.proofs.ReadLemmas.{has-space, no-key, key-found}
use Rattle.tool_requests.proofs.WordLemmas.{passed-on}
use Rattle.tool_requests.proofs.labels.key_and_value.Goals as goal

pub returns-then-place_of-key : goal.returns-then-place_of-key
returns-then-place_of-key c = has-space c.args.bytes.now c.in-Some.key.now c.in-Some.value.now c.in-Some.ensures.0 c.in-Some.ensures.1 c.place_of.result c.if-place_of-key.true
    (c.place_of.ensures.at c.if-place_of-key.true)

pub returns-in_err-key : goal.returns-in_err-key
returns-in_err-key c =
    passed-on _ c.from_residual.result c.in_err-key.field-0.0 c.from_residual.ensures.1
    (no-key c.args.bytes.now c.in-Some.key.now c.in-Some.value.now c.in-Some.ensures.0 c.in-Some.ensures.1) c.in_err-key.ensures

pub returns : goal.returns
returns c = key-found c.args.bytes.now c.in-Some.key.now c.in-Some.value.now c.in-Some.ensures.0 c.in-Some.ensures.1 c.place_of.result c.in_ok-key.key.now c.if-place_of-key.false
    c.place_of.ensures.before c.in_ok-key.ensures.0 c.in_ok-key.ensures.1
