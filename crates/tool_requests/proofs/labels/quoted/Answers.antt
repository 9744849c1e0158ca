use Rattle.tool_requests.proofs.EscapeLemmas.{starts-else}
use Rattle.tool_requests.proofs.LabelLemmas.{quoted-ends, quoted-fails, quoted-more}
use Rattle.tool_requests.proofs.WordLemmas.{passed-on}
use Rattle.tool_requests.proofs.labels.quoted.Goals as goal

pub returns-in-Some : goal.returns-in-Some
returns-in-Some c = quoted-ends _ _ _ c.in-Some.left.now c.loop-rest.invariant c.in-Some.ensures

pub returns-in_err-byte : goal.returns-in_err-byte
returns-in_err-byte c =
    passed-on _ c.from_residual.result c.in_err-byte.field-0.0 c.from_residual.ensures.1
    (quoted-fails _ _ _ c.loop-rest.invariant (starts-else 34 _ c.in_default.ensures)) c.in_err-byte.ensures

pub loop-rest-preserved : goal.loop-rest-preserved
loop-rest-preserved c = rw c.in_ok-put.ensures (quoted-more _ _ _ _ c.in_ok-byte.byte c.loop-rest.invariant
    (starts-else 34 _ c.in_default.ensures) c.in_ok-byte.ensures.0 c.in_ok-byte.ensures.1)
