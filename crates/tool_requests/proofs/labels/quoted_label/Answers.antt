use Rattle.tool_requests.proofs.ReadLemmas.{no-quoted}
use Rattle.tool_requests.proofs.WordLemmas.{passed-on}
use Rattle.tool_requests.proofs.labels.quoted_label.Goals as goal

pub returns-in_err-label : goal.returns-in_err-label
returns-in_err-label c =
    passed-on _ c.from_residual-in_err-label.result c.in_err-label.field-0.0 c.from_residual-in_err-label.ensures.1
    (no-quoted c.args.bytes.now c.in_ok-value.value.items c.in_ok-value.rest.now c.in_ok-value.ensures.1) (rw c.deref.ensures.value at c.in_err-label.ensures)
