use Rattle.tool_requests.proofs.ReadLemmas.{no-bare}
use Rattle.tool_requests.proofs.WordLemmas.{passed-on}
use Rattle.tool_requests.proofs.labels.bare_label.Goals as goal

pub returns-in_err-value : goal.returns-in_err-value
returns-in_err-value c =
    passed-on _ c.from_residual.result c.in_err-value.field-0.0 c.from_residual.ensures.1 (no-bare c.args.bytes.now) c.in_err-value.ensures
