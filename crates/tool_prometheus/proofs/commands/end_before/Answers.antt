use Rattle.std.proofs.Common.{false, [], ap, ◌∙◌}
use Rattle.std.proofs.KnownBytes.{Appends-nil, Appends-kept}
use Rattle.tool_prometheus.specs.Serving.{own_status}
use Rattle.tool_prometheus.proofs.ServingLemmas.{flushed-memory}
use Rattle.tool_prometheus.proofs.commands.end_before.Goals as goal

pub returns-clause-status : goal.returns-clause-status
returns-clause-status g c =
    let answered = c.flush-answered.result in
    ◌∙◌ {b = own_status answered false} c.final_status-status.ensures.status (ap (λ r. own_status r false) (flushed-memory answered c.flush-answered.ensures.flushed))

pub returns-clause-output : goal.returns-clause-output
returns-clause-output g c = Appends-kept _ _ _ [] (Appends-nil _) c.flush-answered.ensures.bytes
