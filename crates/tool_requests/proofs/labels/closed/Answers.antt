use Rattle.std.proofs.Common.{rules}
use Rattle.tool_requests.proofs.ReadLemmas.{not-closed}
use Rattle.tool_requests.proofs.labels.closed.Goals as goal

pub returns-then-not-starts_at_space : goal.returns-then-not-starts_at_space
returns-then-not-starts_at_space c = not-closed c.args.bytes.now c.in_ok-value.value.items c.in_ok-value.rest.now
    c.in_ok-value.ensures.1 (c.starts_at_space.ensures.no (search rules))
