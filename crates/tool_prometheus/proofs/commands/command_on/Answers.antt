use Rattle.std.proofs.Common.{[], inr, refl}
use Rattle.std.proofs.KnownBytes.{Consumes-nil}
use Rattle.tool_prometheus.specs.Asked.{nothing_asked}
use Rattle.tool_prometheus.proofs.commands.command_on.Goals as goal

pub returns-in-Err : goal.returns-in-Err
returns-in-Err g c = λ start begins. (
  [],
  [],
  nothing_asked,
  Consumes-nil _,
  c.end_before.ensures.output,
  c.end_before.ensures.asked,
  inr (refl, refl, refl, c.end_before.ensures.status),
)
