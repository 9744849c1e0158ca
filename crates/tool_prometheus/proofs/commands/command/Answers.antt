use Rattle.std.proofs.Common.{[], inr, refl}
use Rattle.std.proofs.KnownBytes.{Consumes-nil}
use Rattle.tool_prometheus.specs.Asked.{nothing_asked}
use Rattle.tool_prometheus.specs.Serving.{new_start}
use Rattle.tool_prometheus.proofs.commands.command.Goals as goal

pub returns-in-Ok : goal.returns-in-Ok
returns-in-Ok g c = c.command_on.ensures new_start c.in-Ok.ensures

pub returns-in-Err : goal.returns-in-Err
returns-in-Err g c = (
  [],
  [],
  nothing_asked,
  Consumes-nil _,
  c.end_before.ensures.output,
  c.end_before.ensures.asked,
  inr (refl, refl, refl, c.end_before.ensures.status),
)
