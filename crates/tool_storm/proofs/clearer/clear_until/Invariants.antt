use Rattle.tool_storm.specs.Pens.{HasTaken, TellsTaken}
use Rattle.tool_storm.proofs.clearer.clear_until.Given as goal

abbrev pub invariant-loop : goal.invariant-loop
invariant-loop g l = g.B.Bucket.owns l.shared.bucket l.pen × HasTaken (g.B.Bucket.bags l.initial.pen) (g.B.Bucket.bags l.pen) × TellsTaken l.found (g.B.Bucket.bags l.pen)
