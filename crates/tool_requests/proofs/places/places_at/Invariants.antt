-- The best one so far.
use Rattle.std.proofs.Common.{take}
use Rattle.std.specs.Option.{option_map}
use Rattle.tool_requests.specs.Places.{IsBest}
use Rattle.tool_requests.proofs.places.places_at.Given as goal

abbrev pub invariant-loop-one : goal.invariant-loop-one
invariant-loop-one l = IsBest (take l.one-index l.list) l.name (option_map (λ b. b.now) l.best)
