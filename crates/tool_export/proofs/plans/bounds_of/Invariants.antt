-- The numbers so far, which are the bounds unless one found no memory, and what is left.
use Rattle.std.proofs.Common.{◌≡◌, length, List, ℤ}
use Rattle.std.specs.Result.{IfOk}
use Rattle.tool_export.proofs.BoundsLemmas.{BoundsSoFar}
use Rattle.tool_export.proofs.plans.bounds_of.Given as goal

abbrev pub invariant-loop-digits : goal.invariant-loop-digits
invariant-loop-digits l = (ns : List ℤ) × BoundsSoFar l.word l.rest ns × IfOk l.bounds (λ found. found.items ≡ ns)

abbrev pub decreases-loop-digits : goal.decreases-loop-digits
decreases-loop-digits l = length l.rest
