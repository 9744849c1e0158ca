-- The value so far, and what is left.
use Rattle.std.proofs.Common.{length}
use Rattle.tool_requests.proofs.LabelLemmas.{QuotedSoFar}
use Rattle.tool_requests.proofs.labels.quoted.Given as goal

abbrev pub invariant-loop-rest : goal.invariant-loop-rest
invariant-loop-rest l = QuotedSoFar l.bytes l.rest l.value.items

abbrev pub decreases-loop-rest : goal.decreases-loop-rest
decreases-loop-rest l = length l.rest
