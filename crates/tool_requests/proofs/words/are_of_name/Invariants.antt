-- The bytes so far.
use Rattle.std.proofs.Common.{ℕ, ◌<◌, get_or}
use Rattle.tool_requests.specs.Lines.{IsOfName}
use Rattle.tool_requests.proofs.words.are_of_name.Given as goal

abbrev pub invariant-loop-byte : goal.invariant-loop-byte
invariant-loop-byte l = (k : ℕ) (d : ℕ) → k < l.byte-index → IsOfName (get_or l.text k d)
