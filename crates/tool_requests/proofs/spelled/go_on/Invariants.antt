-- No byte so far is rejected.
use Rattle.std.proofs.Common.{◌≡◌, drop}
use Rattle.std.specs.List.{list_all}
use Rattle.metrics_exposition.specs.Names.{goes_on}
use Rattle.tool_requests.proofs.spelled.go_on.Given as goal

abbrev pub invariant-loop-byte : goal.invariant-loop-byte
invariant-loop-byte l = list_all (goes_on l.colons) (drop l.byte-index l.bytes) ≡ list_all (goes_on l.colons) l.bytes
