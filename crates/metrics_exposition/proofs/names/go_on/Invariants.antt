-- No byte so far is rejected.
use Rattle.std.proofs.Common.{◌≡◌, drop}
use Rattle.std.specs.List.{list_all}
use Rattle.metrics_exposition.specs.Names.{goes_on}
use Rattle.metrics_exposition.proofs.names.go_on.Given as goal

abbrev pub invariant-loop-c : goal.invariant-loop-c
invariant-loop-c l = list_all (goes_on l.colons) (drop l.c-index l.bytes) ≡ list_all (goes_on l.colons) l.bytes
