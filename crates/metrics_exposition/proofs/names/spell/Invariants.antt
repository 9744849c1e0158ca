-- The name so far.
use Rattle.std.proofs.Common.{◌≡◌, string_bytes}
use Rattle.metrics_exposition.specs.Names.{spelled}
use Rattle.metrics_exposition.proofs.names.spell.Given as goal

abbrev pub invariant-loop-c : goal.invariant-loop-c
invariant-loop-c l = string_bytes l.spelled ≡ spelled l.colons l.yielded
