-- Whether the bytes so far have no escape.
use Rattle.std.proofs.Common.{◌≡◌, take}
use Rattle.std.specs.List.{list_all}
use Rattle.metrics_exposition.specs.Names.{is_plain}
use Rattle.metrics_exposition.proofs.names.are_few_plain.Given as goal

abbrev pub invariant-loop-c : goal.invariant-loop-c
invariant-loop-c l = l.are_plain ≡ list_all is_plain (take l.c-index l.bytes)
