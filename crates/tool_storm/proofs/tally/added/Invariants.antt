use Rattle.std.proofs.Common.{◌≡◌, ◌+◌, ◌%◌, ◌^◌, take}
use Rattle.tool_storm.specs.Numbers.{sum_of}
use Rattle.tool_storm.proofs.tally.added.Given as goal

abbrev pub invariant-loop-value : goal.invariant-loop-value
invariant-loop-value l = l.sum ≡ (l.fn.start + sum_of (take l.value-index l.part)) % 2 ^ 64
