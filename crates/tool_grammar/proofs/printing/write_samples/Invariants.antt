-- The first sample, and those so far.
use Rattle.std.proofs.Common.{◌≡◌, ◌++◌, take, string_bytes}
use Rattle.tool_grammar.specs.Printing.{more_samples}
use Rattle.tool_grammar.proofs.printing.write_samples.Given as goal

abbrev pub invariant-loop-sample : goal.invariant-loop-sample
invariant-loop-sample l = string_bytes l.text ≡ string_bytes l.initial.text ++ more_samples (take l.sample-index l.others)
