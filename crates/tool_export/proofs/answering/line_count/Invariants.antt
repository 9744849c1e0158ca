-- The line feeds so far.
use Rattle.std.proofs.Common.{◌≡◌, take}
use Rattle.tool_export.specs.Exported.{number_of_lines}
use Rattle.tool_export.proofs.answering.line_count.Given as goal

abbrev pub invariant-loop-byte : goal.invariant-loop-byte
invariant-loop-byte l = l.count ≡ number_of_lines (take l.byte-index l.text)
