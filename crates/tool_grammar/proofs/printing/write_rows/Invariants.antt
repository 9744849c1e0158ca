-- The rows so far.
use Rattle.std.proofs.Common.{◌≡◌, ◌++◌, take, string_bytes}
use Rattle.tool_grammar.specs.Printing.{rows_text}
use Rattle.tool_grammar.proofs.printing.write_rows.Given as goal

abbrev pub invariant-loop-row : goal.invariant-loop-row
invariant-loop-row l = string_bytes l.text ≡ string_bytes l.initial.text ++ rows_text (take l.row-index l.rows)
