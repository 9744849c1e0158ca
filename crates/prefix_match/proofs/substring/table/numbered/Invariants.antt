use Rattle.prefix_match.proofs.SubstringColumns.{IsNumberingTo}
use Rattle.prefix_match.proofs.substring.table.numbered.Given as goal

abbrev pub invariant-loop-byte : goal.invariant-loop-byte
invariant-loop-byte l = IsNumberingTo l.used l.of l.last l.byte
