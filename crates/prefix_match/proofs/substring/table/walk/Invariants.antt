use Rattle.prefix_match.proofs.SubstringTableWalks.{IsTabling}
use Rattle.prefix_match.proofs.substring.table.walk.Given as goal

abbrev pub invariant-loop-byte : goal.invariant-loop-byte
invariant-loop-byte l = IsTabling l.classes l.next l.text l.byte-index l.row l.moves
