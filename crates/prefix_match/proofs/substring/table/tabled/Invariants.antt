use Rattle.prefix_match.proofs.SubstringFilling.{IsFilling}
use Rattle.prefix_match.proofs.substring.table.tabled.Given as goal

abbrev pub invariant-loop-place : goal.invariant-loop-place
invariant-loop-place l = IsFilling l.nodes l.columns.of l.columns.width l.order l.next.items l.place-index
