use Rattle.std.proofs.Common.{refl}
use Rattle.prefix_match.proofs.SubstringColumns.{numbering_start, numbering_more, numbering_skip, numbering_end}
use Rattle.prefix_match.proofs.substring.table.numbered.Goals as goal
use Rattle.prefix_match.proofs.substring.table.numbered.Goals.{then-used-byte, else-used-byte}

pub loop-byte-init : goal.loop-byte-init
loop-byte-init c = numbering_start _ _ refl

pub loop-byte-preserved : goal.loop-byte-preserved
loop-byte-preserved c =
    elim c.if-used-byte.branch [
      | then-used-byte w ↦ rw (w.of-is, w.last-is) (numbering_more _ c.loop-byte.of c.loop-byte.last c.loop-byte.byte c.loop-byte-test.true c.loop-byte.invariant)
      | else-used-byte w ↦ rw (w.of-is, w.last-is) (numbering_skip _ c.loop-byte.of c.loop-byte.last c.loop-byte.byte w.if-used-byte.false c.loop-byte.invariant)
    ]

pub returns-clause-numbering : goal.returns-clause-numbering
returns-clause-numbering c = numbering_end _ c.loop-byte.of c.loop-byte.last c.loop-byte.byte c.told-used c.loop-byte-test.false c.loop-byte.invariant
