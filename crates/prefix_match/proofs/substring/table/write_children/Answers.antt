use Rattle.std.proofs.Common.{arith}
use Rattle.prefix_match.proofs.SubstringRows.{writing_start, writing_more, writing_end}
use Rattle.prefix_match.proofs.substring.table.write_children.Goals as goal

pub loop-child-init : goal.loop-child-init
loop-child-init c = writing_start _ _ c.args.columns.now.width c.args.state c.args.row _ c.requires.tree c.requires.state

pub loop-child-preserved : goal.loop-child-preserved
loop-child-preserved c =
    writing_more _ _ c.args.columns.now.width c.args.state c.args.row _ c.loop-child.next c.loop-child.child c.entry.result c.requires.tree c.requires.columns
    (omega (arith, c.loop-child.auto.next, c.requires.row)) (omega arith) c.entry.ensures c.loop-child.invariant

pub returns : goal.returns
returns c =
    writing_end _ _ c.args.columns.now.width c.args.state c.args.row _ c.loop-child.next c.loop-child.child c.loop-child.auto.next (omega arith) c.loop-child.invariant
