use Rattle.std.proofs.Common.{refl}
use Rattle.prefix_match.proofs.SubstringShapes.{shape_tree, shape_roots}
use Rattle.prefix_match.proofs.SubstringLinkLoops.{linking_start, linking_falls, linking_more, linking_end, shape_order}
use Rattle.prefix_match.proofs.substring.links.link_all.Goals as goal

pub loop-place-init : goal.loop-place-init
loop-place-init c = linking_start _ _

pub link-requires-clause-tree : goal.link-requires-clause-tree
link-requires-clause-tree c = shape_tree _ _ c.loop-place.invariant.shape c.requires.tree

pub link-requires-clause-roots : goal.link-requires-clause-roots
link-requires-clause-roots c = shape_roots _ _ _ c.loop-place.invariant.shape c.requires.roots

pub link-requires-clause-falls : goal.link-requires-clause-falls
link-requires-clause-falls c = linking_falls _ _ _ c.loop-place.place-index c.requires.tree c.requires.order c.loop-place-test.true c.loop-place.invariant

pub loop-place-preserved : goal.loop-place-preserved
loop-place-preserved c =
    linking_more _ c.loop-place.nodes c.link.new.nodes _ c.loop-place.place-index _ refl c.requires.tree c.requires.order c.loop-place-test.true c.loop-place.invariant
    c.link.ensures.shape c.link.ensures.others c.link.ensures.falls c.link.ensures.link

pub returns-clause-links : goal.returns-clause-links
returns-clause-links c = linking_end _ c.loop-place.nodes _ c.loop-place.place-index c.requires.order c.loop-place-test.false c.loop-place.invariant

pub returns-clause-roots : goal.returns-clause-roots
returns-clause-roots c = shape_roots _ _ _ c.loop-place.invariant.shape c.requires.roots

pub returns-clause-order : goal.returns-clause-order
returns-clause-order c = shape_order _ _ _ c.loop-place.invariant.shape c.requires.tree c.requires.order
