use Rattle.std.proofs.Common.{ℕ, ◌<◌, arith, ap, ◌∙◌, length}
use Rattle.prefix_match.specs.SubstringStates.{node_at}
use Rattle.prefix_match.proofs.SubstringDepths.{depth_more}
use Rattle.prefix_match.proofs.SubstringStates.{text_of-root}
use Rattle.prefix_match.proofs.SubstringLinks.{text_above, above_falls, fail_front, root_fail_front, parent_up}
use Rattle.prefix_match.proofs.substring.links.fail_of.Goals as goal

pub bounds-nodes-parent : goal.bounds-nodes-parent
bounds-nodes-parent c = (above_falls c.args.nodes.now c.args.state c.requires.tree c.requires.state (omega arith) c.requires.falls).0

pub follow-requires-clause-from : goal.follow-requires-clause-from
follow-requires-clause-from c = (above_falls c.args.nodes.now c.args.state c.requires.tree c.requires.state (omega arith) c.requires.falls).1

pub follow-requires-clause-falls : goal.follow-requires-clause-falls
follow-requires-clause-falls c =
    let a = above_falls c.args.nodes.now c.args.state c.requires.tree c.requires.state (omega arith) c.requires.falls in
    λ x l h. c.requires.falls x l (omega (arith, a.2))

pub returns-then-parent-eq0-clause-falls : goal.returns-then-parent-eq0-clause-falls
returns-then-parent-eq0-clause-falls c = λ up. omega (arith, ap length (text_of-root c.args.nodes.now), text_above c.args.nodes.now c.args.state c.requires.tree up c.requires.state)

pub returns-then-parent-eq0-clause-link : goal.returns-then-parent-eq0-clause-link
returns-then-parent-eq0-clause-link c = λ ps has below up. root_fail_front ps c.args.nodes.now c.args.state c.requires.tree up c.requires.state c.if-parent-eq0.true

pub returns-clause-falls : goal.returns-clause-falls
returns-clause-falls c = λ up.
    let a = above_falls c.args.nodes.now c.args.state c.requires.tree c.requires.state (omega arith) c.requires.falls in
    omega (arith, a.2, c.follow.ensures.short)

pub returns-clause-root : goal.returns-clause-root
returns-clause-root c = λ z. absurd (omega (arith, parent_up c.args.nodes.now c.args.state c.requires.tree (omega arith)))

pub returns-clause-link : goal.returns-clause-link
returns-clause-link c = λ ps has below up.
    let nodes = c.args.nodes.now in
    let s : ℕ = c.args.state in
    let p : ℕ = (node_at nodes s).parent in
    let vp : 0 < p = omega arith in
    let a = above_falls nodes s c.requires.tree c.requires.state vp c.requires.falls in
    let linked = below p a.0 (omega (arith, depth_more nodes s c.requires.tree up c.requires.state)) in
    c.follow.ensures.text ps has (λ x l h. below x l (omega (arith, a.2))) ∙ fail_front ps nodes s (node_at nodes p).fail c.requires.tree up c.requires.state vp (linked.fail vp)
