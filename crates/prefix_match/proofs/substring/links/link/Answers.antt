use Rattle.std.proofs.Common.{◌≡◌, ℕ, Bool, ◌||◌, ap, sym, ◌∙◌}
use Rattle.std.proofs.lemmas.Bool.{or_left}
use Rattle.prefix_match.specs.SubstringStates.{node_at}
use Rattle.prefix_match.proofs.SubstringLinks.{linked_state, with_link, with_link_shape, with_link_here, with_link_falls}
use Rattle.prefix_match.proofs.substring.links.link.Goals as goal
use Rattle.prefix_match.proofs.substring.links.link.Goals.{then-nodes-state, else-nodes-state}

pub returns-clause-falls : goal.returns-clause-falls
returns-clause-falls c = with_link_falls c.args.nodes.now c.args.state c.fail_of-fail.result c.if-nodes-state.matching c.requires.tree c.requires.state c.fail_of-fail.ensures.within c.fail_of-fail.ensures.falls

pub returns-clause-link : goal.returns-clause-link
returns-clause-link c = λ ps has below marked.
    let nodes = c.args.nodes.now in
    let s : ℕ = c.args.state in
    let f : ℕ = c.fail_of-fail.result in
    let m : Bool = c.if-nodes-state.matching in
    let both : m ≡ ((node_at nodes s).matching || (node_at nodes f).matching) =
    elim c.if-nodes-state.branch [
      | then-nodes-state w ↦ w.matching-is ∙ w.if-nodes-state.true ∙ sym (or_left (node_at nodes s).matching (node_at nodes f).matching w.if-nodes-state.true)
      | else-nodes-state w ↦ w.matching-is ∙ sym (ap (λ b. b || (node_at nodes f).matching) w.if-nodes-state.false)
    ] in
    let here = with_link_here nodes s f m c.requires.state in
    linked_state ps nodes (with_link nodes s f m) s f c.requires.tree c.requires.state (with_link_shape nodes s f m c.requires.state)
    (ap (λ y. y.fail) here) c.fail_of-fail.ensures.within (ap (λ y. y.matching) here ∙ both)
    (c.fail_of-fail.ensures.link ps has below) c.fail_of-fail.ensures.root below marked
