use Rattle.std.proofs.Common.{◌≡◌, ℕ, ◌<◌, arith, sym, ◌∙◌, length, get_or, List}
use Rattle.std.proofs.lemmas.List.{length-map, get_or-map}
use Rattle.prefix_match.specs.Substring.{lowered, lowered_byte}
use Rattle.prefix_match.proofs.SubstringLinks.{linked_falls}
use Rattle.prefix_match.proofs.SubstringLinkWalks.{walk_start, walk_at_root, walk_more, walk_hit, walk_over}
use Rattle.prefix_match.proofs.substring.links.walk.Goals as goal

pub returns-then-nodes-offset0 : goal.returns-then-nodes-offset0
returns-then-nodes-offset0 c = λ ps k. walk_at_root ps c.args.nodes.now _ k.tree.root c.if-nodes-offset0.true k

pub loop-byte-init : goal.loop-byte-init
loop-byte-init c = walk_start c.args.nodes.now _ c.requires.linked.1.tree.root c.if-nodes-offset0.false

pub follow-step-requires-clause-falls : goal.follow-step-requires-clause-falls
follow-step-requires-clause-falls c = linked_falls c.requires.linked.0 c.args.nodes.now _ c.requires.linked.1

pub returns-then-nodes-state : goal.returns-then-nodes-state
returns-then-nodes-state c = λ ps k.
    let f = lowered_byte c.args.fold_case in
    let text : List ℕ = c.args.text.now in
    let i : ℕ = c.loop-byte.byte-index in
    let l : i < length (lowered c.args.fold_case text) = omega (arith, length-map text f) in
    let b : c.lowered.result ≡ get_or (lowered c.args.fold_case text) i 0 = c.lowered.ensures ∙ sym (get_or-map f text i 0 0 c.loop-byte-test.true) in
    walk_hit ps c.args.nodes.now (lowered c.args.fold_case text) i c.loop-byte.state c.loop-byte.moves c.follow-step.result.state c.follow-step.result.moves c.lowered.result l b c.loop-byte.invariant
    c.follow-step.ensures.text c.follow-step.ensures.within c.follow-step.ensures.cost c.follow-step.ensures.rise c.if-nodes-state.true k

pub loop-byte-preserved : goal.loop-byte-preserved
loop-byte-preserved c =
    let f = lowered_byte c.args.fold_case in
    let text : List ℕ = c.args.text.now in
    let i : ℕ = c.loop-byte.byte-index in
    let l : i < length (lowered c.args.fold_case text) = omega (arith, length-map text f) in
    let b : c.lowered.result ≡ get_or (lowered c.args.fold_case text) i 0 = c.lowered.ensures ∙ sym (get_or-map f text i 0 0 c.loop-byte-test.true) in
    walk_more c.args.nodes.now (lowered c.args.fold_case text) i c.loop-byte.state c.loop-byte.moves c.follow-step.result.state c.follow-step.result.moves c.lowered.result l b c.loop-byte.invariant
    c.follow-step.ensures.text c.follow-step.ensures.within c.follow-step.ensures.cost c.follow-step.ensures.rise c.if-nodes-state.false

pub returns : goal.returns
returns c = λ ps k.
    let all : c.loop-byte.byte-index ≡ length (lowered c.args.fold_case c.args.text.now) = omega (arith, length-map c.args.text.now (lowered_byte c.args.fold_case), c.loop-byte.auto.byte-index-end) in
    walk_over ps c.args.nodes.now _ c.loop-byte.byte-index c.loop-byte.state c.loop-byte.moves all c.loop-byte.invariant k
