use Rattle.std.proofs.Common.{◌≡◌, ℕ, arith, ap, sym, ◌∙◌, length, [], ◌∷◌, ◌++◌, get_or}
use Rattle.prefix_match.specs.Substring.{longest_front}
use Rattle.prefix_match.specs.SubstringStates.{text_of, IsChild, HasNoChild}
use Rattle.prefix_match.proofs.SubstringStates.{text_of-root, length-text_of}
use Rattle.prefix_match.proofs.SubstringLinks.{text_above, child_length, child_longest, root_longest, fall_more}
use Rattle.prefix_match.proofs.substring.links.follow.Goals as goal

pub overflow_add-result : goal.overflow_add-result
overflow_add-result c =
    let nodes = c.args.nodes.now in
    omega (arith, text_above nodes c.loop-state.state c.requires.tree (omega arith) c.loop-state.invariant.within, length-text_of nodes c.args.from, c.ranges.from.fits, c.loop-state.invariant.cost)

pub overflow_add-moves : goal.overflow_add-moves
overflow_add-moves c =
    let nodes = c.args.nodes.now in
    omega (arith, text_above nodes c.loop-state.state c.requires.tree (omega arith) c.loop-state.invariant.within, length-text_of nodes c.args.from, c.ranges.from.fits, c.loop-state.invariant.cost)

pub overflow_add-result-else-next-eq0 : goal.overflow_add-result-else-next-eq0
overflow_add-result-else-next-eq0 c =
    let nodes = c.args.nodes.now in
    omega (arith, length-text_of nodes c.args.from, c.ranges.from.fits, c.loop-state.invariant.cost)

pub returns-in-Some-clause-cost : goal.returns-in-Some-clause-cost
returns-in-Some-clause-cost c =
    omega (arith, child_length c.args.nodes.now c.loop-state.state c.args.byte c.in-Some.next c.requires.tree (c.in-Some.ensures {u = tt}).found, c.loop-state.invariant.cost)

pub returns-in-Some-clause-rise : goal.returns-in-Some-clause-rise
returns-in-Some-clause-rise c =
    omega (arith, child_length c.args.nodes.now c.loop-state.state c.args.byte c.in-Some.next c.requires.tree (c.in-Some.ensures {u = tt}).found, c.loop-state.invariant.cost)

pub returns-in-Some-clause-short : goal.returns-in-Some-clause-short
returns-in-Some-clause-short c =
    omega (arith, child_length c.args.nodes.now c.loop-state.state c.args.byte c.in-Some.next c.requires.tree (c.in-Some.ensures {u = tt}).found, c.loop-state.invariant.cost)

pub returns-in-Some-clause-text : goal.returns-in-Some-clause-text
returns-in-Some-clause-text c = λ ps has links.
    child_longest ps c.args.nodes.now c.loop-state.state c.args.byte c.in-Some.next c.requires.tree has (c.in-Some.ensures {u = tt}).found ∙ c.loop-state.invariant.text ps has links

pub loop-state-preserved : goal.loop-state-preserved
loop-state-preserved c =
    let f = fall_more c.args.nodes.now c.args.from c.loop-state.state c.args.byte c.loop-state.moves c.requires.tree c.requires.falls (omega arith) c.loop-state.invariant.within (c.in_default.ensures {u = tt}).none c.loop-state.invariant.cost in
    record {
      within = f.0;
      cost = f.1;
      text = λ ps has links. f.2 ps has links ∙ c.loop-state.invariant.text ps has links;
    }

pub returns-then-next-eq0-clause-text : goal.returns-then-next-eq0-clause-text
returns-then-next-eq0-clause-text c = λ ps has links.
    let nodes = c.args.nodes.now in
    let b : ℕ = c.args.byte in
    let none : HasNoChild nodes 0 b = c.requires.roots.none b (omega (arith, c.ranges.byte.fits)) c.if-next-eq0.true in
    let z : c.loop-state.state ≡ 0 = omega arith in
    root_longest ps nodes b c.requires.tree has none ∙ ap (λ x. longest_front ps (text_of nodes x ++ b ∷ [])) (sym z) ∙ c.loop-state.invariant.text ps has links

pub returns-else-next-eq0-clause-cost : goal.returns-else-next-eq0-clause-cost
returns-else-next-eq0-clause-cost c =
    let nodes = c.args.nodes.now in
    let n : ℕ = get_or c.args.roots.now c.args.byte 0 in
    let child : IsChild nodes 0 c.args.byte n = c.requires.roots.found c.args.byte (omega (arith, c.ranges.byte.fits)) (omega arith) in
    omega (arith, child_length nodes 0 c.args.byte n c.requires.tree child, ap length (text_of-root nodes), c.loop-state.invariant.cost)

pub returns-else-next-eq0-clause-rise : goal.returns-else-next-eq0-clause-rise
returns-else-next-eq0-clause-rise c =
    let nodes = c.args.nodes.now in
    let n : ℕ = get_or c.args.roots.now c.args.byte 0 in
    let child : IsChild nodes 0 c.args.byte n = c.requires.roots.found c.args.byte (omega (arith, c.ranges.byte.fits)) (omega arith) in
    omega (arith, child_length nodes 0 c.args.byte n c.requires.tree child, ap length (text_of-root nodes), c.loop-state.invariant.cost)

pub returns-else-next-eq0-clause-short : goal.returns-else-next-eq0-clause-short
returns-else-next-eq0-clause-short c =
    let nodes = c.args.nodes.now in
    let n : ℕ = get_or c.args.roots.now c.args.byte 0 in
    let child : IsChild nodes 0 c.args.byte n = c.requires.roots.found c.args.byte (omega (arith, c.ranges.byte.fits)) (omega arith) in
    omega (arith, child_length nodes 0 c.args.byte n c.requires.tree child, ap length (text_of-root nodes), c.loop-state.invariant.cost)

pub returns-else-next-eq0-clause-text : goal.returns-else-next-eq0-clause-text
returns-else-next-eq0-clause-text c = λ ps has links.
    let nodes = c.args.nodes.now in
    let b : ℕ = c.args.byte in
    let n : ℕ = get_or c.args.roots.now b 0 in
    let child : IsChild nodes 0 b n = c.requires.roots.found b (omega (arith, c.ranges.byte.fits)) (omega arith) in
    let z : c.loop-state.state ≡ 0 = omega arith in
    child_longest ps nodes 0 b n c.requires.tree has child ∙ ap (λ x. longest_front ps (text_of nodes x ++ b ∷ [])) (sym z) ∙ c.loop-state.invariant.text ps has links
