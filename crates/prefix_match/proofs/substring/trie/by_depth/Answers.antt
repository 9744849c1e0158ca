use Rattle.std.proofs.Common.{◌≡◌, ℕ, ◌+◌, ◌<◌, arith, ap, sym, refl, ◌∙◌, length, get_or, List, [], ◌∷◌, ◌++◌, rules}
use Rattle.std.proofs.lemmas.List.{length_push}
use Rattle.std.proofs.lemmas.List.Sorted.{IsNonDecreasingBy-from_sort_by_key}
use Rattle.prefix_match.specs.declared.substring.trie.Place.{Place}
use Rattle.prefix_match.specs.SubstringStates.{node_at, text_of}
use Rattle.prefix_match.proofs.SubstringStates.{length-text_of}
use Rattle.prefix_match.proofs.SubstringDepths.{no_place, place_of, place_root, depth_more, places_more, read_place, by_depth_from}
use Rattle.prefix_match.proofs.substring.trie.by_depth.Goals as goal

pub loop-state-init : goal.loop-state-init
loop-state-init c =
    let one : c.push.new.self.items ≡ no_place ∷ [] = (c.in_ok-push.ensures {u = tt}).items ∙ ap (λ (xs : List Place). xs ++ no_place ∷ []) c.new-places.ensures.items in
    record {
      len = ap length one;
      each = λ k h. (let z : k ≡ 0 = omega arith in ap (get_or c.push.new.self.items k) refl ∙ ap (λ xs. get_or xs k no_place) one ∙ ap (λ n. get_or (no_place ∷ []) n no_place) z ∙ place_root c.args.nodes.now ∙ ap (place_of c.args.nodes.now) (sym z));
    }

pub overflow_add-depth : goal.overflow_add-depth
overflow_add-depth c =
    let nodes = c.args.nodes.now in
    let s : ℕ = c.loop-state.state in
    let p : ℕ = (node_at nodes s).parent in
    let down : p < s = c.requires.parents s (omega (arith, c.loop-state.auto.state)) c.loop-state-test.true in
    let is = read_place nodes c.loop-state.places.items s p c.index.result.now c.loop-state.invariant.len c.loop-state.invariant.each down c.index.ensures in
    omega (arith, ap (λ (x : Place). x.depth) is, length-text_of nodes p)

pub loop-state-preserved : goal.loop-state-preserved
loop-state-preserved c =
    let nodes = c.args.nodes.now in
    let s : ℕ = c.loop-state.state in
    let p : ℕ = (node_at nodes s).parent in
    let up : 0 < s = omega (arith, c.loop-state.auto.state) in
    let down : p < s = c.requires.parents s up c.loop-state-test.true in
    let is = read_place nodes c.loop-state.places.items s p c.index.result.now c.loop-state.invariant.len c.loop-state.invariant.each down c.index.ensures in
    let depth : c.index.result.now.depth + 1 ≡ length (text_of nodes s) = ap (λ (x : Place). x.depth + 1) is ∙ sym (depth_more nodes s c.requires up c.loop-state-test.true) in
    rw (c.in_ok-push-2.ensures {u = tt}).items record {
      len = length_push c.loop-state.places.items (record { depth = c.index.result.now.depth + 1; state = s }) ∙ ap (λ n. n + 1) c.loop-state.invariant.len;
      each = places_more nodes c.loop-state.places.items s (c.index.result.now.depth + 1) c.loop-state.invariant.len c.loop-state.invariant.each depth;
    }

pub returns : goal.returns
returns c =
    let sort = c.in_ok-sort_by_key.ensures {u = tt} in
    by_depth_from c.args.nodes.now c.loop-state.places.items c.sort_by_key.new.self.items (omega arith) (λ k h. c.loop-state.invariant.each k (omega arith)) sort.permutation
    (IsNonDecreasingBy-from_sort_by_key (λ (p : Place). p.depth) _ sort.sorted (λ a r q k. search rules))
