use Rattle.std.proofs.Common.{◌≡◌, ℕ, ◌<◌, ◌≤◌, arith, sym, ◌∙◌, length, get_or, List, vec_len}
use Rattle.std.proofs.lemmas.List.{get_or-map, length-map}
use Rattle.prefix_match.specs.Substring.{lowered, lowered_byte}
use Rattle.prefix_match.proofs.SubstringInserts.{insert_start, insert_found, insert_added, insert_end}
use Rattle.prefix_match.proofs.substring.trie.insert.Goals as goal
use Rattle.prefix_match.proofs.substring.trie.insert.Goals.{in-Some, in-None+in_ok-state-in-None}

pub loop-byte-init : goal.loop-byte-init
loop-byte-init c = insert_start _ _ c.requires.tree

pub loop-byte-preserved : goal.loop-byte-preserved
loop-byte-preserved c =
    let p : List ℕ = c.args.pattern.now in
    let q : List ℕ = lowered c.args.fold_case p in
    let i : ℕ = c.loop-byte.byte-index in
    let l : i < length q = omega (arith, length-map p (lowered_byte c.args.fold_case)) in
    let e : c.lowered-low.result ≡ get_or q i 0 = c.lowered-low.ensures ∙ sym (get_or-map (lowered_byte c.args.fold_case) p i 0 0 c.loop-byte-test.true) in
    elim c.match-child.branch [
      | in-Some w ↦ (
          let child = rw c.deref.ensures.value at (w.in-Some.ensures {u = tt}).found in
          rw (w.nodes-is, w.state-is) (insert_found _ _ c.loop-byte.state i c.lowered-low.result w.in-Some.next q l e child c.loop-byte.invariant))
      | in-None+in_ok-state-in-None w ↦ (
          let none = rw c.deref.ensures.value at (w.in-None.ensures {u = tt}).none in
          let same : vec_len c.loop-byte.nodes ≡ length c.loop-byte.nodes.items = omega (arith, c.loop-byte.nodes.ok.0) in
          rw (w.nodes-is, w.state-is, (w.in_ok-state-in-None.ensures {u = tt}).nodes, (w.in_ok-state-in-None.ensures {u = tt}).made, same)
          (insert_added _ c.loop-byte.nodes.items c.loop-byte.state i c.lowered-low.result q l e none c.loop-byte.invariant))
    ]

pub returns-clause-tree : goal.returns-clause-tree
returns-clause-tree c =
    let all : length (lowered c.args.fold_case c.args.pattern.now) ≤ c.loop-byte.byte-index = omega (arith, length-map c.args.pattern.now (lowered_byte c.args.fold_case)) in
    (insert_end _ _ c.loop-byte.state c.loop-byte.byte-index (lowered c.args.fold_case c.args.pattern.now) c.index_mut.result.now all c.index_mut.ensures.value c.loop-byte.invariant).0

pub returns-clause-trie : goal.returns-clause-trie
returns-clause-trie c =
    let all : length (lowered c.args.fold_case c.args.pattern.now) ≤ c.loop-byte.byte-index = omega (arith, length-map c.args.pattern.now (lowered_byte c.args.fold_case)) in
    (insert_end _ _ c.loop-byte.state c.loop-byte.byte-index (lowered c.args.fold_case c.args.pattern.now) c.index_mut.result.now all c.index_mut.ensures.value c.loop-byte.invariant).1
