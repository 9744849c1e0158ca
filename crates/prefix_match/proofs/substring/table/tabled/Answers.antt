use Rattle.std.proofs.Common.{◌≡◌, ℕ, arith, refl, length, List, take, drop, ◌++◌, subst, get_or}
use Rattle.prefix_match.proofs.SubstringDepths.{no_place}
use Rattle.std.proofs.lemmas.List.{take_at}
use Rattle.prefix_match.specs.SubstringTable.{HasColumns, FillsRow}
use Rattle.prefix_match.proofs.SubstringColumns.{columns_from}
use Rattle.prefix_match.proofs.SubstringLinks.{link_falls}
use Rattle.prefix_match.proofs.SubstringLinkLoops.{state_within}
use Rattle.prefix_match.proofs.SubstringFilling.{filling_start, filling_more, table_from}
use Rattle.prefix_match.proofs.substring.table.tabled.Goals as goal

pub loop-place-init : goal.loop-place-init
loop-place-init c =
    let cols : HasColumns c.args.nodes.now c.numbered-columns.result.of c.numbered-columns.result.width = columns_from c.args.nodes.now c.used_bytes.result c.numbered-columns.result.of c.numbered-columns.result.width c.used_bytes.ensures c.numbered-columns.ensures.numbering in
    let all = (c.in_ok-next.ensures {u = tt}).items_if_clones_equal in
    filling_start _ _ c.numbered-columns.result.width _ c.in_ok-next.next.items c.entry.result c.requires.linked.1.tree.root cols c.entry.ensures (all (λ y h. h))

pub fill_row-requires-clause-falls : goal.fill_row-requires-clause-falls
fill_row-requires-clause-falls c =
    let nodes = c.args.nodes.now in
    let l = state_within nodes c.args.order.now c.loop-place.place-index c.requires.order c.loop-place-test.true in
    link_falls c.requires.linked.0 nodes _ c.requires.linked.1.tree l (c.requires.linked.1.links _ l)

pub fill_row-requires-clause-columns : goal.fill_row-requires-clause-columns
fill_row-requires-clause-columns c = columns_from c.args.nodes.now c.used_bytes.result c.numbered-columns.result.of c.numbered-columns.result.width c.used_bytes.ensures c.numbered-columns.ensures.numbering

pub loop-place-preserved : goal.loop-place-preserved
loop-place-preserved c =
    let cols : HasColumns c.args.nodes.now c.numbered-columns.result.of c.numbered-columns.result.width = columns_from c.args.nodes.now c.used_bytes.result c.numbered-columns.result.of c.numbered-columns.result.width c.used_bytes.ensures c.numbered-columns.ensures.numbering in
    let xs : List ℕ = c.fill_row.new.next in
    let n : length xs ≡ c.loop-place.next.len = omega (arith, c.fill_row.ensures.len, c.deref_mut.ensures.len) in
    let is : take c.loop-place.next.len (xs ++ drop (length xs) c.loop-place.next.items) ≡ xs = take_at xs _ c.loop-place.next.len n in
    rw is (filling_more _ _ c.numbered-columns.result.width _ c.loop-place.next.items xs c.loop-place.place-index _ refl c.requires.linked.1.tree c.requires.order c.loop-place-test.true cols c.loop-place.invariant (subst (λ ys. FillsRow c.args.nodes.now c.numbered-columns.result.of c.numbered-columns.result.width (get_or c.args.order.now c.loop-place.place-index no_place).state ys xs) c.deref_mut.ensures.value c.fill_row.ensures))

pub returns : goal.returns
returns c = λ ps linked.
    let cols : HasColumns c.args.nodes.now c.numbered-columns.result.of c.numbered-columns.result.width = columns_from c.args.nodes.now c.used_bytes.result c.numbered-columns.result.of c.numbered-columns.result.width c.used_bytes.ensures c.numbered-columns.ensures.numbering in
    table_from ps c.args.fold_case _ _ _ c.numbered-columns.result.width _ c.loop-place.next.items c.loop-place.place-index linked c.requires.order c.loop-place-test.false c.requires.room c.numbered-columns.ensures.width cols c.folded.ensures c.loop-place.invariant
