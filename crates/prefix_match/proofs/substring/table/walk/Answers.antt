use Rattle.std.proofs.Common.{ℕ, ◌+◌, ◌^◌, ◌<◌, arith, sym, ◌∙◌, get_or}
use Rattle.prefix_match.proofs.SubstringTableWalks.{tabling_start, tabling_within, table_hit, table_go, table_stay, table_over}
use Rattle.prefix_match.proofs.substring.table.walk.Goals as goal
use Rattle.prefix_match.proofs.substring.table.walk.Goals.{then-to-row, else-to-row}

pub loop-byte-init : goal.loop-byte-init
loop-byte-init c = tabling_start _ _ _

pub entry_at-entry-requires : goal.entry_at-entry-requires
entry_at-entry-requires c =
    let t = c.requires in
    let b : ℕ = get_or c.args.text.now c.loop-byte.byte-index 0 in
    tabling_within t.0 t.1 _ _ _ c.loop-byte.byte-index c.loop-byte.row c.loop-byte.moves b t.2 c.loop-byte.invariant (omega (arith, c.type_inv.text c.loop-byte.byte-index))

pub returns-then-entry : goal.returns-then-entry
returns-then-entry c = λ ps fold t.
    table_hit ps fold _ _ _ c.loop-byte.byte-index c.loop-byte.row c.loop-byte.moves t c.loop-byte-test.true (omega (arith, c.type_inv.text c.loop-byte.byte-index)) c.loop-byte.invariant (sym c.entry_at-entry.ensures ∙ c.if-entry.true)

pub loop-byte-preserved : goal.loop-byte-preserved
loop-byte-preserved c =
    let i : ℕ = c.loop-byte.byte-index in
    let b : ℕ = get_or c.args.text.now i 0 in
    let fits : b < 256 = omega (arith, c.type_inv.text i) in
    let entry : ℕ = c.entry_at-entry.result in
    let is = c.entry_at-entry.ensures in
    let low : entry < 2 ^ 32 = omega (arith, is, c.type_inv.next (c.loop-byte.row + get_or c.args.classes.now b 0)) in
    elim c.if-to-row.branch [
      | then-to-row w ↦ rw (w.row-is, w.moves-is) (table_go _ _ _ i c.loop-byte.row c.loop-byte.moves entry c.loop-byte-test.true fits c.loop-byte.invariant is low c.if-entry.false w.if-to-row.true)
      | else-to-row w ↦ rw (w.row-is, w.moves-is) (table_stay _ _ _ i c.loop-byte.row c.loop-byte.moves entry c.loop-byte-test.true fits c.loop-byte.invariant is low c.if-entry.false w.if-to-row.false)
    ]

pub returns : goal.returns
returns c = λ ps fold t.
    table_over ps fold _ _ _ c.loop-byte.byte-index c.loop-byte.row c.loop-byte.moves t (omega (arith, c.loop-byte.auto.byte-index-end)) c.loop-byte.invariant
