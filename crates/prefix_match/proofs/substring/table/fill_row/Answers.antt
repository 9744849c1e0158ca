use Rattle.std.proofs.Common.{◌≡◌, ℕ, ◌*◌, ◌<◌, arith, List, subst}
use Rattle.prefix_match.specs.SubstringStates.{node_at}
use Rattle.prefix_match.specs.SubstringTable.{WritesChildren}
use Rattle.prefix_match.proofs.SubstringFilling.{row_apart, row_filled, root_filled, other_than_fail}
use Rattle.prefix_match.proofs.substring.table.fill_row.Goals as goal
use Rattle.prefix_match.proofs.substring.table.fill_row.Goals.{then-state-ne0, else-state-ne0}

pub copy_row-requires-clause-apart : goal.copy_row-requires-clause-apart
copy_row-requires-clause-apart c =
    row_apart (node_at c.args.nodes.now c.args.state).fail c.args.state c.args.columns.now.width (other_than_fail c.args.nodes.now c.args.state (omega arith) c.requires.falls)

pub returns : goal.returns
returns c =
    let nodes = c.args.nodes.now in
    let s : ℕ = c.args.state in
    let columns : List ℕ = c.args.columns.now.of in
    let width : ℕ = c.args.columns.now.width in
    elim c.if-state-ne0.branch [
      | then-state-ne0 w ↦ (
          let up : 0 < s = omega (arith, w.if-state-ne0.true) in
          row_filled nodes columns width s _ w.copy_row.new.next _ up (other_than_fail nodes s up c.requires.falls) c.requires.columns w.copy_row.ensures
          (subst (λ xs. WritesChildren nodes columns width s (s * width) xs c.write_children.new.next) w.next-is c.write_children.ensures))
      | else-state-ne0 w ↦ (
          let z : s ≡ 0 = omega (arith, w.if-state-ne0.false) in
          root_filled nodes columns width s c.args.next.now c.write_children.new.next z c.requires.columns
          (subst (λ xs. WritesChildren nodes columns width s (s * width) xs c.write_children.new.next) w.next-is c.write_children.ensures))
    ]
