use Rattle.std.proofs.Common.{refl, sym, ◌∙◌}
use Rattle.metrics_rules.proofs.NodesLemmas.{group-of, row-is, count-is}
use Rattle.metrics_rules.proofs.node.Node.+leaves.Goals as goal

pub returns-in-Group : goal.returns-in-Group
returns-in-Group t c =
    let group = group-of c.in-Group._children c.in-Group._starts c.in-Group.leaves c.in-Group.is refl c.requires.tree in
    (row-is group).count ∙ sym (count-is group)
