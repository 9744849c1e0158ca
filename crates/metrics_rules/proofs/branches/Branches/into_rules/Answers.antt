use Rattle.std.proofs.Common.{length, ap, ◌∙◌, sym, subst, ◌≤◌}
use Rattle.metrics_rules.specs.Nodes.{leaves_of, most_leaves}
use Rattle.metrics_rules.specs.Branches.{meanings}
use Rattle.metrics_rules.proofs.JoinedLemmas.{contents-group}
use Rattle.metrics_rules.proofs.NodesLemmas.{meaning-Group, sound-of-row}
use Rattle.metrics_rules.proofs.branches.Branches.into_rules.Goals as goal

pub invariant_of-result : goal.invariant_of-result
invariant_of-result c =
    let s = c.args.self in
    let r = c.args.routes in
    let count = s.count ∙ sym (ap leaves_of (meaning-Group s.children s.starts s.leaves r) ∙ ap length (contents-group r (meanings s.children.items))) in
    let sound = sound-of-row s.children s.starts s.leaves r (record { starts_are = s.starts_are; count = s.count; within = c.requires; sound = s.sound }) in
    record { tree = (sound, subst (λ k. k ≤ most_leaves) count s.most) }

pub returns : goal.returns
returns c = meaning-Group c.args.self.children c.args.self.starts c.args.self.leaves c.args.routes
