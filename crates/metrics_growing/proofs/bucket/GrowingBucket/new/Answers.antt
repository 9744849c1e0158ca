use Rattle.std.proofs.Common.{rules, ◌≡◌, [], ◌∷◌}
use Rattle.metrics_growing.specs.Parts.{Part}
use Rattle.metrics_growing.proofs.bucket.GrowingBucket.new.Goals as goal

pub returns-clause-first : goal.returns-clause-first
returns-clause-first g c =
    let q : Part = record { link = c.set_as.new.note.cell; account = c.in_ok-segment.pen } in
    let is : c.push-2.new.self.items ≡ q ∷ [] = search rules in
    (q, is, search rules, search rules)
