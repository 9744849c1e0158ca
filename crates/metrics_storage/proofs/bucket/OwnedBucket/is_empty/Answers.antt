use Rattle.std.proofs.Common.{length, ap, ◌∙◌, ◌==◌}
use Rattle.metrics_storage.proofs.Cuts.{empty_same}
use Rattle.metrics_storage.proofs.bucket.OwnedBucket.is_empty.Goals as goal

pub returns : goal.returns
returns g c = c.is_empty.ensures ∙ ap (λ n. n == 0) c.self.inside.blocks.ok.0 ∙ empty_same c.self.inside.blocks.items c.self.invariant ∙ ap (λ l. length l == 0) c.self.view_is
