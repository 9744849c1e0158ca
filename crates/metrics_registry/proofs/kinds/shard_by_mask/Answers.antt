use Rattle.std.proofs.Common.{◌∙◌, ap, ◌%◌}
use Rattle.metrics_registry.proofs.MaskLemmas.{masked}
use Rattle.metrics_registry.proofs.kinds.shard_by_mask.Goals as goal

pub returns-clause-shard : goal.returns-clause-shard
returns-clause-shard g c = masked c.hashable.result c.args.count c.requires ∙ ap (λ n. n % c.args.count) c.hashable.ensures
