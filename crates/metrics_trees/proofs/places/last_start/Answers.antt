use Rattle.std.proofs.Common.{rules, of_calls}
use Rattle.std.proofs.lemmas.Fn.{always_returns_same}
use Rattle.std.proofs.lemmas.List.Sorted.{IsPartitionedBy-leb}
use Rattle.std.specs.Prelude.{nat_le}
use Rattle.metrics_trees.proofs.PlacesLemmas.{some-before, last-before}
use Rattle.metrics_trees.proofs.places.last_start.Goals as goal

pub overflow_sub-result : goal.overflow_sub-result
overflow_sub-result c =
    some-before c.args.starts.now c.args.book c.requires c.partition_point.result
    (c.partition_point.ensures.partitioned (λ y. nat_le y c.args.book) (always_returns_same _ _ _ (λ a r f k. search (rules, of_calls))) (IsPartitionedBy-leb (λ n. n) c.args.starts.now c.args.book c.requires.rise))

pub returns : goal.returns
returns c =
    last-before c.args.starts.now c.args.book c.requires c.partition_point.result
    (c.partition_point.ensures.partitioned (λ y. nat_le y c.args.book) (always_returns_same _ _ _ (λ a r f k. search (rules, of_calls))) (IsPartitionedBy-leb (λ n. n) c.args.starts.now c.args.book c.requires.rise))
    c.partition_point.ensures.bound
