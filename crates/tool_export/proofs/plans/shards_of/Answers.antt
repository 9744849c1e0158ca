use Rattle.std.proofs.Common.{rules, ◌<◌, ◌^◌, sym, ◌∙◌, ap, true≢false}
use Rattle.std.proofs.lemmas.Fmt.{decimal_injective}
use Rattle.metrics_registry.specs.Held.{is_shard_count}
use Rattle.tool_export.proofs.BoundsLemmas.{below_word}
use Rattle.tool_export.proofs.plans.shards_of.Goals as goal

pub returns-else-is_shard_count : goal.returns-else-is_shard_count
returns-else-is_shard_count c = λ n is word.
    let room : c.in_ok-shards.shards < 2 ^ 64 = search rules in
    let same = decimal_injective c.in_ok-shards.shards n room (below_word n is) (sym c.in_ok-shards.ensures ∙ word) in
    true≢false (sym is ∙ ap is_shard_count (sym same) ∙ sym c.is_shard_count.ensures.answer ∙ c.if-is_shard_count.false)
