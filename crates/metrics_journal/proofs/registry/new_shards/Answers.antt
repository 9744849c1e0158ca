use Rattle.std.proofs.Common.{rules, ◌∙◌}
use Rattle.metrics_journal.proofs.JournalsLemmas.{shards-push, replies-none}
use Rattle.metrics_journal.proofs.registry.new_shards.Goals as goal

pub loop-shard-preserved : goal.loop-shard-preserved
loop-shard-preserved g c =
    let kept = c.loop-shard.invariant in
    let made = c.new.ensures in (
      rw c.push_reserved.ensures.items (shards-push c.args.count 0 c.loop-shard.shards.items c.new.result kept.0 (made.place.0 ∙ search rules) made.place.1),
      λ b. rw c.push_reserved.ensures.items (replies-none b c.loop-shard.shards.items c.new.result (kept.1 b) made.empty.0),
      search rules,
      search rules,
    )
