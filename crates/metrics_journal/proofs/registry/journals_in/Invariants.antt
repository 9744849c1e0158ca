use Rattle.std.proofs.Common.{◌≡◌, map, ◌++◌, length, vec_len, vec_capacity}
use Rattle.metrics_journal.specs.Journals.{journals_of}
use Rattle.metrics_journal.proofs.JournalsLemmas.{AreKept}
use Rattle.metrics_journal.proofs.registry.journals_in.Given as goal

abbrev pub invariant-loop-shard : goal.invariant-loop-shard
invariant-loop-shard g l =
    (goal.iterator-loop-shard g).can_next l.shard-iterator
    × (goal.iterator-loop-shard g).is_finite l.shard-iterator
    × (map (λ v. v.items) l.journals.items ≡ journals_of l.yielded)
    × (vec_len l.journals ≡ length l.yielded)
    × (vec_capacity l.journals ≡ vec_capacity l.initial.journals)
    × AreKept g.K.PartialEq.eq g.K.Hashable.number l.yielded
    × (l.yielded ++ l.shard-iterator.rest.items ≡ l.fn.shards.items)
    × (length l.shard-iterator.rest.items ≡ l.shard-iterator.rest.len)
