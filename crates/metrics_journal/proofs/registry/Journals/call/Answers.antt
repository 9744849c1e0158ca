use Rattle.std.proofs.Common.{rules, arith, ◌≡◌, ◌∙◌, sym, ap, ◌%◌, ◌+◌, true, false}
use Rattle.metrics_journal.specs.Journal.{one_if}
use Rattle.metrics_journal.proofs.JournalsLemmas.{shards-at, shards-set, replies-set}
use Rattle.metrics_journal.proofs.registry.Journals.call.Goals as goal

pub call-requires : goal.call-requires
call-requires g c =
    let at = shards-at c.self.inside.shards.len 0 c.shard_of-shard.result c.self.inside.shards.items c.index_mut.result.now c.self.invariant.1 (search rules) (search rules) in
    let k = c.key.ensures in
    let h : c.shard_of-shard.result ≡ g.K.Hashable.number c.key.result.now % c.self.inside.shards.len = search rules in
    rw (at.1, ← k) (sym h ∙ omega (arith, at.0))

pub invariant_of-self-2 : goal.invariant_of-self-2
invariant_of-self-2 g c =
    let n = c.in_ok-reply.ensures in
    let grows = replies-set true c.shard_of-shard.result c.self.inside.shards.items c.index_mut.result.now c.call.new.self (c.args.call, c.in_ok-reply.reply) (search rules) (search rules) n.ok in
    let also = replies-set false c.shard_of-shard.result c.self.inside.shards.items c.index_mut.result.now c.call.new.self (c.args.call, c.in_ok-reply.reply) (search rules) (search rules) n.ok in (
      c.self.invariant.0,
      shards-set c.self.inside.shards.len 0 c.shard_of-shard.result c.self.inside.shards.items c.index_mut.result.now c.call.new.self (search rules) n.place.0 n.place.1 c.self.invariant.1,
      omega (arith, c.count.ensures.trues, c.self.invariant.2, grows),
      c.count.ensures.falses ∙ (ap (λ t. t + one_if false c.in_ok-reply.reply) c.self.invariant.3 ∙ sym also),
      c.self.invariant.4,
      c.self.invariant.5,
      c.self.invariant.6,
    )
