use Rattle.std.proofs.Common.{rules, ap, ◌∙◌, ◌++◌, ◌∷◌, []}
use Rattle.metrics_journal.proofs.JournalLemmas.{kept}
use Rattle.metrics_journal.proofs.shard.ShardCells.call.Goals as goal

pub invariant_of-self-2 : goal.invariant_of-self-2
invariant_of-self-2 g c =
    let now = c.self.invariant in
    let next = kept g.K.PartialEq.eq g.K.Hashable.number c.self.inside.shards c.self.inside.shard c.self.inside.journal.items c.push_reserved.new.self.items c.self.inside.kinds c.answer.new.cells c.args.call c.in_ok-reply.reply now.0 now.1 now.2 (search rules) c.in_ok-reply.ensures.ok (c.push_reserved.ensures.items ∙ ap (λ log. log ++ (c.args.call, c.in_ok-reply.reply) ∷ []) c.reserve.ensures.items) in
    (next.0, next.1, next.2)

pub returns-clause-cells : goal.returns-clause-cells
returns-clause-cells g c = rw (← c.self.view_is) c.answer.ensures.kept

pub returns-clause-ok : goal.returns-clause-ok
returns-clause-ok g c = rw (← c.self.view_is) (c.push_reserved.ensures.items ∙ ap (λ log. log ++ (c.args.call, c.in_ok-reply.reply) ∷ []) c.reserve.ensures.items)

pub returns-clause-made : goal.returns-clause-made
returns-clause-made g c = rw (← c.self.view_is) c.answer.ensures.made

pub returns-in_err-reply-clause-made : goal.returns-in_err-reply-clause-made
returns-in_err-reply-clause-made g c = rw (← c.self.view_is) c.answer.ensures.made
