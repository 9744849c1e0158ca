use Rattle.std.proofs.Common.{rules, ◌≡◌, ◌∙◌, sym, ap, ◌+◌, subst}
use Rattle.std.proofs.lemmas.List.{length_push}
use Rattle.metrics_journal.proofs.JournalsLemmas.{AreKept, logs-push, rest-more, rest-none, kept-push, journals-kept}
use Rattle.metrics_journal.proofs.registry.journals_in.Goals as goal

pub loop-shard-preserved : goal.loop-shard-preserved
loop-shard-preserved g c =
    let legal = c.into_journal.ensures.legal in
    let here = c.into_journal.ensures.keys in
    let journal = c.into_journal.ensures.journal in (
      tt,
      tt,
      logs-push (λ v. v.items) c.loop-shard.journals.items c.push_reserved.new.self.items c.into_journal.result c.loop-shard.yielded c.in-Some.shard c.loop-shard.invariant.2 journal (search rules),
      c.push_reserved.ensures.len ∙ (ap (λ n. n + 1) c.loop-shard.invariant.3 ∙ sym (length_push c.loop-shard.yielded c.in-Some.shard)),
      search rules,
      kept-push g.K.PartialEq.eq g.K.Hashable.number c.loop-shard.yielded c.in-Some.shard c.loop-shard.invariant.5 (rw (← journal) legal) (rw (← journal) here),
      rest-more c.loop-shard.yielded c.loop-shard.shard-iterator.rest.items c.next.new.self.rest.items c.args.shards.items c.in-Some.shard c.loop-shard.invariant.6 (search rules),
      search rules,
    )

pub returns-clause-legal : goal.returns-clause-legal
returns-clause-legal g c =
    let e : c.loop-shard.yielded ≡ c.args.shards.items = rest-none c.loop-shard.yielded c.loop-shard.shard-iterator.rest.items c.args.shards.items c.loop-shard.invariant.6 (search rules) in
    journals-kept g.K.PartialEq.eq g.K.Hashable.number _ 0 c.args.shards.items c.requires.shards (subst (AreKept g.K.PartialEq.eq g.K.Hashable.number) e c.loop-shard.invariant.5)
