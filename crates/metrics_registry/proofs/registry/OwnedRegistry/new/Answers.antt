use Rattle.std.proofs.Common.{rules, refl}
use Rattle.metrics_registry.proofs.ShardLemmas.{bare-push, bare-placed, bare-entries, shows-nothing}
use Rattle.metrics_registry.proofs.registry.OwnedRegistry.new.Goals as goal

pub loop-preserved : goal.loop-preserved
loop-preserved g c =
    let i = c.loop.invariant in
    (search rules, search rules, bare-push c.loop.kinds.items c.push_reserved.new.self.items (λ s. s.counters) c.new.result c.push_reserved.ensures.items i.2 c.new.ensures.counters, bare-push c.loop.kinds.items c.push_reserved.new.self.items (λ s. s.gauges) c.new.result c.push_reserved.ensures.items i.3 c.new.ensures.gauges, bare-push c.loop.kinds.items c.push_reserved.new.self.items (λ s. s.histograms) c.new.result c.push_reserved.ensures.items i.4 c.new.ensures.histograms)

pub invariant_of-result : goal.invariant_of-result
invariant_of-result g c =
    let i = c.loop.invariant in
    (search rules, bare-placed _ _ _ _ c.loop.kinds.items (λ s. s.counters) i.2, bare-placed _ _ _ _ c.loop.kinds.items (λ s. s.gauges) i.3, bare-placed _ _ _ _ c.loop.kinds.items (λ s. s.histograms) i.4)

pub returns-clause-ok : goal.returns-clause-ok
returns-clause-ok g c =
    let i = c.loop.invariant in
    (search rules, shows-nothing c.args.storage c.args.storage _ _ _ _ _ refl (search rules) (bare-entries c.loop.kinds.items (λ s. s.counters) i.2) (bare-entries c.loop.kinds.items (λ s. s.gauges) i.3) (bare-entries c.loop.kinds.items (λ s. s.histograms) i.4))
