use Rattle.std.specs.Map.{lookup}
use Rattle.std.proofs.lemmas.Result.{on_ok_weaker, on_err_weaker}
use Rattle.indexmap.specs.IndexMap.{get}
use Rattle.metrics_exporter.specs.Units.{unit_eq}
use Rattle.metrics_exporter.proofs.BoundsLemmas.{empty-after, bounds-more}
use Rattle.metrics_exporter.proofs.bounds.Bounds.set_unit.Goals as goal

pub invariant_of-self : goal.invariant_of-self
invariant_of-self c =
    let b = c.args.self.now in
    let new = c.insert.new.self in
    record {
      unused = b.unused;
      all_unused = b.all_unused;
      exact_unused = b.exact_unused;
      units_unused = empty-after (get unit_eq b.units) (get unit_eq new) (unit_eq c.args.unit) c.in_ok-empty.empty c.args.bounds.now c.in_ok-empty.ensures.ok c.insert.result
          (on_ok_weaker c.insert.result (λ u. u.0) c.insert.ensures.updates)
          (on_err_weaker c.insert.result (λ same n. λ i. lookup (unit_eq n) (same i)) c.insert.ensures.err)
          b.units_unused;
      within = b.within;
    }

pub returns-clause-sets : goal.returns-clause-sets
returns-clause-sets c =
    bounds-more (get unit_eq c.args.self.now.units) (get unit_eq c.insert.new.self) (unit_eq c.args.unit) c.in_ok-empty.empty c.args.bounds.now c.in_ok-empty.ensures.ok
    (c.in_ok-insert.ensures {u = tt}).updates.0
