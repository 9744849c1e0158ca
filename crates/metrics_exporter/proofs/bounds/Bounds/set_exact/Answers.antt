use Rattle.std.proofs.Common.{string_bytes, bytes_eq}
use Rattle.std.specs.Map.{lookup}
use Rattle.std.proofs.lemmas.Map.Text.{hash_map_updates_text}
use Rattle.std.proofs.lemmas.Result.{on_ok_weaker, on_err_weaker}
use Rattle.indexmap.specs.IndexMap.{get_by_text}
use Rattle.metrics_exporter.proofs.BoundsLemmas.{empty-after, exact-more}
use Rattle.metrics_exporter.proofs.bounds.Bounds.set_exact.Goals as goal

pub invariant_of-self-2 : goal.invariant_of-self-2
invariant_of-self-2 c =
    let b = c.args.self.now in
    let new = c.insert.new.self in
    let bs = string_bytes c.in_ok-from_str.field-0 in
    record {
      unused = b.unused;
      all_unused = b.all_unused;
      exact_unused = empty-after (get_by_text b.exact) (get_by_text new) (bytes_eq bs) c.in_ok-empty.empty c.args.bounds.now c.in_ok-empty.ensures.ok c.insert.result
          (on_ok_weaker c.insert.result (λ u. hash_map_updates_text bs b.exact new _ u) c.insert.ensures.updates)
          (on_err_weaker c.insert.result (λ same n. λ i. lookup (λ k. bytes_eq n (string_bytes k)) (same i)) c.insert.ensures.err)
          b.exact_unused;
      units_unused = b.units_unused;
      within = b.within;
    }

pub returns-clause-sets : goal.returns-clause-sets
returns-clause-sets c =
    let was = c.args.self.now.exact in
    let bs = string_bytes c.in_ok-from_str.field-0 in
    let one = c.in_ok-empty.empty in
    exact-more (get_by_text was) (get_by_text c.insert.new.self) c.args.name.now bs one c.args.bounds.now c.in_ok-empty.ensures.ok c.in_ok-from_str.ensures.ok
    (hash_map_updates_text bs was c.insert.new.self _ (c.in_ok-insert.ensures {u = tt}).updates)
