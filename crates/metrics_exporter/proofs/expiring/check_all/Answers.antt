use Rattle.std.proofs.Common.{◌≡◌, ◌∙◌, List, ap, sym, subst}
use Rattle.std.specs.List.{filter}
use Rattle.metrics_names.specs.Names.{SeriesKey, key_eq}
use Rattle.metrics_registry.specs.Recency.{rechecked}
use Rattle.metrics_registry.specs.RecencyEntries.{rules_of, table_of}
use Rattle.metrics_exporter.specs.Gathering.{Seen, all_seen, walk_of, IsWalk}
use Rattle.metrics_exporter.specs.Kept.{cells_of}
use Rattle.metrics_exporter.specs.Stepping.{AreChecked, AreUnnoted, is_new, noted_if_kept, table_with_all}
use Rattle.metrics_exporter.proofs.NotingLemmas.{checked-so, new-unnoted}
use Rattle.metrics_exporter.proofs.SeenLemmas.{walked-shards, walk-at}
use Rattle.metrics_exporter.proofs.expiring.check_all.Goals as goal

pub note_all-requires : goal.note_all-requires
note_all-requires c =
    let r = c.args.recency.now in
    let P : List Seen → Type 0 = AreUnnoted (table_of key_eq r) in
    subst P (sym (ap all_seen c.deref.ensures.value ∙ c.in_ok-found.ensures.1)) (new-unnoted (rules_of r) c.args.now (table_of key_eq r) (walk_of c.shards-shards.result.now))

pub returns-clause-ok : goal.returns-clause-ok
returns-clause-ok c =
    let r = c.args.recency.now in
    let registry = c.args.registry.now in
    let e = c.note_all.new.recency in
    let shards = c.shards-shards.result.now in
    let s = c.shards-shards.ensures in
    let walk = walk_of shards in
    let is : IsWalk (cells_of registry) walk = walked-shards registry shards s.counters s.gauges s.histograms s.once.0 s.once.1 s.once.2 in
    let new = filter (is_new (rules_of r) c.args.now (table_of key_eq r)) walk in
    let noted : table_of key_eq e ≡ table_with_all (noted_if_kept (rules_of r)) c.args.now new (table_of key_eq r) =
    c.in_ok-note_all.ensures.ok ∙ ap (λ l. table_with_all (noted_if_kept (rules_of r)) c.args.now l (table_of key_eq r)) (ap all_seen c.deref.ensures.value ∙ c.in_ok-found.ensures.1) in
    let made : table_of key_eq c.recheck.new.recency ≡ table_with_all (rechecked (rules_of r)) c.args.now walk (table_with_all (noted_if_kept (rules_of r)) c.args.now new (table_of key_eq r)) =
    c.recheck.ensures.1 ∙ ap (λ q. table_with_all (rechecked q) c.args.now walk (table_of key_eq e)) c.in_ok-note_all.ensures.rules ∙ ap (table_with_all (rechecked (rules_of r)) c.args.now walk) noted in
    let P : List SeriesKey → Type 0 = AreChecked (rules_of r) c.args.now (cells_of registry) (table_of key_eq r) (table_of key_eq c.recheck.new.recency) in
    subst P (sym c.in_ok-found.ensures.0) (checked-so (rules_of r) c.args.now (cells_of registry) walk (table_of key_eq r) (table_of key_eq c.recheck.new.recency) is.once (walk-at (cells_of registry) walk is) made)
