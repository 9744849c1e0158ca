use Rattle.std.proofs.Common.{◌≡◌, ℕ, ◌∙◌, [], ◌∷◌, map, ap, sym, subst}
use Rattle.std.specs.Map.Iter.{deref_pair}
use Rattle.metrics_names.specs.declared.kind.MetricKind.{MetricKind}
use Rattle.metrics_names.specs.Names.{key_eq, KeyParts}
use Rattle.metrics_registry.specs.Recency.{Table, rechecked}
use Rattle.metrics_registry.specs.RecencyEntries.{rules_of, table_of}
use Rattle.metrics_exporter.specs.Gathering.{series_at, cell_in, seen_in, Seen}
use Rattle.metrics_exporter.specs.Stepping.{Rechecks, table_with}
use Rattle.metrics_exporter.proofs.NotingLemmas.{seen-more, rechecks-more}
use Rattle.metrics_exporter.proofs.expiring.recheck_cells.Goals as goal

pub loop-key-preserved : goal.loop-key-preserved
loop-key-preserved g c =
    let before = c.loop-key.recency in
    let after = c.recheck.new.self in
    let read = g.C.KindCell.shows in
    let cell = c.in-Some.counted.now in
    let x : MetricKind → ℕ → Seen = λ kind n. (series_at kind c.in-Some.key.now, record { reading = read cell.inner; generation = n }) in
    let with : MetricKind → ℕ → Table KeyParts = λ kind n. table_with (rechecked (rules_of before)) c.args.now (x kind n) (table_of key_eq before) in
    let notes : table_of key_eq after ≡ with c.kind.result c.get_generation.result = λ i kind key. c.recheck.ensures.checked kind key i in
    let one : Rechecks c.args.now (x g.C.KindCell.kind_held cell.generation ∷ []) before after =
    (c.recheck.ensures.rules, notes ∙ ap (λ kind. with kind c.get_generation.result) c.kind.ensures ∙ ap (with g.C.KindCell.kind_held) c.get_generation.ensures) in
    subst (λ l. Rechecks c.args.now l c.args.recency.now after) (sym (seen-more (λ e. (series_at g.C.KindCell.kind_held e.0, cell_in read e.1)) deref_pair c.loop-key.yielded (c.in-Some.key, c.in-Some.counted)))
    (rechecks-more c.args.now (seen_in g.C.KindCell.kind_held read (map deref_pair c.loop-key.yielded)) _ c.args.recency.now before after c.loop-key.invariant one)
