use Rattle.std.proofs.Common.{rules, ◌≡◌, ◌++◌, [], ◌∷◌, false, None, Some, append-nil, ap, sym, ◌∙◌}
use Rattle.std.proofs.lemmas.List.{map-append}
use Rattle.std.specs.Map.Iter.{deref_pair}
use Rattle.metrics_names.specs.Names.{key_eq}
use Rattle.metrics_registry.specs.Recency.{glance}
use Rattle.metrics_registry.specs.RecencyEntries.{rules_of, table_of}
use Rattle.metrics_exporter.specs.Gathering.{series_at, cell_in, cell_shown, all_seen, seen_by, Seen}
use Rattle.metrics_exporter.specs.Stepping.{check_seen}
use Rattle.metrics_exporter.proofs.NotingLemmas.{found-more}
use Rattle.metrics_exporter.proofs.expiring.look_at_cells.Goals as goal

pub loop-key-preserved-in_ok-push-in-Some-false : goal.loop-key-preserved-in_ok-push-in-Some-false
loop-key-preserved-in_ok-push-in-Some-false g c = λ walk h.
    let r = c.args.recency.now in
    let kind = g.C.KindCell.kind_held in
    let x : Seen = (series_at kind c.in-Some.key.now, cell_in g.C.KindCell.shows c.in-Some.counted.now) in
    let peeked : glance (rules_of r) (check_seen c.args.now x) (table_of key_eq r x.0.kind x.0.key) ≡ Some false = search rules in
    let idle : c.push.new.self.items ≡ c.loop-key.found.idle.items ++ x.0 ∷ [] = search rules in
    found-more (λ e. (series_at kind e.0, cell_in g.C.KindCell.shows e.1)) deref_pair c.loop-key.yielded (c.in-Some.key, c.in-Some.counted) (rules_of r) c.args.now (table_of key_eq r) walk
    c.loop-key.found (record { idle = c.push.new.self; unnoted = c.loop-key.found.unnoted }) (Some false) (c.loop-key.invariant walk h) peeked idle (sym (append-nil (all_seen c.loop-key.found.unnoted.items)))

pub loop-key-preserved : goal.loop-key-preserved
loop-key-preserved g c = λ walk h.
    let r = c.args.recency.now in
    let kind = g.C.KindCell.kind_held in
    let x : Seen = (series_at kind c.in-Some.key.now, cell_in g.C.KindCell.shows c.in-Some.counted.now) in
    let peeked : glance (rules_of r) (check_seen c.args.now x) (table_of key_eq r x.0.kind x.0.key) ≡ None = search rules in
    let was = c.loop-key.found.unnoted.items in
    let unnoted : all_seen c.push-in-None-peek.new.self.items ≡ all_seen was ++ x ∷ [] =
    ap all_seen c.in_ok-push-in-None-peek.ensures.items ∙ map-append seen_by was (_ ∷ [])
    ∙ ap (λ k. all_seen was ++ (series_at k c.in-Some.key.now, cell_shown c.cell_ref-cell.result) ∷ []) c.kind-kind.ensures
    ∙ ap (λ y. all_seen was ++ (series_at kind c.in-Some.key.now, y) ∷ []) c.cell_ref-cell.ensures.shown in
    found-more (λ e. (series_at kind e.0, cell_in g.C.KindCell.shows e.1)) deref_pair c.loop-key.yielded (c.in-Some.key, c.in-Some.counted) (rules_of r) c.args.now (table_of key_eq r) walk
    c.loop-key.found (record { idle = c.loop-key.found.idle; unnoted = c.push-in-None-peek.new.self }) None (c.loop-key.invariant walk h) peeked (sym (append-nil c.loop-key.found.idle.items)) unnoted
