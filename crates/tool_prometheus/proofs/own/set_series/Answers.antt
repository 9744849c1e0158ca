use Rattle.std.proofs.Common.{rules, ◌≡◌, ◌∙◌, ◌++◌, ◌∷◌, [], List, ap, not, sym, subst}
use Rattle.std.specs.List.{filter}
use Rattle.std.proofs.lemmas.Fn.{filter_same}
use Rattle.std.proofs.lemmas.List.{map-append}
use Rattle.metrics_names.specs.Names.{series_key_eq}
use Rattle.metrics_exporter.specs.Readings.{KeyedReading, AreReadings, keyed_reading, keyed_readings}
use Rattle.metrics_exporter.specs.declared.readings.SeriesReading.{SeriesReading}
use Rattle.tool_prometheus.specs.Own.{with_series}
use Rattle.tool_prometheus.proofs.OwnLemmas.{others, kept-rows, set-reading}
use Rattle.tool_prometheus.proofs.own.set_series.Goals as goal

pub returns : goal.returns
returns c = λ cells are.
    let t = keyed_reading c.args.one in
    let rows : List SeriesReading = c.args.all.items in
    let kept : c.retain.new.self.items ≡ filter (λ r. not (series_key_eq t.0 (keyed_reading r).0)) rows =
    filter_same _ _ _ (λ x b f' k. search rules) _ _ c.retain.ensures.filtered in
    let all : keyed_readings c.push.new.self.items ≡ others t (keyed_readings rows) ++ t ∷ [] =
    ap keyed_readings c.in_ok-push.ensures.items ∙ map-append keyed_reading c.retain.new.self.items (c.args.one ∷ [])
    ∙ ap (λ xs. xs ++ t ∷ []) (ap keyed_readings kept ∙ kept-rows t rows) in
    subst (AreReadings (with_series t cells)) (sym all) (set-reading t cells (keyed_readings rows) are)
