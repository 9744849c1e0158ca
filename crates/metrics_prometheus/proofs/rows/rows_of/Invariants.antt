-- The rows so far, and what the last one is shown with, and whether all have its head; their series have texts as values of labels, and are of their kinds.
use Rattle.std.proofs.Common.{◌≡◌, take, map}
use Rattle.std.specs.Prelude.{All, IfSome}
use Rattle.metrics_descriptions.specs.Legends.{described_by}
use Rattle.metrics_exposition.specs.Naming.{display_by}
use Rattle.metrics_prometheus.specs.Heads.{IsKnown, HaveOnly}
use Rattle.metrics_exposition.specs.Reading.{IsOfKind}
use Rattle.metrics_prometheus.specs.Rows.{pair_shown, pair_of, HasTexts}
use Rattle.metrics_prometheus.proofs.rows.rows_of.Given as goal

abbrev pub invariant-loop-one : goal.invariant-loop-one
invariant-loop-one g l =
    record {
      only : HaveOnly l.last l.rows.items;
      last : IfSome l.last (IsKnown (display_by l.naming (described_by l.descriptions) (g.P.DecimalPlaces.places l.scale)));
      rows : map pair_shown l.rows.items ≡ map (pair_of (display_by l.naming (described_by l.descriptions) (g.P.DecimalPlaces.places l.scale))) (map g.S.ReadSeries.keyed (take l.one-index l.series));
      texts : All (λ s. HasTexts (g.S.ReadSeries.keyed s)) (take l.one-index l.series);
      kinds : All (λ s. IsOfKind (g.S.ReadSeries.keyed s)) (take l.one-index l.series);
    }
