-- The places of the rows so far.
use Rattle.std.proofs.Common.{◌≡◌, take}
use Rattle.std.specs.List.{AllByRecursion}
use Rattle.metrics_prometheus.specs.Places.{rows_placed, IsPlaced}
use Rattle.metrics_prometheus.proofs.rows.places_of.Given as goal

abbrev pub invariant-loop-row : goal.invariant-loop-row
invariant-loop-row l =
    record {
      rows : rows_placed l.places.items ≡ take l.row-index l.rows;
      placed : AllByRecursion (IsPlaced l.are_alike) l.places.items;
    }
