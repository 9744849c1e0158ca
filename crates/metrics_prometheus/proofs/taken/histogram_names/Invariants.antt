-- The names so far are in order, and with those of the rows to come they are all.
use Rattle.std.proofs.Common.{drop, option_map}
use Rattle.metrics_prometheus.specs.Exposition.{histogram_names}
use Rattle.metrics_prometheus.specs.Places.{rows_placed}
use Rattle.metrics_prometheus.specs.Rows.{rows_shown, names_shown}
use Rattle.metrics_prometheus.proofs.SearchLemmas.{Uses}
use Rattle.metrics_prometheus.proofs.taken.histogram_names.Given as goal

abbrev pub invariant-loop-place : goal.invariant-loop-place
invariant-loop-place l = Uses (names_shown l.names.items) (option_map (λ n. n.now) l.last) (histogram_names (rows_shown (rows_placed l.places))) (drop l.place-index l.places)
