-- The places so far have lesser bounds.
use Rattle.std.proofs.Common.{◌≡◌, ◌++◌, take, drop}
use Rattle.metrics_storage.specs.Histogram.{place_added}
use Rattle.metrics_storage.proofs.scale.add_place.Given as goal

abbrev pub invariant-loop-i : goal.invariant-loop-i
invariant-loop-i l =
    (l.order.items ≡ l.fn.order.items)
    × (take l.i l.fn.order.items ++ place_added l.bounds l.at (drop l.i l.fn.order.items) ≡ place_added l.bounds l.at l.fn.order.items)
