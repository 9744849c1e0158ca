use Rattle.std.proofs.Common.{◌≡◌, ◌*◌, ◌-◌, ◌^◌, ◌≤◌, List, length, map, take}
use Rattle.std.specs.List.{FoldsTo}
use Rattle.metrics_bucket.specs.declared.view.Walk.{Walk}
use Rattle.metrics_bucket.specs.Blocks.{valued}
use Rattle.metrics_bucket.specs.Steps.{count_all}
use Rattle.metrics_growing.specs.Parts.{IsOf, home_of, Took, all_chunks}
use Rattle.metrics_growing.specs.Bags.{sum_of, places_in}
use Rattle.metrics_growing.proofs.bucket.GrowingBucket.clear_all.Given as goal

abbrev pub invariant-loop-at : goal.invariant-loop-at
invariant-loop-at g l =
    IsOf l.self l.known.items
    × (map home_of l.known.items ≡ map home_of l.initial.known.items)
    × (length l.known.items ≡ length l.initial.known.items)
    × ((l.count ≤ l.at * (2 ^ 58 - 1)) × (l.count ≤ sum_of places_in (take l.at l.initial.known.items)))
    × g.V.Visitor.ready l.visitor
    × ((walks : List Walk) × (length walks ≡ l.at) × (count_all walks ≡ l.count) × Took l.initial.known.items walks l.known.items
    × FoldsTo g.V.Visitor.saw l.initial.visitor (valued g.T.Sample.value (all_chunks walks)) l.visitor)
