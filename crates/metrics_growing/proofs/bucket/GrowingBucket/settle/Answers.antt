use Rattle.std.proofs.Common.{rules, ◌≡◌, ◌<◌, ◌≤◌, [], length, inl, refl, subst, arith}
use Rattle.std.specs.Prelude.{vec_capacity}
use Rattle.std.specs.List.{All}
use Rattle.metrics_bucket.specs.Gathers.{Gathers}
use Rattle.metrics_bucket.proofs.WalkCode.{folds_seen}
use Rattle.metrics_growing.specs.Parts.{IsWhole, Keeps, EachOf, SpareIn}
use Rattle.metrics_growing.specs.Bags.{sum_of, places_in}
use Rattle.metrics_growing.proofs.Settling.{each_same, first_whole, all_gathered, settles}
use Rattle.metrics_growing.proofs.bucket.GrowingBucket.settle.Goals as goal

pub unreachable-requires : goal.unreachable-requires
unreachable-requires g c =
    let parts = c.all_places-places.new.known.items in
    let whole : All IsWhole c.gather_all.new.known.items = search rules in
    let same : c.gather_all.new.known.items ≡ parts = search rules in
    let some : 0 < length parts = search rules in
    (c.in_default-clear_all.ensures).err.4 (first_whole parts some (subst (All IsWhole) same whole))

pub returns-clause-ok : goal.returns-clause-ok
returns-clause-ok g c =
    let met = c.meet_all.new.known.items in
    let parts = c.all_places-places.new.known.items in
    let k : Keeps c.args.pen.now met = search rules in
    let gathered : EachOf SpareIn met c.gather_all.new.known.items = search rules in
    let whole : All IsWhole c.gather_all.new.known.items = search rules in
    let same : c.gather_all.new.known.items ≡ parts = search rules in
    let t = c.in-Ok-clear_all.ensures.ok in
    let walks = t.0 in
    let n = t.2 in
    let few : c.in-Ok-clear_all.field-0 ≤ sum_of places_in parts = c.in-Ok-clear_all.ensures.count in
    let places : c.all_places-places.result ≡ sum_of places_in parts = search rules in
    let room : c.all_places-places.result ≤ vec_capacity c.in-Ok.values = search rules in
    let none : c.in-Ok.values.items ≡ [] = search rules in
    let given = all_gathered g.T.Sample.value walks c.in-Ok.values c.clear_all.new.visitor.values none (omega arith) (folds_seen Gathers (λ s. s.values) _ _ _ t.4) in
    settles g.T.Sample.value c.args.pen.now parts c.clear_all.new.known.items walks c.clear_all.new.visitor.values.items (met, k, subst (EachOf SpareIn met) same gathered) (subst (All IsWhole) same whole) t.1 t.3 given

pub returns-in-Err-Memory-clause-err : goal.returns-in-Err-Memory-clause-err
returns-in-Err-Memory-clause-err g c =
    let met = c.meet_all.new.known.items in
    let k : Keeps c.args.pen.now met = search rules in
    ((met, k, each_same met), inl refl)
