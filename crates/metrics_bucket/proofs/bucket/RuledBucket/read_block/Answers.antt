use Rattle.std.proofs.Common.{rules, ◌≡◌, ℕ, List, set, ◌+◌, ◌-◌, ◌<◌, ◌≤◌, inr, length, take, drop, map, sym, ap, ◌∙◌, arith, le_refl}
use Rattle.metrics_bucket.specs.declared.view.Hold.{Hold}
use Rattle.metrics_bucket.specs.declared.view.Visit.{Visit}
use Rattle.metrics_bucket.specs.declared.view.Visit.TheVariants.{Marked, Read}
use Rattle.metrics_bucket.specs.BucketState.{holding, put_visit, visits_of, values_in}
use Rattle.metrics_bucket.specs.Steps.{Seated}
use Rattle.metrics_bucket.specs.WalkedPlaces.{walking}
use Rattle.metrics_bucket.proofs.Keep.{at_below}
use Rattle.metrics_bucket.proofs.WalkCode.{has_visit, put_walking, goes_end, goes_more, visits_walking, values_set, length_values, room_more}
use Rattle.metrics_bucket.proofs.bucket.RuledBucket.read_block.Goals as goal

pub read_place-found-requires-clause-visit : goal.read_place-found-requires-clause-visit
read_place-found-requires-clause-visit g c =
    let i = c.loop-at.invariant in
    let m : Seated = c.loop-at.seat.me in
    let hold = ap (λ (z : Seated). z.0.hold) i.goes.me in
    has_visit g.W.Walker.kind m c.args.side c.loop-at.at Marked hold (i.goes.others c.loop-at.at (inr (le_refl c.loop-at.at)) ∙ c.requires.visits c.loop-at.at (search rules) (search rules))

pub loop-at-preserved : goal.loop-at-preserved
loop-at-preserved g c =
    let i = c.loop-at.invariant in
    let m : Seated = c.loop-at.seat.me in
    let t = c.read_place-found.ensures in
    let visits : List Visit = visits_of m.0.hold in
    let hold = ap (λ (z : Seated). z.0.hold) i.goes.me in
    let there = i.goes.others c.loop-at.at (inr (le_refl c.loop-at.at)) ∙ c.requires.visits c.loop-at.at (search rules) (search rules) in
    let put = ap (λ (z : Hold). put_visit z c.loop-at.at (Read t.0)) hold ∙ put_walking g.W.Walker.kind c.args.side c.loop-at.at visits (Read t.0) in
    let is : c.read_place-found.new.seat.me ≡ (holding m.0 (walking g.W.Walker.kind c.args.side (set visits c.loop-at.at (Read t.0))), m.1) = t.3 ∙ (λ k. (holding m.0 (put k), m.1)) in
    let below = at_below visits c.loop-at.at _ there in
    let long = length_values visits in
    let now : values_in (visits_of c.read_place-found.new.seat.me.0.hold) ≡ set (values_in visits) c.loop-at.at t.0 = ap (λ (m : Seated). values_in (visits_of m.0.hold)) is ∙ (ap values_in (visits_walking g.W.Walker.kind c.args.side _) ∙ values_set visits c.loop-at.at t.0) in
    let part = c.requires.part in
    let size = c.loop-at.auto.room in
    let from : c.args.start ≤ c.loop-at.at = search rules in
    let inside : c.loop-at.at - c.args.start < length c.loop-at.room = omega arith in
    record {
      table = search rules;
      goes = goes_end Read g.W.Walker.kind c.args.seat.now.me c.read_place-found.new.seat.me c.args.side c.args.start _ (c.loop-at.at + 1) (omega arith)
          (goes_more Read g.W.Walker.kind c.args.seat.now.me m c.read_place-found.new.seat.me c.args.side c.args.start c.loop-at.at t.0 Marked i.goes there from is);
      room = room_more g.T.Sample.value (values_in visits) c.loop-at.room c.read_place-found.result c.args.start c.loop-at.at t.0 from (omega arith) inside t.1 i.room
          ∙ ap (λ (l : List ℕ). map g.T.Sample.value (take (c.loop-at.at + 1 - c.args.start) (drop c.args.start l))) (sym now);
    }
