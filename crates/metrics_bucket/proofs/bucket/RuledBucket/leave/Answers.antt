use Rattle.std.proofs.Common.{rules, ◌≡◌, ℕ, List, [], ◌∷◌, refl, ◌+◌, ◌*◌, ◌<◌, length, sym, ap, ◌∙◌, subst, arith}
use Rattle.metrics_bucket.specs.BucketState.{blocks_of, walk, side_of, visits_of, values_in}
use Rattle.metrics_bucket.specs.Steps.{Seated}
use Rattle.metrics_bucket.specs.Facts.{weigh, weigh_pushes, weigh_walks}
use Rattle.metrics_bucket.specs.History.{CanLeave, turn_at}
use Rattle.metrics_bucket.specs.Places.{Finds}
use Rattle.metrics_bucket.specs.WalkedPlaces.{WalkKind, walking, with_walk}
use Rattle.metrics_bucket.specs.declared.view.View.{View}
use Rattle.metrics_bucket.specs.declared.view.Visit.{Visit}
use Rattle.metrics_bucket.proofs.AllowedLeaves.{leaves_turn}
use Rattle.metrics_bucket.proofs.WalkCode.{left_walk, left_weigh, covered, length_values}
use Rattle.metrics_bucket.proofs.bucket.RuledBucket.leave.Goals as goal

abbrev IsCounted : Seated → Type 0
IsCounted m = m.1 ≡ (0, turn_at (m.0.turn + 1)) ∷ []

abbrev Weighs : Seated → Type 0
Weighs m = 0 < m.0.weight

pub store-requires : goal.store-requires
store-requires g c =
    let counted = c.count_walk.ensures.1 in
    let words : c.deref.result.now.shared.table_id.words ≡ 2 + 2 * c.self.inside.places + 2 * blocks_of c.self.inside.places = search rules in
    let some_places = c.self.invariant.2 in
    (search rules, omega arith, leaves_turn _ _ _ _ _ (subst Weighs (sym counted) c.requires.home.1) (subst (λ (m : Seated). CanLeave m.0.hold) (sym counted) c.requires.hold.1) (subst IsCounted (sym counted) refl))

pub returns-clause-walked : goal.returns-clause-walked
returns-clause-walked g c =
    let kind : WalkKind = g.W.Walker.kind in
    let old : Seated = c.args.seat.now.me in
    let m : Seated = c.count_walk.new.seat.me in
    let side : ℕ = side_of old.0.hold in
    let visits : List Visit = visits_of old.0.hold in
    let list : List ℕ = values_in visits in
    let same : m.0 ≡ old.0 = ap (λ (z : Seated). z.0) c.count_walk.ensures.1 in
    let hold : m.0.hold ≡ walking kind side visits = ap (λ (v : View). v.hold) same ∙ c.requires.hold.0 in
    let left = left_walk kind m c.store.new.seat.me side visits hold c.store.ensures.2.0 in
    let finds : Finds old.0.pushed (walk old.0.epoch list) = subst (λ (v : View). Finds v.pushed (walk v.epoch (values_in (visits_of v.hold)))) same c.store.ensures.2.3 in (
      length_values visits,
      left ∙ ap (λ (v : View). (with_walk kind v (walk v.epoch list), [])) same,
      refl,
      covered old.0.pushed old.0.epoch (length visits) list c.requires.reach (length_values visits) finds,
      (λ whole h.
          let heavy : m.0.weight ≡ 1024 = ap (λ (v : View). v.weight) same ∙ whole in
          let told = left_weigh kind m c.store.new.seat.me side visits h hold c.store.ensures.2.0 (λ k. c.store.ensures.2.1 heavy k h) (λ k. c.store.ensures.2.2 heavy side visits k h) in
          subst (λ (v : View). weigh_pushes h v.pushed ≡ weigh h list + weigh_walks h v.taken) same told),
    )
