use Rattle.std.proofs.Common.{rules, ◌≡◌, ℕ, List, ◌+◌, ◌*◌, ◌/◌, ◌%◌, ◌<◌, length, replicate, sym, ap, ◌∙◌, subst, arith}
use Rattle.metrics_bucket.specs.declared.view.Push.{Push}
use Rattle.metrics_bucket.specs.declared.view.Hold.TheVariants.{Reading}
use Rattle.metrics_bucket.specs.declared.view.Visit.TheVariants.{Unseen}
use Rattle.metrics_bucket.specs.BucketState.{blocks_of, holding_at}
use Rattle.metrics_bucket.specs.Places.{Reaches}
use Rattle.metrics_bucket.specs.Steps.{Seated}
use Rattle.metrics_bucket.proofs.AllowedClaims.{claims_turn, surveys_side}
use Rattle.metrics_bucket.proofs.bucket.RuledBucket.claim_and_look.Goals as goal

abbrev Weighs : Seated → Type 0
Weighs m = 0 < m.0.weight

pub compare_exchange-requires : goal.compare_exchange-requires
compare_exchange-requires g c =
    let words : c.deref.result.now.shared.table_id.words ≡ 2 + 2 * c.self.inside.places + 2 * blocks_of c.self.inside.places = search rules in
    (search rules, omega arith, claims_turn _ _ _ _ _ c.requires.home.2 c.requires.hold.0 c.requires.hold.1)

pub load-requires : goal.load-requires
load-requires g c =
    let zero_found : c.compare_exchange.result ≡ 0 = search rules in
    let e1 = c.compare_exchange.ensures.2.0 zero_found in
    let words : c.deref.result.now.shared.table_id.words ≡ 2 + 2 * c.self.inside.places + 2 * blocks_of c.self.inside.places = search rules in
    (search rules, omega arith, surveys_side _ _ _ _ _ (subst Weighs (sym e1.1) c.requires.home.2) (ap (λ (m : Seated). m.0.hold) e1.1))

pub returns-clause-ok : goal.returns-clause-ok
returns-clause-ok g c =
    let zero_found : c.compare_exchange.result ≡ 0 = search rules in
    let e1 = c.compare_exchange.ensures.2.0 zero_found in
    let e2 = c.load.ensures.2 in
    let n : ℕ = e1.0 in
    let next : Seated → Seated = λ (z : Seated). (holding_at z.0 e2.0 (Reading (c.load.result % 2) (replicate (c.load.result / 2) Unseen)), z.1) in
    let same_places : c.compare_exchange.new.seat.me.0.places ≡ c.args.self.now.places = ap (λ (m : Seated). m.0.places) e1.1 ∙ c.requires.home.1 in
    let room = e2.2 in (
      e2.0,
      n,
      e2.1 ∙ ap next e1.1,
      omega arith,
      subst (λ (z : List Push). Reaches z e2.0 (c.load.result / 2)) (ap (λ (m : Seated). m.0.pushed) e1.1) e2.3,
      λ whole. e2.4 (ap (λ (m : Seated). m.0.weight) e1.1 ∙ whole) ∙ ap (λ (m : Seated). length m.0.taken) e1.1,
    )
