use Rattle.std.proofs.Common.{rules, ◌≡◌, ℕ, List, ◌+◌, ◌-◌, ◌*◌, ◌/◌, ◌%◌, ◌<◌, ◌≤◌, length, replicate, sym, ap, ◌∙◌, subst, arith}
use Rattle.metrics_bucket.specs.BucketState.{blocks_of, holding_at}
use Rattle.metrics_bucket.specs.Steps.{Seated}
use Rattle.metrics_bucket.specs.Places.{Reaches}
use Rattle.metrics_bucket.specs.declared.view.Push.{Push}
use Rattle.metrics_bucket.specs.declared.view.Hold.TheVariants.{Clearing}
use Rattle.metrics_bucket.specs.declared.view.Visit.TheVariants.{Unseen}
use Rattle.metrics_bucket.proofs.AllowedClaims.{claims_turn, aims_side, takes_all}
use Rattle.metrics_bucket.proofs.WalkCode.{one_minus}
use Rattle.metrics_bucket.proofs.bucket.RuledBucket.claim_side.Goals as goal

abbrev Weighs : Seated → Type 0
Weighs m = 0 < m.0.weight

pub compare_exchange-requires : goal.compare_exchange-requires
compare_exchange-requires g c =
    let words : c.deref.result.now.shared.table_id.words ≡ 2 + 2 * c.self.inside.places + 2 * blocks_of c.self.inside.places = search rules in
    (search rules, omega arith, claims_turn _ _ _ _ _ c.requires.home.2 c.requires.hold.0 c.requires.hold.1)

pub load-live-requires : goal.load-live-requires
load-live-requires g c =
    let zero_found : c.compare_exchange.result ≡ 0 = search rules in
    let e1 = c.compare_exchange.ensures.2.0 zero_found in
    let words : c.deref.result.now.shared.table_id.words ≡ 2 + 2 * c.self.inside.places + 2 * blocks_of c.self.inside.places = search rules in
    (search rules, omega arith, aims_side _ _ _ _ _ (subst Weighs (sym e1.1) c.requires.home.2) (ap (λ (m : Seated). m.0.hold) e1.1))

pub swap-control-requires : goal.swap-control-requires
swap-control-requires g c =
    let zero_found : c.compare_exchange.result ≡ 0 = search rules in
    let e1 = (c.compare_exchange.ensures.2.0 zero_found).1 in
    let e2 = c.load-live.ensures.2 in
    let words : c.deref.result.now.shared.table_id.words ≡ 2 + 2 * c.self.inside.places + 2 * blocks_of c.self.inside.places = search rules in
    let s : ℕ = c.load-live.result % 2 in
    (search rules, omega arith, takes_all _ _ _ _ _ s (1 - s) (subst Weighs (sym e2) (subst Weighs (sym e1) c.requires.home.2)) (ap (λ (m : Seated). m.0.hold) e2) (one_minus s (omega arith)))

pub returns-clause-ok : goal.returns-clause-ok
returns-clause-ok g c =
    let zero_found : c.compare_exchange.result ≡ 0 = search rules in
    let t1 = c.compare_exchange.ensures.2.0 zero_found in
    let e1 = t1.1 in
    let e2 = c.load-live.ensures.2 in
    let s : ℕ = c.load-live.result % 2 in
    let t3 = c.swap-control.ensures.2 s (ap (λ (m : Seated). m.0.hold) e2) in
    let given : ℕ = c.swap-control.result / 2 in
    let takes : Seated → Seated = λ (z : Seated). (holding_at z.0 t3.0 (Clearing s (replicate given Unseen)), z.1) in
    let before : Seated → List Push = λ (m : Seated). m.0.pushed in
    let weight : Seated → ℕ = λ (m : Seated). m.0.weight in
    let many : Seated → ℕ = λ (m : Seated). length m.0.taken in
    let places : Seated → ℕ = λ (m : Seated). m.0.places in (
      omega arith,
      subst (λ (n : ℕ). given ≤ n) (ap places e2 ∙ (ap places e1 ∙ c.requires.home.1)) t3.2,
      (
        t3.0,
        t1.0,
        t3.1 ∙ (ap takes e2 ∙ ap takes e1),
        subst (λ (z : List Push). Reaches z t3.0 given) (ap before e2 ∙ ap before e1) t3.3,
        (λ whole. t3.4 (ap weight e2 ∙ (ap weight e1 ∙ whole)) ∙ (ap many e2 ∙ ap many e1)),
      ),
    )
