use Rattle.std.proofs.Common.{rules, ◌≡◌, ℕ, List, [], ◌∷◌, ◌+◌, ◌/◌, ◌≤◌, length, refl, inl, sym, ap, ◌∙◌, subst, arith}
use Rattle.metrics_bucket.specs.declared.view.Walk.{Walk}
use Rattle.metrics_bucket.specs.declared.view.Push.{Push}
use Rattle.metrics_bucket.specs.BucketState.{with_read, holds_as, holding}
use Rattle.metrics_bucket.specs.declared.view.Hold.TheVariants.{Nothing}
use Rattle.metrics_bucket.specs.History.{turn_at, CanQuit}
use Rattle.metrics_bucket.specs.Places.{Reaches, Covers}
use Rattle.metrics_bucket.specs.Steps.{Seated}
use Rattle.metrics_bucket.specs.Facts.{weigh, weigh_pushes, weigh_walks}
use Rattle.std.specs.Prelude.{vec_capacity, vec_len}
use Rattle.metrics_bucket.specs.Gathers.{Gathers}
use Rattle.metrics_bucket.proofs.WalkCode.{folds_seen}
use Rattle.metrics_bucket.proofs.Gathers.{gathered_are, gathered_many}
use Rattle.metrics_bucket.proofs.bucket.RuledBucket.gather_values.Goals as goal

abbrev IsOut : Seated → Type 0
IsOut m = m.1 ≡ (0, turn_at m.0.turn) ∷ []

pub walk_and_leave-requires-clause-turn : goal.walk_and_leave-requires-clause-turn
walk_and_leave-requires-clause-turn g c = let e = c.in_ok-control.ensures.ok in subst IsOut (sym e.2) refl

pub walk_and_leave-requires-clause-reach : goal.walk_and_leave-requires-clause-reach
walk_and_leave-requires-clause-reach g c = let e = c.in_ok-control.ensures.ok in subst (λ (m : Seated). Reaches m.0.pushed m.0.epoch (c.in_ok-control.control / 2)) (sym e.2) e.4

pub give_turn_back-requires-clause-hold : goal.give_turn_back-requires-clause-hold
give_turn_back-requires-clause-hold g c = let e = c.in_ok-control.ensures.ok in subst (λ (m : Seated). CanQuit m.0.hold × IsOut m) (sym e.2) (tt, refl)

pub returns-clause-ok : goal.returns-clause-ok
returns-clause-ok g c =
    let e = c.in_ok-control.ensures.ok in
    let r = c.walk_and_leave.ensures.walked in
    let w : Walk = r.0 in
    let of_epoch : w.epoch ≡ e.0 = r.1.2 ∙ ap (λ (m : Seated). m.0.epoch) e.2 in
    let none : c.in-Ok.values.items ≡ [] = search rules in
    let room : c.in_ok-control.control / 2 ≤ vec_capacity c.in-Ok.values = search rules in
    let long = r.1.0 in (
      w,
      e.1,
      gathered_are g.T.Sample.value w.values c.in-Ok.values c.walk_and_leave.new.visitor.values none (omega arith) (folds_seen Gathers (λ s. s.values) _ _ _ r.2),
      r.1.1 ∙ (let read : Seated → Seated = λ (z : Seated). (with_read z.0 w, []) in ap read e.2 ∙ (λ i. (with_read (holds_as c.args.seat.now.me.0 (sym of_epoch i) e.1 Nothing) w, []))),
      subst (λ (z : List Push). Covers z w) (ap (λ (m : Seated). m.0.pushed) e.2) r.1.3,
      (λ whole. of_epoch ∙ e.5 whole),
      subst (λ (z : Seated). z.0.weight ≡ 1024 → (h : ℕ → ℕ) → weigh_pushes h z.0.pushed ≡ weigh h w.values + weigh_walks h z.0.taken) e.2 r.1.4,
    )

pub returns-clause-count : goal.returns-clause-count
returns-clause-count g c =
    let e = c.in_ok-control.ensures.ok in
    let r = c.walk_and_leave.ensures.walked in
    let w : Walk = r.0 in
    let most = e.3 in
    let long = r.1.0 in
    let none : c.in-Ok.values.items ≡ [] = search rules in
    let room : c.in_ok-control.control / 2 ≤ vec_capacity c.in-Ok.values = search rules in
    let many = gathered_many g.T.Sample.value w.values c.in-Ok.values c.walk_and_leave.new.visitor.values none (omega arith) (folds_seen Gathers (λ s. s.values) _ _ _ r.2) in
    let n : vec_len c.walk_and_leave.new.visitor.values ≡ length c.walk_and_leave.new.visitor.values.items = search rules in
    omega arith

pub returns-in_default-clause-err : goal.returns-in_default-clause-err
returns-in_default-clause-err g c =
    let e = c.in_ok-control.ensures.ok in
    let q = c.give_turn_back.ensures.1 in
    inl (refl, (e.0, e.1, q ∙ ap (λ (m : Seated). (holding m.0 Nothing, [])) e.2))
