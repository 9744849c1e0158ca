use Rattle.std.proofs.Common.{rules, ◌≡◌, ◌⊎◌, ◌/◌, ◌<◌, ◌≤◌, refl, subst}
use Rattle.std.specs.Result.{IfErr}
use Rattle.std.proofs.lemmas.Result.{IfErr-weaker}
use Rattle.metrics.specs.declared.error.Error.TheVariants.{Full, Raced}
use Rattle.metrics_bucket.specs.Account.{Account, IsLookedAnew}
use Rattle.metrics_bucket.specs.Pens.{account_of}
use Rattle.metrics_bucket.specs.Steps.{HasLookedAnew}
use Rattle.metrics_bucket.proofs.Pens.{account_looked}
use Rattle.metrics_bucket.proofs.bucket.RuledBucket.begin_as.Goals as goal

pub returns-in_err-draw-clause-err : goal.returns-in_err-draw-clause-err
returns-in_err-draw-clause-err g c =
    let p = c.pen.inside in
    let q = c.draw.new.seat in
    let p' = record p { seat = q } in
    let places = c.args.self.now.places in
    let told : IfErr c.from_residual.result (λ e. HasLookedAnew p.seat.me q.me × (((e ≡ Full) × (places ≤ q.me.0.seen / 2)) ⊎ ((e ≡ Raced) × (q.me.0.seen / 2 < places)))) = search rules in
    IfErr-weaker c.from_residual.result _ _ (λ e t. (subst (λ (a : Account). IsLookedAnew a (account_of p')) c.pen.view_is (account_looked p p' c.draw.ensures.table refl t.0), t.1)) told
