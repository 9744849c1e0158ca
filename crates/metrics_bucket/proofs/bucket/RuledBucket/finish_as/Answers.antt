use Rattle.std.proofs.Common.{ℕ, Some, None, refl, sym, ap, ◌∙◌, subst}
use Rattle.metrics_bucket.specs.Account.{Account, TicketFits, IsPushed}
use Rattle.metrics_bucket.specs.Pens.{account_of}
use Rattle.metrics_bucket.specs.BucketState.{having_seen, pushing}
use Rattle.metrics_bucket.specs.Steps.{Seated}
use Rattle.metrics_bucket.proofs.Pens.{account_pushed}
use Rattle.metrics_bucket.proofs.bucket.RuledBucket.finish_as.Goals as goal

pub returns-clause-pushed : goal.returns-clause-pushed
returns-clause-pushed g c =
    let p = c.pen.inside in
    let fits : TicketFits (Some (c.in-Some.side, c.in-Some.at)) p.seat.me.0.places = rw c.in-Some.is at c.pen.invariant.fits in
    let x : ℕ = g.T.Sample.word c.args.value in
    let is = c.fill.ensures.pushed in
    let seen = ap (λ (m : Seated). m.0.seen) is in
    let looks = ap (λ (m : Seated). m.0.looks) is in
    let p' = record p { seat = c.fill.new.seat; ticket = None } in
    subst (λ (a : Account). IsPushed a x (account_of p')) c.pen.view_is (account_pushed p p' x c.fill.ensures.table refl (p.seat.me.0.epoch, c.in-Some.at, fits.1, is ∙ (λ k. (pushing (having_seen p.seat.me.0 (sym seen k) (sym looks k)) c.in-Some.at x, p.seat.me.1))))
