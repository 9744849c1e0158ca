use Rattle.std.proofs.Common.{◌≡◌, ℕ, false, ◌∙◌, refl, ap, subst}
use Rattle.std.proofs.lemmas.Result.{IfOk-weaker, IfErr-weaker}
use Rattle.metrics_bucket.specs.Account.{Account, has_ticket, IsPushed, IsLookedAnew}
use Rattle.metrics_bucket.specs.Pens.{account_of}
use Rattle.metrics_bucket.proofs.Pens.{account_pushed, account_looked}
use Rattle.metrics_bucket.proofs.bucket.RuledBucket.push_as.Goals as goal

pub returns-clause-ok : goal.returns-clause-ok
returns-clause-ok g c =
    let p = c.pen.inside in
    let x : ℕ = g.T.Sample.word c.args.value in
    let p' = record p { seat = c.push_by.new.seat } in
    let free : has_ticket p.ticket ≡ false = ap (λ (a : Account). a.ticket) c.pen.view_is ∙ c.requires.free in
    IfOk-weaker c.push_by.result _ _ (λ _ h. (subst (λ (a : Account). IsPushed a x (account_of p')) c.pen.view_is (account_pushed p p' x c.push_by.ensures.table free h.0), h.1)) c.push_by.ensures.ok

pub returns-clause-err : goal.returns-clause-err
returns-clause-err g c =
    let p = c.pen.inside in
    let p' = record p { seat = c.push_by.new.seat } in
    IfErr-weaker c.push_by.result _ _
    (λ e t. (subst (λ (a : Account). IsLookedAnew a (account_of p')) c.pen.view_is (account_looked p p' c.push_by.ensures.table refl t.0), t.1, t.2, t.3)) c.push_by.ensures.err
