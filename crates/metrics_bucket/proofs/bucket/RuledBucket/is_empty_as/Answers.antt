use Rattle.std.proofs.Common.{rules, ◌<◌, refl, subst}
use Rattle.metrics_bucket.specs.Account.{Account, IsLookedAnew}
use Rattle.metrics_bucket.specs.Pens.{account_of}
use Rattle.metrics_bucket.proofs.Pens.{looks_once, account_looked}
use Rattle.metrics_bucket.proofs.Allowed.{looks}
use Rattle.metrics_bucket.proofs.bucket.RuledBucket.is_empty_as.Goals as goal

pub load-requires : goal.load-requires
load-requires g c = let heavy : 0 < c.pen.inside.seat.me.0.weight = search rules in (search rules, search rules, looks _ _ _ _ _ heavy)

pub returns-clause-looked : goal.returns-clause-looked
returns-clause-looked g c =
    let p = c.pen.inside in
    let p' = record p { seat = c.load.new.seat } in
    let l = c.load.ensures in
    subst (λ (a : Account). IsLookedAnew a (account_of p')) c.pen.view_is (account_looked p p' l.0 refl (looks_once p.seat.me c.load.new.seat.me c.load.result l.2.0))
