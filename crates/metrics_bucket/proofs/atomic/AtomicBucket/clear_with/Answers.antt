use Rattle.std.proofs.lemmas.Result.{IfOk-weaker}
use Rattle.std.specs.Fn.{CalledAt}
use Rattle.metrics_bucket.proofs.WalkCode.{folds_seen}
use Rattle.metrics_bucket.proofs.atomic.AtomicBucket.clear_with.Goals as goal

pub returns-clause-ok : goal.returns-clause-ok
returns-clause-ok g c =
    IfOk-weaker c.claim_and_clear.result _ _ (λ n p. (p.0.values, p.2, (c.claim_and_clear.new.visitor.f, folds_seen (λ p x q. CalledAt g.F.FnMut p x tt q) (λ s. s.f) _ _ _ p.6))) c.claim_and_clear.ensures.ok
