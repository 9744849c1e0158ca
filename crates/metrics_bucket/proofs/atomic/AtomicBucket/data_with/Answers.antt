use Rattle.std.proofs.lemmas.Result.{IfOk-weaker}
use Rattle.std.specs.Fn.{CalledAt}
use Rattle.metrics_bucket.proofs.WalkCode.{folds_seen}
use Rattle.metrics_bucket.proofs.atomic.AtomicBucket.data_with.Goals as goal

pub returns-clause-ok : goal.returns-clause-ok
returns-clause-ok g c =
    IfOk-weaker c.show_to.result _ _ (λ n p. (p.0.values, p.2, (c.show_to.new.visitor.f, folds_seen (λ p x q. CalledAt g.F.FnMut p x tt q) (λ s. s.f) _ _ _ p.7))) c.show_to.ensures.ok
