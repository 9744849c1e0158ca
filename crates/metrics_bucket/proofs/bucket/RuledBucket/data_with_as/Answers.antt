use Rattle.std.proofs.lemmas.Result.{IfOk-weaker}
use Rattle.std.specs.Fn.{CalledAt}
use Rattle.metrics_bucket.proofs.WalkCode.{folds_seen}
use Rattle.metrics_bucket.proofs.bucket.RuledBucket.data_with_as.Goals as goal

pub returns-clause-ok : goal.returns-clause-ok
returns-clause-ok g c =
    IfOk-weaker c.data_to_as.result _ _ (λ n p. (p.0, p.1, p.2, (c.data_to_as.new.visitor.f, folds_seen (λ p x q. CalledAt g.F.FnMut p x tt q) (λ s. s.f) _ _ _ p.3))) c.data_to_as.ensures.ok
