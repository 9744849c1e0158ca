use Rattle.std.proofs.Common.{subst}
use Rattle.metrics_rules.specs.Meanings.{rules_meaning}
use Rattle.metrics_layered.specs.Handing.{AreGiven, handles_of}
use Rattle.metrics_layered.proofs.HandingLemmas.{given-only}
use Rattle.metrics_layered.proofs.ask.handles_under.Goals as goal

pub returns-in-Ok-clause-given : goal.returns-in-Ok-clause-given
returns-in-Ok-clause-given g c =
    subst (λ k. AreGiven g.A.Asks.gives c.args.recorders.now c.args.key.now.labels ((rules_meaning c.args.rules.now).targets k c.args.key.now.name) (handles_of c.visit.new.visitor.found))
    c.kind.ensures
    (given-only {S = g.row.R.Denot} g.A.Asks.gives c.args.key.now.labels (λ v. v.recorders.now) (λ v. handles_of v.found) _
    (λ v t w p. record { handle = p.0; given = (p.1, p.2, p.3); more = p.4; same = p.5 }) _ _ c.visit.new.visitor c.noop.ensures c.in-Ok.ensures.1)
