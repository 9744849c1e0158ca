use Rattle.std.proofs.Common.{refl, subst}
use Rattle.std.specs.Cmp.{IsTotalOrder}
use Rattle.metrics_names.specs.contracts.key.CompositeKeyOrd.TheImpl.Laws.{total-law}
use Rattle.metrics_exporter.proofs.BoundsLemmas.{at-none, at-some}
use Rattle.metrics_exporter.proofs.LawLemmas.{one-text, one-expiry}
use Rattle.metrics_exporter.proofs.laws.exporter_law.Goals as goal

pub returns-clause-one : goal.returns-clause-one
returns-clause-one c = one-text (subst IsTotalOrder (λ i a b. c.key_order.ensures.order a b i) total-law)

pub returns-clause-answered : goal.returns-clause-answered
returns-clause-answered c = refl

pub returns-clause-fifteen : goal.returns-clause-fifteen
returns-clause-fifteen c = refl

pub returns-clause-sixteen : goal.returns-clause-sixteen
returns-clause-sixteen c = refl

pub returns-clause-again : goal.returns-clause-again
returns-clause-again c = refl

pub returns-clause-expiry : goal.returns-clause-expiry
returns-clause-expiry c = one-expiry (subst IsTotalOrder (λ i a b. c.key_order.ensures.order a b i) total-law)

pub returns-clause-longest : goal.returns-clause-longest
returns-clause-longest c = λ default ns set name prefix is. at-some set name default ns prefix is

pub returns-clause-default : goal.returns-clause-default
returns-clause-default c = λ default set name none. at-none set name default none
