use Rattle.metrics_exposition.proofs.NamingLemmas.{without-none, without-some}
use Rattle.metrics_exposition.proofs.naming.without_end.Goals as goal

pub returns-in-None : goal.returns-in-None
returns-in-None c = without-none c.args.name.now c.args.end.now c.in-None.ensures.cases

pub returns-in-Some : goal.returns-in-Some
returns-in-Some c = without-some c.args.name.now c.args.end.now c.in-Some.front.now c.in-Some.ensures.cases
