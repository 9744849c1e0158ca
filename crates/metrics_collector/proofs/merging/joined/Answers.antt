use Rattle.std.proofs.Common.{◌≡◌, Some, rules, subst}
use Rattle.std.proofs.lemmas.Result.{on_ok_weaker}
use Rattle.metrics_exporter.specs.Exporting.{Reading, samples}
use Rattle.metrics_collector.specs.Gathering.{reading_of}
use Rattle.metrics_collector.specs.Merging.{IsRefused}
use Rattle.metrics_collector.proofs.merging.joined.Goals as goal

pub returns-in-Samples-clause-joins : goal.returns-in-Samples-clause-joins
returns-in-Samples-clause-joins c =
    let is : reading_of c.args.new.now ≡ samples c.deref.result.now = search rules in
    on_ok_weaker c.with_samples.result (λ f e h. f e (subst (λ (r : Reading). IsRefused e (Some (reading_of c.args.old.now)) r) is h)) c.with_samples.ensures.joins
