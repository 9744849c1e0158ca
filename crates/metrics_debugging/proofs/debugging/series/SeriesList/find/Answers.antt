use Rattle.std.proofs.Common.{◌∙◌, ap}
use Rattle.metrics_names.specs.Names.{key_eq}
use Rattle.metrics_registry.specs.Held.{held}
use Rattle.metrics_debugging.proofs.AgreesLemmas.{number-found}
use Rattle.metrics_debugging.proofs.debugging.series.SeriesList.find.Goals as goal

pub returns : goal.returns
returns c =
    let self = c.args.self.now in
    c.copied.ensures ∙ (c.get.ensures ∙ ap (λ es. held key_eq es c.args.key.now) c.of.ensures) ∙ number-found self.numbers self.series.items self.agree c.args.kind c.args.key.now
