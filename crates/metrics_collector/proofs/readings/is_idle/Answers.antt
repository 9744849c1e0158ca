use Rattle.std.proofs.Common.{◌∙◌, ◌&&◌, None, refl}
use Rattle.std.proofs.lemmas.Bool.{cond-true}
use Rattle.metrics_names.specs.Names.{kind_eq, key_eq}
use Rattle.metrics_names.specs.Equality.{and_both, kind_eq-Decides, key_eq-Decides}
use Rattle.metrics_collector.proofs.readings.is_idle.Goals as goal

-- the note of the series itself is gone
pub returns-clause-forgotten : goal.returns-clause-forgotten
returns-clause-forgotten c =
    let kind = c.args.kind in
    let key = c.args.key.now in
    let same = and_both (kind_eq kind kind) (key_eq key key) ((kind_eq-Decides kind kind).1 refl) ((key_eq-Decides key key).1 refl) in
    c.forget.ensures.gone kind key ∙ cond-true (kind_eq kind kind && key_eq key key) None _ same
