use Rattle.std.proofs.Common.{◌≡◌, ◌∙◌, refl, sym, ap, subst, Some}
use Rattle.std.specs.Prelude.{MatchOption, option_copied}
use Rattle.indexmap.specs.IndexMap.{get_by_text}
use Rattle.metrics_storage.specs.Histogram.{bounds_of}
use Rattle.metrics_exporter.specs.Choice.{IsPrefixChoice, set_for}
use Rattle.metrics_exporter.specs.Prefixes.{at_longest}
use Rattle.metrics_exporter.proofs.BoundsLemmas.{exact-some}
use Rattle.metrics_exporter.proofs.bounds.Bounds.of_name.Goals as goal

pub returns-in-Some-clause-choice : goal.returns-in-Some-clause-choice
returns-in-Some-clause-choice c =
    let b = c.args.self.now in
    let name = c.args.name.now in
    let d = c.in-Some.exact.now in
    let there : get_by_text b.exact name ≡ Some d = sym c.get.ensures.value ∙ ap option_copied c.in-Some.is in
    λ same. subst (λ o. MatchOption o (IsPrefixChoice b name d) (λ e. d ≡ e)) (sym there) refl

pub returns-in-Some-clause-bounds : goal.returns-in-Some-clause-bounds
returns-in-Some-clause-bounds c =
    let b = c.args.self.now in
    let name = c.args.name.now in
    let d = c.in-Some.exact.now in
    let there : get_by_text b.exact name ≡ Some d = sym c.get.ensures.value ∙ ap option_copied c.in-Some.is in
    exact-some (get_by_text b.exact name) d (at_longest (bounds_of c.args.other.now) (set_for b) name) there (b.exact_unused name d there)
