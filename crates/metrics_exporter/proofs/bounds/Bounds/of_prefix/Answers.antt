use Rattle.std.proofs.Common.{◌≡◌, ◌∙◌, sym, ap, inl, inr, subst, slice_get, Some, refl}
use Rattle.std.proofs.lemmas.Bool.{ltb-true}
use Rattle.std.proofs.lemmas.Option.{slice_get_read}
use Rattle.prefix_match.specs.TriePatterns.{HasNoFront, IsLongest}
use Rattle.metrics_storage.specs.Histogram.{bounds_of}
use Rattle.metrics_exporter.specs.Choice.{or_default}
use Rattle.metrics_exporter.proofs.BoundsLemmas.{chosen-none, chosen-some}
use Rattle.metrics_exporter.proofs.bounds.Bounds.of_prefix.Goals as goal

pub returns-in_default-clause-bounds : goal.returns-in_default-clause-bounds
returns-in_default-clause-bounds c =
    let b = c.args.self.now in
    chosen-none b.default b.prefixes.pairs b.chosen.items c.args.other.now c.args.name.now c.requires (subst (HasNoFront b.prefixes.pairs) c.as_bytes.ensures.value c.in_default.ensures.none)

pub returns-in_default-clause-choice : goal.returns-in_default-clause-choice
returns-in_default-clause-choice c = λ same.
    let b = c.args.self.now in
    inl (subst (HasNoFront b.prefixes.pairs) c.as_bytes.ensures.value c.in_default.ensures.none, same)

pub returns-in-Some-get-clause-choice : goal.returns-in-Some-get-clause-choice
returns-in-Some-get-clause-choice c =
    let b = c.args.self.now in
    let at = c.in-Some.at in
    let longest = subst (λ name. IsLongest b.prefixes.pairs name at) c.as_bytes.ensures.value c.in-Some.ensures.longest in
    let lookup = c.in-Some-get.ensures.lookup in
    let found : slice_get c.deref.result.now at ≡ Some c.in-Some-get.chosen.now = slice_get_read _ _ at _ refl (ltb-true _ _ (sym lookup.0)) lookup.1 in
    let here : slice_get b.chosen.items at ≡ Some c.in-Some-get.chosen.now = ap (λ items. slice_get items at) (sym c.deref.ensures.value) ∙ found in
    λ same. inr (at, longest, sym (ap (or_default b.default) here))

pub returns-in-Some-get-clause-bounds : goal.returns-in-Some-get-clause-bounds
returns-in-Some-get-clause-bounds c =
    let b = c.args.self.now in
    let at = c.in-Some.at in
    let longest = subst (λ name. IsLongest b.prefixes.pairs name at) c.as_bytes.ensures.value c.in-Some.ensures.longest in
    let lookup = c.in-Some-get.ensures.lookup in
    let found : slice_get c.deref.result.now at ≡ Some c.in-Some-get.chosen.now = slice_get_read _ _ at _ refl (ltb-true _ _ (sym lookup.0)) lookup.1 in
    let here : slice_get b.chosen.items at ≡ Some c.in-Some-get.chosen.now = ap (λ items. slice_get items at) (sym c.deref.ensures.value) ∙ found in
    sym (ap (or_default b.default) here) ∙ chosen-some b.default b.prefixes.pairs b.chosen.items (bounds_of c.args.other.now) c.args.name.now at b.unused b.all_unused longest
