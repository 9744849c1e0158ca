use Rattle.std.proofs.Common.{◌≡◌, ◌∙◌, ap, sym, [], Some, None, slice_get, option_map}
use Rattle.std.specs.Map.Iter.{deref_pair}
use Rattle.std.proofs.lemmas.Option.{slice_get-get_or, get_or_from_slice_get}
use Rattle.metrics_names.specs.Names.{KeyParts}
use Rattle.metrics_names.specs.Equality.{key_eq-Decides}
use Rattle.metrics.specs.Book.{Description, row_of}
use Rattle.metrics.specs.Kinds.{of_kind}
use Rattle.metrics_registry.specs.contracts.keys.KeyEqualClone.TheImpl.Laws.{clones-law}
use Rattle.metrics_debugging.specs.Debugging.{content_of}
use Rattle.metrics_descriptions.specs.Legends.{described_by}
use Rattle.metrics_debugging.specs.DebuggingCells.{value_of, kind_of_value}
use Rattle.metrics_debugging.specs.DebuggingSeries.{no_key, series_key}
use Rattle.metrics_debugging.proofs.debugging.series.SeriesList.row.Goals as goal

pub unreachable-requires : goal.unreachable-requires
unreachable-requires c =
    let place = c.args.stored.now.place in
    let own = kind_of_value (value_of c.args.stored.now.cell) in
    let es = of_kind own c.args.self.now.numbers in
    let is = c.of.ensures ∙ ap (λ k. of_kind k c.args.self.now.numbers) c.kind-kind.ensures in
    let none : slice_get es place ≡ None = ap (λ xs. slice_get xs place) (sym is) ∙ (sym c.at.ensures ∙ ap (option_map deref_pair) c.in_default.is) in
    cc (none, slice_get-get_or es place no_key c.requires)

pub returns-clause-ok : goal.returns-clause-ok
returns-clause-ok c =
    let place = c.args.stored.now.place in
    let own = kind_of_value (value_of c.args.stored.now.cell) in
    let es = of_kind own c.args.self.now.numbers in
    let key = c.in-Some.key.now in
    let copy = c.in_ok-clone.field-0 in
    let value = c.in_ok-value.value in
    let ds = c.args.descriptions.now in
    let is = c.of.ensures ∙ ap (λ k. of_kind k c.args.self.now.numbers) c.kind-kind.ensures in
    let there : slice_get es place ≡ Some (key, c.in-Some._number.now) = ap (λ xs. slice_get xs place) (sym is) ∙ (sym c.at.ensures ∙ ap (option_map deref_pair) c.in-Some.is) in
    let same : copy ≡ key = sym ((key_eq-Decides key copy).0 (clones-law key copy (c.in_ok-clone.ensures {u = tt}).cases)) in
    let told : record { unit = c.in_ok-unit.unit; text = c.in_ok-unit.text } ≡ described_by ds own key.name =
    c.in_ok-unit.ensures ∙ (ap (described_by ds c.kind-kind.result) c.name.ensures ∙ ap (λ k. described_by ds k key.name) c.kind-kind.ensures) in
    ap (λ k. (k, c.in_ok-unit.unit, c.in_ok-unit.text, value)) (c.new-key.ensures ∙ (ap (series_key c.kind-kind.result) same ∙ ap (λ k. series_key k key) c.kind-kind.ensures))
    ∙ (ap (λ (d : Description). (series_key own key, d.unit, d.text, value)) told
    ∙ (ap (λ v. (series_key own key, (described_by ds own key.name).unit, (described_by ds own key.name).text, v)) (c.in_ok-value.ensures {u = tt}).ok
    ∙ ap (λ (e : KeyParts × _). row_of (content_of [] [] ds) (record { key = series_key own e.0; value = value_of c.args.stored.now.cell })) (sym (get_or_from_slice_get es place (key, c.in-Some._number.now) no_key there))))
