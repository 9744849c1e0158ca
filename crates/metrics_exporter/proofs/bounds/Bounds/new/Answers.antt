use Rattle.std.proofs.Common.{◌≡◌, ◌∙◌, ℕ, List, None, Some, All, rules, ap, subst, sym}
use Rattle.std.proofs.lemmas.List.Elements.{All-nil}
use Rattle.std.specs.Option.{option_map, unwrap_or}
use Rattle.indexmap.specs.IndexMap.{get, get_by_text}
use Rattle.metrics_names.specs.declared.common.Unit.{Unit as Measure}
use Rattle.metrics_storage.specs.Histogram.{bounds_of}
use Rattle.metrics_exporter.specs.Prefixes.{IsEmpty}
use Rattle.metrics_exporter.specs.Units.{unit_eq}
use Rattle.metrics_exporter.proofs.BoundsLemmas.{is-empty, places-none, bounds-all, bounds-none, bounds-back, empty-none-set}
use Rattle.metrics_exporter.proofs.bounds.Bounds.new.Goals as goal

pub invariant_of-result : goal.invariant_of-result
invariant_of-result c =
    let none : (name : List ℕ) → get_by_text c.new.result name ≡ None = λ name. search rules in
    let none_in : (unit : Measure) → get unit_eq c.new-2.result unit ≡ None = λ unit. search rules in
    record {
      unused = is-empty c.in_ok-default.default c.args.default.now c.in_ok-default.ensures.ok;
      all_unused = subst (All IsEmpty) (sym c.new-4.ensures.items) (All-nil IsEmpty);
      exact_unused = empty-none-set (get_by_text c.new.result) none;
      units_unused = empty-none-set (get unit_eq c.new-2.result) none_in;
      within = places-none _ _ c.new-3.ensures.pairs;
    }

pub returns-clause-all : goal.returns-clause-all
returns-clause-all c None name =
    let bounds = c.args.default.now in
    let none : get_by_text c.new.result name ≡ None = search rules in
    let default : bounds_of c.in_ok-default.default ≡ bounds = ap bounds_of c.in_ok-default.ensures.ok ∙ bounds-back bounds in
    bounds-none (get_by_text c.new.result name) _ bounds none
    (bounds-all c.in_ok-default.default c.new-3.result.pairs c.new-4.result.items bounds (bounds_of c.in_ok-default.default) default c.new-3.ensures.pairs name)
returns-clause-all c (Some unit) name =
    let bounds = c.args.default.now in
    let none : get_by_text c.new.result name ≡ None = search rules in
    let none_in : get unit_eq c.new-2.result unit ≡ None = search rules in
    let default : bounds_of c.in_ok-default.default ≡ bounds = ap bounds_of c.in_ok-default.ensures.ok ∙ bounds-back bounds in
    let other = unwrap_or (option_map bounds_of (get unit_eq c.new-2.result unit)) (bounds_of c.in_ok-default.default) in
    let is : other ≡ bounds = bounds-none (get unit_eq c.new-2.result unit) (bounds_of c.in_ok-default.default) bounds none_in default in
    bounds-none (get_by_text c.new.result name) _ bounds none
    (bounds-all c.in_ok-default.default c.new-3.result.pairs c.new-4.result.items bounds other is c.new-3.ensures.pairs name)
