use Rattle.std.proofs.Common.{◌≡◌, ◌∙◌, ℕ, List, cond, Some, bytes_eq, ap}
use Rattle.std.specs.Option.{unwrap_or}
use Rattle.std.proofs.lemmas.List.{take_all}
use Rattle.metrics_storage.specs.Histogram.{bounds_of}
use Rattle.metrics_exporter.specs.Choice.{set_for, default_in}
use Rattle.metrics_exporter.specs.Prefixes.{at_longest}
use Rattle.metrics_exporter.proofs.BoundsLemmas.{bounds-back}
use Rattle.tool_prometheus.specs.declared.making.PrefixBounds.{PrefixBounds}
use Rattle.tool_prometheus.specs.Making.{set_by}
use Rattle.tool_prometheus.proofs.MakingLemmas.{set-next, units-same}
use Rattle.tool_prometheus.proofs.making.bounds_from.Goals as goal

pub loop-one-preserved : goal.loop-one-preserved
loop-one-preserved c =
    let was = c.loop-one.invariant in
    let done = c.in_ok-set.ensures in
    record {
      default = done.default ∙ was.default;
      exact = λ n. done.exact n ∙ was.exact n;
      units = λ u. done.units u ∙ was.units u;
      set = set-next (set_for c.loop-one.bounds) (set_for c.set.new.self) c.args.prefixes.now c.loop-one.one-index c.one-item.result c.loop-one-test.true c.one-item.is was.set
          (λ p. done.sets p ∙ (λ i. cond (bytes_eq p (c.as_str.ensures i)) (Some (c.as_slice.ensures i)) (set_for c.loop-one.bounds p)));
    }

pub returns : goal.returns
returns c unit name =
    let was = c.loop-one.invariant in
    let all = take_all c.loop-one.one-index c.args.prefixes.now c.loop-one-test.false in
    let default : bounds_of c.loop-one.bounds.default ≡ c.args.default.now = ap bounds_of was.default ∙ bounds-back c.args.default.now in
    let set : (p : List ℕ) → set_for c.loop-one.bounds p ≡ set_by c.args.prefixes.now p = λ p. was.set p ∙ ap (λ (xs : List PrefixBounds). set_by xs p) all in
    let b = c.loop-one.bounds in
    let units = units-same b c.args.units.now c.args.default.now default was.units unit in
    ap (λ o. unwrap_or o (at_longest (default_in b unit) (set_for b) name)) (was.exact name) ∙ (λ i. at_longest (units i) (λ p. set p i) name)
