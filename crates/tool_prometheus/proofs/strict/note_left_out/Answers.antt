use Rattle.std.proofs.Common.{◌≡◌, ◌∙◌, nat_eq, true, false, ap, sym}
use Rattle.std.proofs.lemmas.Bool.{eqb-true}
use Rattle.metrics_prometheus.specs.Counted.{counted_bytes}
use Rattle.tool_prometheus.proofs.StrictLemmas.{none_noted, some_noted}
use Rattle.tool_prometheus.proofs.strict.note_left_out.Goals as goal

pub returns-then-is_empty-clause-noted : goal.returns-then-is_empty-clause-noted
returns-then-is_empty-clause-noted g c =
    let on = c.args.on.now in
    let shown = c.args.shown.now in
    let none = eqb-true shown.left_out.len 0 (sym c.is_empty.ensures ∙ c.if-is_empty.true) in
    let same = none_noted (counted_bytes shown) on.is_strict on.has_bad (sym shown.number ∙ sym shown.left_out.ok.0 ∙ none) in
    λ i. record on { has_bad = sym same i }

pub returns-then-on-clause-noted : goal.returns-then-on-clause-noted
returns-then-on-clause-noted g c =
    let on = c.args.on.now in
    let shown = c.args.shown.now in
    let same = some_noted (counted_bytes shown) on.is_strict on.has_bad
    (λ none. let both : true ≡ false = sym (c.is_empty.ensures ∙ ap (λ n. nat_eq n 0) (shown.left_out.ok.0 ∙ shown.number ∙ none)) ∙ c.if-is_empty.false in cc) c.if-on.true in
    λ i. record on { has_bad = sym same i }
