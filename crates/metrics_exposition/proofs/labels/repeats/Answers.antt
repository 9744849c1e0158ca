use Rattle.std.proofs.Common.{rules, ◌≡◌, ◌∙◌, ◌+◌, ◌||◌, ℕ, List, true, Option, Some, drop, sym, ap}
use Rattle.std.specs.Prelude.{option_map}
use Rattle.std.proofs.lemmas.List.{at_drop_all, at_drop_more}
use Rattle.metrics_exposition.specs.Labels.{follows, is_last}
use Rattle.metrics_exposition.proofs.LabelLemmas.{follows-repeats}
use Rattle.metrics_names.specs.Names.{LabelParts}
use Rattle.metrics_exposition.proofs.labels.repeats.Goals as goal

pub returns : goal.returns
returns c =
    sym (at_drop_all (follows (option_map (λ n. n.now) c.loop-label.last)) c.args.labels.now c.loop-label.label-index c.loop-label-test.false)
    ∙ c.loop-label.invariant ∙ follows-repeats c.args.labels.now c.requires

pub returns-then-is_last : goal.returns-then-is_last
returns-then-is_last c =
    let ls = c.args.labels.now in
    let i = c.loop-label.label-index in
    let label : LabelParts = c.label-item.result in
    let last : Option (List ℕ) = option_map (λ n. n.now) c.loop-label.last in
    let test : c.is_last.result ≡ true = search rules in
    let is : is_last last label.0 ≡ true = ap (is_last last) (sym c.key.ensures) ∙ sym c.is_last.ensures ∙ test in
    let here : follows last (drop i ls) ≡ true =
    at_drop_more (follows last) ls i label c.loop-label-test.true
    ∙ ap (λ (m : LabelParts). is_last last m.0 || follows (Some m.0) (drop (i + 1) ls)) (sym c.label-item.is)
    ∙ ap (λ b. b || follows (Some label.0) (drop (i + 1) ls)) is in
    sym here ∙ c.loop-label.invariant ∙ follows-repeats ls c.requires
