use Rattle.std.proofs.Common.{◌≡◌, ◌∙◌, true, false, ◌&&◌, ap, sym, rules}
use Rattle.std.specs.List.{list_all}
use Rattle.metrics_exposition.specs.Names.{is_plain}
use Rattle.metrics_exposition.proofs.ValueLemmas.{plain-parts}
use Rattle.metrics_exposition.proofs.names.are_plain.Goals as goal

pub returns-then-not-are_few_plain : goal.returns-then-not-are_few_plain
returns-then-not-are_few_plain c =
    let chunk = c.in-Some.chunk.now in
    let more = c.in-Some.more.now in
    let parts = c.in-Some.ensures.cases in
    let front = parts.0 in
    let back = parts.1 in
    let whole : list_all is_plain c.loop-chunk.rest.now ≡ (list_all is_plain chunk && list_all is_plain more) = search (plain-parts, front, back) in
    let no : c.are_few_plain.result ≡ false = search rules in
    sym (c.loop-chunk.invariant ∙ whole ∙ ap (λ b. b && list_all is_plain more) (sym c.are_few_plain.ensures ∙ no))

pub loop-chunk-preserved : goal.loop-chunk-preserved
loop-chunk-preserved c =
    let chunk = c.in-Some.chunk.now in
    let more = c.in-Some.more.now in
    let parts = c.in-Some.ensures.cases in
    let front = parts.0 in
    let back = parts.1 in
    let whole : list_all is_plain c.loop-chunk.rest.now ≡ (list_all is_plain chunk && list_all is_plain more) = search (plain-parts, front, back) in
    let yes : c.are_few_plain.result ≡ true = search rules in
    c.loop-chunk.invariant ∙ whole ∙ ap (λ b. b && list_all is_plain more) (sym c.are_few_plain.ensures ∙ yes)
