use Rattle.std.proofs.Common.{◌∙◌, ap}
use Rattle.metrics.specs.Layers.{matches}
use Rattle.metrics_layers.proofs.FilterLemmas.{answer_is_matches}
use Rattle.metrics_layers.proofs.filter.is_refused.Goals as goal

pub returns : goal.returns
returns c =
    answer_is_matches c.is_match.result c.args.automaton.now c.as_bytes.result.now c.is_match.ensures ∙ ap (matches c.args.automaton.now.fold_case c.args.automaton.now.listed) c.as_bytes.ensures.value
