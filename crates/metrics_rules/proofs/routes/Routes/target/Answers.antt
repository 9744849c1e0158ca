use Rattle.std.proofs.Common.{ap, length, ◌∙◌}
use Rattle.prefix_match.specs.declared.trie.PrefixTrie.{PrefixTrie}
use Rattle.metrics_rules.specs.Routing.{longest_within, target_of}
use Rattle.metrics_rules.proofs.RoutingLemmas.{pairs-of}
use Rattle.metrics_rules.proofs.routes.Routes.target.Goals as goal

pub returns : goal.returns
returns c =
    c.target_within.ensures
    ∙ ap (λ pairs. longest_within pairs c.args.name.now (length c.args.name.now)) (ap (λ (t : PrefixTrie). t.pairs) c.of.ensures ∙ pairs-of c.args.kind _)
    ∙ ap (λ s. target_of s c.args.kind c.args.name.now) c.self.view_is
