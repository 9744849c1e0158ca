use Rattle.prefix_match.proofs.SubstringLinkLoops.{IsLinking}
use Rattle.prefix_match.proofs.substring.links.link_all.Given as goal

abbrev pub invariant-loop-place : goal.invariant-loop-place
invariant-loop-place l = IsLinking l.initial.nodes l.nodes l.order l.place-index
