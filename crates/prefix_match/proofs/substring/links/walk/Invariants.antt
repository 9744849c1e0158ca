use Rattle.prefix_match.specs.Substring.{lowered}
use Rattle.prefix_match.proofs.SubstringLinkWalks.{IsWalking}
use Rattle.prefix_match.proofs.substring.links.walk.Given as goal

abbrev pub invariant-loop-byte : goal.invariant-loop-byte
invariant-loop-byte l = IsWalking l.nodes (lowered l.fold_case l.text) l.byte-index l.state l.moves
