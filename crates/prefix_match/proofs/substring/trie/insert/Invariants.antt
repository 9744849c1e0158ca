use Rattle.prefix_match.specs.Substring.{lowered}
use Rattle.prefix_match.proofs.SubstringInserts.{IsInserting}
use Rattle.prefix_match.proofs.substring.trie.insert.Given as goal

abbrev pub invariant-loop-byte : goal.invariant-loop-byte
invariant-loop-byte l = IsInserting l.initial.nodes.items l.nodes.items l.state l.byte-index (lowered l.fold_case l.pattern)
