use Rattle.std.proofs.Common.{◌≡◌, ℕ, ◌<◌, true, false, get_or, length}
use Rattle.prefix_match.specs.SubstringStates.{node_at}
use Rattle.prefix_match.proofs.substring.table.used_bytes.Given as goal

abbrev pub invariant-loop-state : goal.invariant-loop-state
invariant-loop-state l = record {
  len : length l.used ≡ 256;
  marks : (c : ℕ) → 0 < c → c < l.state → get_or l.used (node_at l.nodes c).byte false ≡ true;
}
