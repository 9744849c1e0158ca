use Rattle.std.proofs.Common.{◌≡◌, ℕ, ◌<◌, length, get_or}
use Rattle.prefix_match.proofs.SubstringDepths.{no_place, place_of}
use Rattle.prefix_match.proofs.substring.trie.by_depth.Given as goal

abbrev pub invariant-loop-state : goal.invariant-loop-state
invariant-loop-state l = record {
  len : length l.places.items ≡ l.state;
  each : (k : ℕ) → k < l.state → get_or l.places.items k no_place ≡ place_of l.nodes k;
}
