use Rattle.std.proofs.Common.{◌≡◌, ℕ, ◌<◌, length, get_or}
use Rattle.prefix_match.specs.SubstringStates.{IsChild, HasNoChild}
use Rattle.prefix_match.proofs.substring.links.root_row.Given as goal

abbrev pub invariant-loop-byte : goal.invariant-loop-byte
invariant-loop-byte l = record {
  len : length l.roots.items ≡ l.byte;
  found : (y : ℕ) → y < l.byte → 0 < get_or l.roots.items y 0 → IsChild l.nodes 0 y (get_or l.roots.items y 0);
  none : (y : ℕ) → y < l.byte → get_or l.roots.items y 0 ≡ 0 → HasNoChild l.nodes 0 y;
}
