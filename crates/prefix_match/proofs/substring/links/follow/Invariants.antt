use Rattle.std.proofs.Common.{◌≡◌, ℕ, ◌+◌, ◌<◌, ◌≤◌, List, [], ◌∷◌, ◌++◌, length}
use Rattle.prefix_match.specs.Substring.{longest_front}
use Rattle.prefix_match.specs.SubstringStates.{text_of, HasFronts, IsLinkedBelow}
use Rattle.prefix_match.proofs.substring.links.follow.Given as goal

abbrev pub invariant-loop-state : goal.invariant-loop-state
invariant-loop-state l = record {
  within : l.state < length l.nodes;
  cost : l.moves + length (text_of l.nodes l.state) ≤ length (text_of l.nodes l.from);
  text : (ps : List (List ℕ)) → HasFronts ps l.nodes → IsLinkedBelow ps l.nodes (length (text_of l.nodes l.from) + 1) → longest_front ps (text_of l.nodes l.state ++ l.byte ∷ []) ≡ longest_front ps (text_of l.nodes l.from ++ l.byte ∷ []);
}

abbrev pub decreases-loop-state : goal.decreases-loop-state
decreases-loop-state l = length (text_of l.nodes l.state)
