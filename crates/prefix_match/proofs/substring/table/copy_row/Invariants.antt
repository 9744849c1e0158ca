use Rattle.std.proofs.Common.{◌≡◌, ℕ, ◌+◌, ◌<◌, ◌≤◌, ◌⊎◌, get_or}
use Rattle.prefix_match.proofs.substring.table.copy_row.Given as goal

abbrev pub invariant-loop-column : goal.invariant-loop-column
invariant-loop-column l = record {
  copied : (k : ℕ) → k < l.column → get_or l.next (l.to + k) 0 ≡ get_or l.initial.next (l.from + k) 0;
  rest : (j : ℕ) → (j < l.to) ⊎ (l.to + l.column ≤ j) → get_or l.next j 0 ≡ get_or l.initial.next j 0;
}
