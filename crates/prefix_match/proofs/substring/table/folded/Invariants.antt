use Rattle.std.proofs.Common.{◌≡◌, ℕ, ◌<◌, get_or, length}
use Rattle.prefix_match.specs.Substring.{lowered_byte}
use Rattle.prefix_match.proofs.substring.table.folded.Given as goal

abbrev pub invariant-loop-byte : goal.invariant-loop-byte
invariant-loop-byte l = record {
  len : length l.classes ≡ 256;
  each : (b : ℕ) → b < l.byte → get_or l.classes b 0 ≡ get_or l.columns (lowered_byte l.fold_case b) 0;
}
