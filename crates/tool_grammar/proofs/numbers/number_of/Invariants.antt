-- The digits are those of the number so far, and what is left of them.
use Rattle.std.proofs.Common.{◌≡◌, ◌++◌, drop, decimal}
use Rattle.tool_grammar.proofs.numbers.number_of.Given as goal

abbrev pub invariant-loop-byte : goal.invariant-loop-byte
invariant-loop-byte l = l.digits ≡ decimal l.n ++ drop l.byte-index l.others
