use Rattle.tool_numbers.proofs.AmountLemmas.{number-one}
use Rattle.tool_numbers.proofs.laws.number_law.Goals as goal

pub returns : goal.returns
returns c = record { one = number-one }
