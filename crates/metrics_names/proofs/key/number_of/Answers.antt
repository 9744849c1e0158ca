use Rattle.std.proofs.lemmas.Grind.{common_steps}
use Rattle.std.proofs.Common.{arith}
use Rattle.metrics_names.specs.Hashing.{key_number}
use Rattle.metrics_names.proofs.key.number_of.Goals as goal

pub returns : goal.returns
unfolding key_number
returns c = grind (arith, common_steps)
