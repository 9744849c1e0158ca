use Rattle.std.proofs.Common.{arith}
use Rattle.std.specs.Prelude.{pos}
use Rattle.std.proofs.lemmas.Int.{ints, to_z-of_z}
use Rattle.tool_state.proofs.RunLemmas.{sum-more}
use Rattle.tool_state.proofs.totals.sum_all.Goals as goal

pub loop-times-preserved : goal.loop-times-preserved
loop-times-preserved c =
    let more = sum-more c.args.runs.now c.loop-times.times-index (0, pos 0) c.loop-times-test.true in
    grind (arith, ints, to_z-of_z, more)
