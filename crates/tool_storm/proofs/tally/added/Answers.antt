use Rattle.std.proofs.Common.{rules, ◌<◌, length, ℕ, List, arith}
use Rattle.tool_storm.proofs.Chunks.{weigh_more}
use Rattle.tool_storm.proofs.tally.added.Goals as goal

pub loop-value-preserved : goal.loop-value-preserved
loop-value-preserved c =
    let xs : List ℕ = c.args.part.now in
    let was = c.loop-value.invariant in
    let low : c.loop-value.value-index < length xs = search rules in
    let more = weigh_more (λ (x : ℕ). x) xs c.loop-value.value-index low in
    omega arith
