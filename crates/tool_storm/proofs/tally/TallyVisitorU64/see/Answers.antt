use Rattle.std.proofs.Common.{ℕ, List, arith}
use Rattle.tool_storm.proofs.Chunks.{weigh_one}
use Rattle.tool_storm.proofs.tally.TallyVisitorU64.see.Goals as goal

pub returns-clause-saw : goal.returns-clause-saw
returns-clause-saw c =
    let xs : List ℕ = c.args.part.now in
    let n = weigh_one xs in
    let s = c.added-self.ensures in
    (omega arith, s)
