use Rattle.std.proofs.Common.{◌<◌, ◌^◌, rules}
use Rattle.tool_trees.proofs.Lines.{too_great}
use Rattle.tool_trees.proofs.words.fanout_line.Goals as goal

pub returns-else-count-le65536 : goal.returns-else-count-le65536
returns-else-count-le65536 c =
    let fits : c.in_ok-count.count < 2 ^ 64 = search rules in
    too_great _ _ fits c.if-count-le65536.false c.in_ok-count.ensures
