use Rattle.tool_storm.proofs.pens.+split_among.Given as goal

abbrev pub decreases-split_among : goal.decreases-split_among
decreases-split_among g l = l.count
