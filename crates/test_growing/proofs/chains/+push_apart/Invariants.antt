use Rattle.test_growing.proofs.chains.+push_apart.Given as goal

abbrev pub decreases-push_apart : goal.decreases-push_apart
decreases-push_apart g l = l.depth
