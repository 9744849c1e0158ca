use Rattle.tool_prometheus.proofs.commands.serve.Goals as goal

pub returns-then-skips_bad : goal.returns-then-skips_bad
returns-then-skips_bad g c = rw c.if-skips_bad.true c.prometheus.ensures

pub returns-else-skips_bad : goal.returns-else-skips_bad
returns-else-skips_bad g c = rw c.if-skips_bad.false c.prometheus-else-skips_bad.ensures
