use Rattle.std.proofs.Common.{rules, ◌≡◌, ◌-◌, ℕ, length, ap, arith}
use Rattle.metrics_exposition.specs.Naming.{bare_within}
use Rattle.metrics_exposition.proofs.NamingLemmas.{bare-more, bare-done, bare-end}
use Rattle.metrics_exposition.proofs.naming.bare_name.Goals as goal

pub loop-step-init : goal.loop-step-init
loop-step-init c = (search rules, let none : length c.args.name.now - 0 ≡ length c.args.name.now = omega arith in ap (λ (k : ℕ). bare_within k c.args.unit.now c.args.total.now c.args.name.now) none)

pub loop-step-preserved : goal.loop-step-preserved
loop-step-preserved c = (
  search rules,
  bare-more c.args.unit.now c.args.total.now c.args.name.now c.loop-step.bare.now c.without_end.result.now c.without_end-shorter.result.now c.loop-step._step c.loop-step-test.true c.without_end.ensures c.without_end-shorter.ensures c.loop-step.invariant.1,
)

pub returns-then-shorter-bare : goal.returns-then-shorter-bare
returns-then-shorter-bare c = bare-done c.args.unit.now c.args.total.now c.args.name.now c.loop-step.bare.now c.without_end.result.now c.without_end-shorter.result.now c.loop-step._step c.without_end.ensures c.without_end-shorter.ensures c.if-shorter-bare.true c.loop-step.invariant.1

pub returns : goal.returns
returns c = bare-end c.args.unit.now c.args.total.now c.args.name.now c.loop-step.bare.now c.loop-step._step c.loop-step-test.false c.loop-step.invariant.1
