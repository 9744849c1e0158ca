use mathlib.Core.Path.{fun_ext}
use Rattle.metrics_rules.specs.Meanings.{rules_meaning}
use Rattle.metrics_trees.proofs.child.ChildRecorder.update.Goals as goal

pub returns-clause-keeps : goal.returns-clause-keeps
returns-clause-keeps g c = fun_ext (λ kind. fun_ext (λ name. c.update.ensures.stay.same kind ((rules_meaning c.args.self.now.rules).targets kind name)))
