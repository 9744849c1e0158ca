use Rattle.std.proofs.Common.{sym, ◌∙◌}
use Rattle.metrics_names.specs.Equality.{key_eq-Decides}
use Rattle.tool_state.proofs.body.is_key.Goals as goal

pub returns : goal.returns
returns c = λ h. (key_eq-Decides c.args.a.now c.args.b.now).0 (sym c.eq.ensures ∙ h)
