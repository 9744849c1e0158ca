use Rattle.std.proofs.Common.{◌≡◌, arith, ap, sym, ◌∙◌}
use Rattle.metrics_names.specs.Hashing.{key_number, numbers_apart}
use Rattle.metrics_names.proofs.key.KeyPartialEq.eq.Goals as goal

pub returns-then-self-other : goal.returns-then-self-other
returns-then-self-other c = numbers_apart _ _ (λ e.
    let same : c.self.inside.number ≡ c.other.inside.number =
    (c.self.invariant ∙ ap key_number c.self.view_is) ∙ (e ∙ sym (c.other.invariant ∙ ap key_number c.other.view_is)) in
    grind (arith, same, c.if-self-other.true))
