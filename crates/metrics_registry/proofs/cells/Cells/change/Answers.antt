use Rattle.std.proofs.Common.{◌∙◌, ◌≡◌, sym, ap, refl, Some, Option, subst}
use Rattle.std.specs.Option.{option_copied_mut, IsSome}
use Rattle.std.specs.Map.{update}
use Rattle.metrics_registry.specs.Held.{held}
use Rattle.metrics_registry.proofs.cells.Cells.change.Goals as goal

pub returns-clause-ok : goal.returns-clause-ok
returns-clause-ok g c =
    let eq = g.K.PartialEq.eq in
    let there : held eq c.self.inside.map.entries c.args.key.now ≡ Some c.in-Some.cell.now = sym c.get_mut.ensures.value ∙ ap option_copied_mut c.in-Some.is in
    let found : held eq c.args.self.now c.args.key.now ≡ Some c.in-Some.cell.now = ap (λ es. held eq es c.args.key.now) (sym c.self.view_is) ∙ there in
    let Is : Option g.row.C.Denot → Type 0 = λ o. IsSome o in (
      c.in-Some.cell.now,
      c.op.new.arg2,
      found,
      record { shown = c.in-Some.cell; shows = refl; left = _; met = c.op.ensures; leaves = refl },
      λ q. (((c.get_mut.follows.holds c.op.new.arg2).3) (subst Is (sym there) refl)).0 q ∙ ap (λ es. update eq (held eq es) c.args.key.now (Some c.op.new.arg2) q) c.self.view_is,
    )
