use Rattle.std.proofs.Common.{◌≡◌, ◌∙◌, Bool, None, Some, ap, subst, sym}
use Rattle.std.specs.Fn.{FnOnceReturnsAtMut}
use Rattle.metrics_registry.specs.Held.{held, Sets}
use Rattle.metrics_shared_registry.proofs.MadeLemmas.{made-same, call-kept, set-removed}
use Rattle.metrics_shared_registry.proofs.shard.MadeCells.remove_if.Goals as goal

pub invariant_of-self-else-leaves : goal.invariant_of-self-else-leaves
invariant_of-self-else-leaves g c =
    made-same g.met.K.Eq.laws g.M.CellKind.makes c.self.inside.cells c.change.new.self c.self.invariant
    (call-kept g.met.K.Eq.laws g.M.CellKind.makes (λ (cell : g.row.M-Cell.Denot) (v : Bool) (left : g.row.M-Cell.Denot). FnOnceReturnsAtMut g.F.FnOnce c.args.f cell v left) c.args.key.now c.in-Ok.leaves c.self.inside.cells c.change.new.self
    (λ cell left k. c.requires.keeps cell left (subst (λ b. FnOnceReturnsAtMut g.F.FnOnce c.args.f cell b left) c.if-leaves.false k)) c.in-Ok.ensures.ok)

pub returns-then-leaves-clause-removed : goal.returns-then-leaves-clause-removed
returns-then-leaves-clause-removed g c is_true =
    let eq = g.K.PartialEq.eq in
    let key = c.args.key.now in
    let calls = c.in-Ok.ensures.ok in
    let was = c.self.view_is in (
      calls.0,
      calls.1,
      c.self.invariant key calls.0 calls.2,
      subst (λ b. FnOnceReturnsAtMut g.F.FnOnce c.args.f calls.0 b calls.1) is_true calls.3,
      ap (λ es. held eq es key) (sym was) ∙ calls.2,
      subst (λ es. Sets eq key None es c.remove.new.self) was (set-removed g.met.K.Eq.laws g.M.CellKind.makes c.self.inside.cells c.change.new.self c.remove.new.self key (Some calls.1) calls.4 c.remove.ensures.removed.0),
    )

pub returns-else-leaves-clause-kept : goal.returns-else-leaves-clause-kept
returns-else-leaves-clause-kept g c is_false q =
    call-kept g.met.K.Eq.laws g.M.CellKind.makes (λ (cell : g.row.M-Cell.Denot) (v : Bool) (left : g.row.M-Cell.Denot). FnOnceReturnsAtMut g.F.FnOnce c.args.f cell v left) c.args.key.now c.in-Ok.leaves c.self.inside.cells c.change.new.self
    (λ cell left k. c.requires.keeps cell left (subst (λ b. FnOnceReturnsAtMut g.F.FnOnce c.args.f cell b left) is_false k)) c.in-Ok.ensures.ok q
    ∙ ap (λ es. held g.K.PartialEq.eq es q) c.self.view_is
