use Rattle.std.proofs.Common.{◌≡◌, ◌∙◌, refl, ap, sym, cond, Some, None, ◌++◌, ◌∷◌, []}
use Rattle.metrics_registry.specs.Held.{held}
use Rattle.std.specs.HashMap.{get}
use Rattle.indexmap.proofs.CallerLemmas.{insert_entry-new}
use Rattle.metrics_registry.proofs.HeldLemmas.{lookup-equal}
use Rattle.metrics_registry.proofs.cells.Cells.create.Goals as goal

pub returns-clause-ok : goal.returns-clause-ok
returns-clause-ok g c =
    let is = c.in_ok-reserve.ensures.entries ∙ c.self.view_is in (
      c.op-answer.new.arg2,
      record { shown = _; shows = refl; left = _; met = c.op-answer.ensures; leaves = refl },
      λ q.
          c.in-Ok.ensures.updates.0 q
          ∙ (ap (λ b. cond b (Some c.op-answer.new.arg2) (held g.K.PartialEq.eq c.reserve.new.self.entries q)) (sym (g.met.K.Eq.laws.congr c.args.key.now c.in_ok-key.key q (g.met.K.EqualClone.clones c.args.key.now c.in_ok-key.key c.in_ok-key.ensures.cases)))
          ∙ ap (λ es. cond (g.K.PartialEq.eq c.args.key.now q) (Some c.op-answer.new.arg2) (held g.K.PartialEq.eq es q)) is),
    )

pub returns-clause-appends : goal.returns-clause-appends
returns-clause-appends g c =
    let eq = g.K.PartialEq.eq in
    let k = c.in_ok-key.key in
    let m = c.reserve.new.self in
    let is = c.in_ok-reserve.ensures.entries ∙ c.self.view_is in
    let equal = g.met.K.EqualClone.clones c.args.key.now k c.in_ok-key.ensures.cases in
    let absent : get eq m k ≡ None =
    ap (λ es. held eq es k) is
    ∙ (sym (lookup-equal (eq c.args.key.now) (eq k) c.args.self.now (λ q. g.met.K.Eq.laws.congr c.args.key.now k q equal)) ∙ c.requires.absent) in (
      k,
      c.op-answer.new.arg2,
      c.in_ok-key.ensures.cases,
      record { shown = _; shows = refl; left = _; met = c.op-answer.ensures; leaves = refl },
      c.in-Ok.ensures.entries ∙ (insert_entry-new eq m k c.op-answer.new.arg2 absent ∙ ap (λ es. es ++ (k, c.op-answer.new.arg2) ∷ []) is),
    )
