use Rattle.std.proofs.Common.{rules, ◌≡◌, ◌∙◌, refl, ap, sym, cond, Some}
use Rattle.std.specs.Option.{unwrap_or}
use Rattle.std.specs.Map.{update}
use Rattle.indexmap.specs.Entry.{map_with_value}
use Rattle.metrics_registry.specs.Held.{held}
use Rattle.metrics_registry.proofs.HeldLemmas.{lookup-equal}
use Rattle.metrics_registry.proofs.EntryLemmas.{cell_of-or}
use Rattle.metrics_registry.proofs.cells.Cells.change_or_create.Goals as goal

pub op-requires : goal.op-requires
op-requires g c =
    let eq = g.K.PartialEq.eq in
    let k = c.in_ok-key.key in
    let equal = g.met.K.EqualClone.clones c.args.key.now k c.in_ok-key.ensures.cases in
    let found = c.in_ok-self-inside.ensures.value ∙ (sym (lookup-equal (eq c.args.key.now) (eq k) c.self.inside.map.entries (λ q. g.met.K.Eq.laws.congr c.args.key.now k q equal)) ∙ ap (λ es. held eq es c.args.key.now) c.self.view_is) in
    c.requires c.or_insert-cell.result.now (cell_of-or (held eq c.args.self.now c.args.key.now) c.args.cell c.or_insert-cell.result.now (c.or_insert-cell.ensures.value ∙ ap (λ o. unwrap_or o c.args.cell) found)) c.or_insert-cell.result refl

pub returns-clause-ok : goal.returns-clause-ok
returns-clause-ok g c =
    let eq = g.K.PartialEq.eq in
    let k = c.in_ok-key.key in
    let equal = g.met.K.EqualClone.clones c.args.key.now k c.in_ok-key.ensures.cases in
    let found = c.in_ok-self-inside.ensures.value ∙ (sym (lookup-equal (eq c.args.key.now) (eq k) c.self.inside.map.entries (λ q. g.met.K.Eq.laws.congr c.args.key.now k q equal)) ∙ ap (λ es. held eq es c.args.key.now) c.self.view_is) in
    let after = c.op.new.arg2 in
    let sets : (q : g.row.K.Denot) → held eq (map_with_value c.in_ok-self-inside.field-0 after).entries q ≡ update eq (held eq c.args.self.now) c.args.key.now (Some after) q =
    λ q.
    (c.in_ok-self-inside.ensures.update.0 after).0 q
    ∙ (ap (λ b. cond b (Some after) (held eq c.self.inside.map.entries q)) (sym (g.met.K.Eq.laws.congr c.args.key.now k q equal))
    ∙ ap (λ es. cond (eq c.args.key.now q) (Some after) (held eq es q)) c.self.view_is) in (
      c.or_insert-cell.result.now,
      after,
      cell_of-or (held eq c.args.self.now c.args.key.now) c.args.cell c.or_insert-cell.result.now (c.or_insert-cell.ensures.value ∙ ap (λ o. unwrap_or o c.args.cell) found),
      record { shown = c.or_insert-cell.result; shows = refl; left = _; met = c.op.ensures; leaves = refl },
      λ q. search (rules, sets q),
    )
