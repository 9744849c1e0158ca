use Rattle.std.proofs.Common.{◌≡◌, ◌∙◌, ap, sym, None, ◌++◌, ◌∷◌, []}
use Rattle.metrics_registry.specs.Held.{held}
use Rattle.std.specs.HashMap.{get}
use Rattle.indexmap.proofs.CallerLemmas.{insert_entry-new}
use Rattle.metrics_registry.proofs.HeldLemmas.{lookup-equal}
use Rattle.metrics_registry.proofs.cells.Cells.insert.Goals as goal

pub returns-clause-ok : goal.returns-clause-ok
returns-clause-ok g c =
    let eq = g.K.PartialEq.eq in
    let k = c.in_ok-key.key in
    let m = c.reserve.new.self in
    let is = c.in_ok-reserve.ensures.entries ∙ c.self.view_is in
    let equal = g.met.K.EqualClone.clones c.args.key.now k c.in_ok-key.ensures.cases in
    let absent : get eq m k ≡ None =
    ap (λ es. held eq es k) is
    ∙ (sym (lookup-equal (eq c.args.key.now) (eq k) c.args.self.now (λ q. g.met.K.Eq.laws.congr c.args.key.now k q equal)) ∙ c.requires) in
    (k, c.in_ok-key.ensures.cases, c.in-Ok.ensures.entries ∙ (insert_entry-new eq m k c.args.cell absent ∙ ap (λ es. es ++ (k, c.args.cell) ∷ []) is))
