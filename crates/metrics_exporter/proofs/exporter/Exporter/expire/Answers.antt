use Rattle.std.proofs.Common.{rules, ◌≡◌, ◌<◌, ◌++◌, ◌∙◌, ℕ, false, List, [], ◌∷◌, length, Result, Err, refl, ap, sym, subst, arith}
use Rattle.std.specs.Prelude.{OnErr}
use Rattle.std.specs.Cmp.{IsTotalOrder}
use Rattle.std.specs.Ordering.{is_eq}
use Rattle.metrics_names.specs.Names.{KeyParts, SeriesKey, key_eq}
use Rattle.metrics_names.specs.contracts.key.CompositeKeyOrd.TheImpl.Laws.{total-law, matches_eq-law}
use Rattle.metrics.specs.declared.error.Error.{Error}
use Rattle.metrics_registry.specs.declared.recency.OwnedRecency.{OwnedRecency}
use Rattle.metrics_registry.specs.RecencyEntries.{rules_of, table_of}
use Rattle.metrics_registry.specs.Idleness.{Answered}
use Rattle.metrics_exporter.specs.declared.exporter.Exporter.{Exporter}
use Rattle.metrics_exporter.specs.Exporting.{Setup, Log, steps, expires, IsExpiry}
use Rattle.metrics_exporter.specs.Kept.{held_cells, IsAfter}
use Rattle.metrics_exporter.specs.Stepping.{cells_without, AreChecked}
use Rattle.metrics_exporter.proofs.ExpiryLemmas.{expired, refused, unwatched, none-held, err-result}
use Rattle.metrics_exporter.proofs.KeptLemmas.{keeps-same}
use Rattle.metrics_exporter.proofs.exporter.Exporter.expire.Goals as goal

pub returns-then-held-eq0-clause-expired : goal.returns-then-held-eq0-clause-expired
returns-then-held-eq0-clause-expired c =
    let a = c.args.self.now in
    let order = c.key_order.ensures.order in
    let counted = c.held_number-held.ensures in
    let none : c.held_number-held.result ≡ 0 = search rules in
    expired (subst IsTotalOrder (λ i x y. order x y i) total-law) (λ x y. sym (c.key_order.ensures.equality x y) ∙ matches_eq-law x y ∙ ap is_eq (order x y)) c.args.now a a [] counted.0 0 counted.1 refl
    (none-held (rules_of a.recency) c.args.now (held_cells a) (table_of key_eq a.recency) counted.0 counted.1 (omega (arith, none, counted.2))) (refl, refl) refl (λ s. refl)

pub returns-then-not-has_timeout-clause-expired : goal.returns-then-not-has_timeout-clause-expired
returns-then-not-has_timeout-clause-expired c =
    let a = c.args.self.now in
    let order = c.key_order.ensures.order in
    let counted = c.held_number-held.ensures in
    let off : c.has_timeout.result ≡ false = search rules in
    expired (subst IsTotalOrder (λ i x y. order x y i) total-law) (λ x y. sym (c.key_order.ensures.equality x y) ∙ matches_eq-law x y ∙ ap is_eq (order x y)) c.args.now a a [] counted.0 0 counted.1 refl
    (unwatched (rules_of a.recency) c.args.now (held_cells a) (table_of key_eq a.recency) (sym c.has_timeout.ensures ∙ off)) (refl, refl) refl (λ s. refl)

pub returns-in_err-idle-clause-expired : goal.returns-in_err-idle-clause-expired
returns-in_err-idle-clause-expired c =
    let a = c.args.self.now in
    let f : Exporter = record { alloc = a.alloc; registry = a.registry; recency = c.check_all.new.recency; descriptions = a.descriptions } in
    let order = c.key_order.ensures.order in
    let counted = c.held_number-held.ensures in
    let some : 0 < c.held_number-held.result = search (rules, arith) in
    let failed = c.in_err-idle.ensures in
    let P : Result ℕ Error → Type 0 = λ r. (setup : Setup) (log : Log) → IsAfter setup log a →
    (checks : List (Answered KeyParts)) × IsExpiry setup (steps log) c.args.now checks r × IsAfter setup (log ++ expires c.args.now checks r ∷ []) f in
    subst P (sym (err-result c.from_residual.result c.in_err-idle.field-0.0 c.from_residual.ensures.1 ∙ ap Err failed.err.0))
    (refused (subst IsTotalOrder (λ i x y. order x y i) total-law) (λ x y. sym (c.key_order.ensures.equality x y) ∙ matches_eq-law x y ∙ ap is_eq (order x y)) c.args.now a f counted.0 counted.1
    (omega (arith, some, counted.2)) refl failed.rules failed.err.1)

pub returns-clause-expired : goal.returns-clause-expired
returns-clause-expired c =
    let a = c.args.self.now in
    let f = c.remove_all.new.self in
    let order = c.key_order.ensures.order in
    let counted = c.held_number-held.ensures in
    let removed = c.remove_all.ensures in
    let idle = c.in_ok-idle.idle.items in
    let number : c.len.result ≡ length idle = omega (arith, c.len.ensures, c.in_ok-idle.idle.ok.0) in
    let P : OwnedRecency KeyParts → Type 0 = λ e. AreChecked (rules_of a.recency) c.args.now (held_cells a) (table_of key_eq a.recency) (table_of key_eq e) idle in
    expired (subst IsTotalOrder (λ i x y. order x y i) total-law) (λ x y. sym (c.key_order.ensures.equality x y) ∙ matches_eq-law x y ∙ ap is_eq (order x y)) c.args.now a f idle counted.0 c.len.result counted.1 number
    (subst P (sym removed.rest.0) c.in_ok-idle.ensures.ok) removed.storage (ap rules_of removed.rest.0 ∙ c.in_ok-idle.ensures.rules)
    (λ s. removed.cells s ∙ ap (λ (l : List SeriesKey). cells_without l (held_cells a) s) c.deref.ensures.value)

pub returns-in_err-idle-clause-refused : goal.returns-in_err-idle-clause-refused
returns-in_err-idle-clause-refused c =
    let a = c.args.self.now in
    let f : Exporter = record { alloc = a.alloc; registry = a.registry; recency = c.check_all.new.recency; descriptions = a.descriptions } in
    let failed = c.in_err-idle.ensures in
    let P : Result ℕ Error → Type 0 = λ r. OnErr r ((setup : Setup) (log : Log) → IsAfter setup log a → IsAfter setup log f) in
    subst P (sym (err-result c.from_residual.result c.in_err-idle.field-0.0 c.from_residual.ensures.1 ∙ ap Err failed.err.0))
    (λ setup log kept. keeps-same setup (steps log) a f refl failed.rules (λ kind q. ap (λ n. n kind q) failed.err.1) kept)
