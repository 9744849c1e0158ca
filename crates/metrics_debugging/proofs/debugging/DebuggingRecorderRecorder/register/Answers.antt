use Rattle.std.proofs.Common.{rules, ◌≡◌, ℕ, List, Bool, cond, ap, sym, ◌∙◌, ◌++◌, ◌∷◌, [], lit≤, length}
use Rattle.std.proofs.lemmas.List.{length-map}
use Rattle.std.specs.Result.{IfErr}
use Rattle.std.proofs.lemmas.Result.{IfErr-weaker}
use Rattle.metrics_names.specs.declared.refused.Refused.TheVariants.{Memory}
use Rattle.metrics.specs.declared.handles.Address.{Address}
use Rattle.metrics.specs.Book.{Content}
use Rattle.metrics_debugging.specs.declared.debugging.series.SeriesList.{SeriesList}
use Rattle.metrics_descriptions.specs.Legends.{described_by}
use Rattle.metrics_debugging.specs.DebuggingSeries.{series_key, series_at, is_active}
use Rattle.metrics_debugging.specs.DebuggingOrder.{series_of, activity_of}
use Rattle.metrics_debugging.proofs.SeriesLemmas.{register_there, register_new, held-some, held-none}
use Rattle.metrics_debugging.proofs.debugging.DebuggingRecorderRecorder.register.Goals as goal

as_long : (l : SeriesList) → length (series_of l) ≡ length (activity_of l)
as_long l = length-map l.series.items (series_at l.numbers) ∙ sym (length-map l.series.items is_active)

pub returns-in_default-with_capacity-clause-registers : goal.returns-in_default-with_capacity-clause-registers
returns-in_default-with_capacity-clause-registers c =
    let l = c.args.self.now.series in
    let r = register_there (series_of l) (activity_of l) (described_by c.args.self.now.descriptions) (series_key c.args.kind c.args.key.now) (as_long l) (series_of c.touch.new.self) (activity_of c.touch.new.self)
    c.in-Some.series (sym c.in-Some.ensures) c.touch.ensures.series c.touch.ensures.active in
    (lit≤ tt, ap (λ (x : Content). x ∷ []) r.1)

pub returns-clause-registers : goal.returns-clause-registers
returns-clause-registers c =
    let l = c.args.self.now.series in
    let r = register_there (series_of l) (activity_of l) (described_by c.args.self.now.descriptions) (series_key c.args.kind c.args.key.now) (as_long l) (series_of c.touch.new.self) (activity_of c.touch.new.self)
    c.in-Some.series (sym c.in-Some.ensures) c.touch.ensures.series c.touch.ensures.active in
    let address : ℕ → List Address = λ s. record { book = 0; series = s } ∷ [] in
    (c.push_reserved-2.ensures.items ∙ ap (λ as'. as' ++ address c.in-Some.series) (c.in-Ok.ensures {u = tt}).items ∙ ap address r.0, ap (λ (x : Content). x ∷ []) r.1)

pub returns-in_default-clause-registers : goal.returns-in_default-clause-registers
returns-in_default-clause-registers c =
    let l = c.args.self.now.series in
    let r = register_new (series_of l) (activity_of l) (described_by c.args.self.now.descriptions) (series_key c.args.kind c.args.key.now) (as_long l) (series_of c.add.new.self) (activity_of c.add.new.self)
    (sym c.in_default.ensures) c.in_ok-series.ensures.ok c.in_ok-series.ensures.active in
    let address : ℕ → List Address = λ s. record { book = 0; series = s } ∷ [] in (
      c.push_reserved.ensures.items ∙ ap (λ as'. as' ++ address c.in_ok-series.series) (c.in_ok-found.ensures {u = tt}).items
          ∙ ap address (c.in_ok-series.ensures.number ∙ r.0),
      ap (λ (x : Content). x ∷ []) r.1,
    )

pub returns-in_default-with_capacity-clause-acted : goal.returns-in_default-with_capacity-clause-acted
returns-in_default-with_capacity-clause-acted c =
    ap (λ (held : Bool). Memory (cond held 1 0)) (sym (held-some (series_key c.args.kind c.args.key.now) (series_of c.args.self.now.series) c.in-Some.series (sym c.in-Some.ensures)))

pub returns-in_err-found-clause-acted : goal.returns-in_err-found-clause-acted
returns-in_err-found-clause-acted c =
    let none = held-none (series_key c.args.kind c.args.key.now) (series_of c.args.self.now.series) (sym c.in_default.ensures) in
    let told : IfErr c.from_residual.result (λ e. e ≡ Memory 0) = search rules in
    IfErr-weaker c.from_residual.result _ _ (λ e is. is ∙ ap (λ (held : Bool). Memory (cond held 1 0)) (sym none)) told

pub returns-in_err-series-clause-acted : goal.returns-in_err-series-clause-acted
returns-in_err-series-clause-acted c =
    let none = held-none (series_key c.args.kind c.args.key.now) (series_of c.args.self.now.series) (sym c.in_default.ensures) in
    let told : IfErr c.from_residual-in_err-series.result (λ e. e ≡ Memory 0) = search rules in
    IfErr-weaker c.from_residual-in_err-series.result _ _ (λ e is. is ∙ ap (λ (held : Bool). Memory (cond held 1 0)) (sym none)) told
