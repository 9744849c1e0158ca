use Rattle.std.proofs.Common.{rules, ◌≡◌, ◌∙◌, List, ℕ, length, arith, ap, sym}
use Rattle.std.specs.Borrow.{Bor}
use Rattle.metrics_prometheus.specs.Exposition.{name_reason}
use Rattle.metrics_prometheus.specs.Rows.{names_shown}
use Rattle.metrics_prometheus.proofs.HeldLemmas.{none-long}
use Rattle.metrics_prometheus.proofs.TextLemmas.{none-named}
use Rattle.metrics_prometheus.proofs.reasons.name_reason.Goals as goal

pub returns-then-is_empty : goal.returns-then-is_empty
returns-then-is_empty c =
    let zero : length c.args.histograms.now ≡ 0 = search (rules, arith) in
    none-named c.args.name.now ∙ ap (λ (l : List (Bor (List ℕ))). name_reason (names_shown l) c.args.name.now) (sym (none-long c.args.histograms.now zero))
