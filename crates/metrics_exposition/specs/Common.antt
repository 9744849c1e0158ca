-- Which labels all series of a text may have.
use Rattle.std.specs.Prelude.{if◌then◌else◌, ℕ, false, not, List, [], ◌∷◌, ◌++◌, bytes_eq, Option, None, Some}
use Rattle.std.specs.List.{list_any}
use Rattle.std.specs.Option.{option_or}
use Rattle.metrics_names.specs.declared.kind.MetricKind.TheVariants.{Histogram}
use Rattle.metrics_names.specs.Names.{LabelParts}
use Rattle.metrics_exposition.specs.Labels.{is_reserved}
use Rattle.metrics_exposition.specs.Names.{is_name}
use Rattle.metrics_exposition.specs.declared.common.BadLabel.{BadLabel}
use Rattle.metrics_exposition.specs.declared.common.BadLabel.TheVariants.{Name, Reserved, Repeated}

-- why a label of this name can't stand beside these: its name isn't one, or is reserved for a series of some kind, or is there
abbrev pub bad_label : List LabelParts → List ℕ → Option BadLabel
bad_label labels name =
    if not (is_name false name) then Some Name
    else (if is_reserved Histogram name then Some Reserved
    else (if list_any (λ m. bytes_eq m.0 name) labels then Some Repeated else None))

-- why the first of these labels that can't stand beside those before it can't
abbrev pub first_bad_label : List LabelParts → List LabelParts → Option BadLabel
first_bad_label before [] = None
first_bad_label before (l ∷ ls) = option_or (bad_label before l.0) (first_bad_label (before ++ l ∷ []) ls)
