-- Rows by reference, in their places.
use Rattle.std.specs.Prelude.{if◌then◌else◌, ◌≡◌, ℕ, Bool, true, false, bytes_eq, List, [], ◌∷◌, map}
use Rattle.std.specs.List.{All}
use Rattle.std.specs.Cmp.Lexicographic.{slice_cmp}
use Rattle.std.specs.declared.cmp.Ordering.{Ordering}
use Rattle.std.specs.Ordering.{nat_cmp, on, then_cmp}
use Rattle.metrics_names.specs.Names.{LabelParts}
use Rattle.metrics_prometheus.specs.declared.row.ShownRow.{ShownRow}
use Rattle.metrics_prometheus.specs.declared.rows.Place.{Place}
use Rattle.metrics_prometheus.specs.Exposition.{row_cmp}
use Rattle.metrics_prometheus.specs.Rows.{row_shown}
use Rattle.metrics_prometheus.specs.Heads.{HaveOneHead}
use Rattle.metrics_exposition.specs.Labels.{first_key, first_value}
use Rattle.metrics_exposition.specs.Heads.{sample_head}

-- the rows that stand there
abbrev pub rows_placed : List Place → List ShownRow
rows_placed places = map (λ p. p.row.now) places

-- the texts of places decide, and then their rows
abbrev pub place_cmp : Place → Place → Ordering
place_cmp = then_cmp (on (λ p. p.value.now) (slice_cmp nat_cmp)) (on (λ p. row_shown p.row.now) row_cmp)

-- the text of a row's place: the value of its first label, beside rows that are alike
abbrev pub value_placed : Bool → ShownRow → List ℕ
value_placed alike r = if alike then first_value r.labels else []

abbrev pub IsPlaced : Bool → Place → Type 0
IsPlaced alike p = p.value.now ≡ value_placed alike p.row.now

-- labels of both lists come first, with one key
abbrev pub are_led : List LabelParts → List LabelParts → Bool
are_led [] ms = false
are_led (l ∷ ls) [] = false
are_led (l ∷ ls) (m ∷ ms) = bytes_eq l.0 m.0

-- a row has the first label's key of these labels
abbrev pub IsLed : List LabelParts → ShownRow → Type 0
IsLed labels r = are_led labels r.labels ≡ true

-- rows of one first label's key
abbrev pub AreLed : List ShownRow → Type 0
AreLed rows = (labels : List LabelParts) × All (IsLed labels) rows

-- rows of one head and one first label's key
abbrev pub AreAlike : List ShownRow → Type 0
AreAlike rows = HaveOneHead rows × AreLed rows

-- what the line of a row's sample begins with
abbrev pub line_head : ShownRow → List ℕ
line_head r = sample_head r.head.value.name (first_key r.labels)
