-- What kinds and names are shown with, by reference.
use Rattle.std.specs.Prelude.{◌≡◌, ℕ, Bool, true, false, List, [], IfSome, Option, None, Some, option_map}
use Rattle.std.specs.List.{AllByRecursion}
use Rattle.std.specs.Cmp.Lexicographic.{slice_cmp}
use Rattle.std.specs.declared.cmp.Ordering.{Ordering}
use Rattle.std.specs.Ordering.{nat_cmp, on, then_cmp}
use Rattle.metrics_names.specs.declared.kind.MetricKind.{MetricKind}
use Rattle.metrics_names.specs.Names.{kind_number}
use Rattle.metrics_prometheus.specs.declared.row.Head.{Head}
use Rattle.metrics_prometheus.specs.declared.row.ShownRow.{ShownRow}
use Rattle.metrics_prometheus.specs.declared.rows.Known.{Known}
use Rattle.metrics_exposition.specs.Naming.{Display, Shown}

abbrev pub head_shown : Head → Shown
head_shown h = record { name = h.name; help = option_map (λ t. t.now) h.help; places = h.places }

-- heads go by name, then by kind
abbrev pub head_cmp : Head → Head → Ordering
head_cmp = then_cmp (on (λ h. h.name) (slice_cmp nat_cmp)) (on (λ h. kind_number h.kind) nat_cmp)

-- series of the kind and name are shown so
abbrev pub IsHead : Display → MetricKind → List ℕ → Head → Type 0
IsHead display kind name h = (head_shown h ≡ display kind name) × (h.kind ≡ kind)

-- series of that name, and of the head's kind, are shown so
abbrev pub IsKnown : Display → Known → Type 0
IsKnown display k = head_shown k.head.value ≡ display k.head.value.kind k.name.now

-- it is the head of the last row
abbrev pub IsLast : Option Known → Head → Type 0
IsLast None h = ⊥
IsLast (Some k) h = h ≡ k.head.value

-- a row with this head comes after the first of these, and makes it the second: it is the only one only if it was that before
abbrev pub Follows : Option Known → Head → Option Known → Type 0
Follows old h None = ⊥
Follows old h (Some k) = (h ≡ k.head.value) × (k.is_first ≡ true → IfSome old (λ o. (o.is_first ≡ true) × (o.head.value ≡ h)))

abbrev pub is_only : Option Known → Bool
is_only None = false
is_only (Some k) = k.is_first

-- rows have this head
abbrev pub HaveHead : Head → List ShownRow → Type 0
HaveHead h rows = AllByRecursion (λ r. r.head.value ≡ h) rows

abbrev pub HaveOneHead : List ShownRow → Type 0
HaveOneHead rows = (h : Head) × HaveHead h rows

-- rows whose last one has the head, if it is the only one; with none there are no rows
abbrev pub HaveOnly : Option Known → List ShownRow → Type 0
HaveOnly None rows = rows ≡ []
HaveOnly (Some k) rows = k.is_first ≡ true → HaveHead k.head.value rows
