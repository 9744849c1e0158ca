-- The labels of a series as Prometheus is shown them.
use Rattle.std.specs.Prelude.{if◌then◌else◌, ◌≡◌, ℕ, Bool, true, false, not, ◌&&◌, ◌||◌, List, [], ◌∷◌, codes, nat_eq, bytes_eq, Option, None, Some, is_some}
use Rattle.std.specs.List.{All, AllByRecursion, list_any, starts_with}
use Rattle.std.specs.Str.{IsUtf8}
use Rattle.std.specs.Ordering.{is_lt}
use Rattle.metrics_names.specs.declared.kind.MetricKind.{MetricKind}
use Rattle.metrics_names.specs.declared.kind.MetricKind.TheVariants.{Histogram}
use Rattle.metrics_names.specs.Names.{LabelParts, kind_eq, label_cmp}
use Rattle.metrics_exposition.specs.Names.{label_name, is_name}

-- the labels in order, with one more in its place
abbrev pub placed : LabelParts → List LabelParts → List LabelParts
placed l [] = l ∷ []
placed l (m ∷ ms) = if is_lt (label_cmp l m) then l ∷ m ∷ ms else m ∷ placed l ms

-- a label without a value is to Prometheus no label, and is left out
abbrev pub added : List ℕ → List ℕ → List LabelParts → List LabelParts
added name [] labels = labels
added name (c ∷ value) labels = placed (label_name name, c ∷ value) labels

abbrev pub with_labels : List LabelParts → List LabelParts → List LabelParts
with_labels shown [] = shown
with_labels shown (l ∷ ls) = with_labels (added l.0 l.1 shown) ls

-- the labels in order of their names
abbrev pub shown_labels : List LabelParts → List LabelParts
shown_labels labels = with_labels [] labels

-- a label that stays as it is: its name is allowed, and it has a value
abbrev pub is_whole : LabelParts → Bool
is_whole l = is_name false l.0 && not (bytes_eq l.1 [])

-- two labels have one name
abbrev pub repeats : List LabelParts → Bool
repeats [] = false
repeats (l ∷ ls) = list_any (λ m. bytes_eq m.0 l.0) ls || repeats ls

-- a name that Prometheus reserves for itself: one that begins with two underscores, and the bound of a histogram's bucket
abbrev pub is_reserved : MetricKind → List ℕ → Bool
is_reserved kind name = starts_with nat_eq name (codes "__") || (kind_eq kind Histogram && bytes_eq name (codes "le"))

-- the first of a list's labels that has such a name
abbrev pub reserved_of : MetricKind → List LabelParts → Option (List ℕ)
reserved_of kind [] = None
reserved_of kind (l ∷ ls) = if is_reserved kind l.0 then Some l.0 else reserved_of kind ls

-- labels that a series of the kind can be shown with: no name twice, and none that is reserved
abbrev pub are_fit : MetricKind → List LabelParts → Bool
are_fit kind labels = not (repeats labels) && not (is_some (reserved_of kind labels))

-- the values of labels are UTF-8
abbrev pub AreTexts : List LabelParts → Type 0
AreTexts labels = AllByRecursion (λ l. IsUtf8 l.1) labels

-- a series of any kind is shown with these very labels
abbrev pub AreReady : List LabelParts → Type 0
AreReady labels = (shown_labels labels ≡ labels) × ((kind : MetricKind) → are_fit kind labels ≡ true) × All (λ l. IsUtf8 l.1) labels

-- a name is the one before
abbrev pub is_last : Option (List ℕ) → List ℕ → Bool
is_last None name = false
is_last (Some last) name = bytes_eq name last

-- a label has the name of the one before
abbrev pub follows : Option (List ℕ) → List LabelParts → Bool
follows last [] = false
follows last (l ∷ ls) = is_last last l.0 || follows (Some l.0) ls

abbrev pub first_key : List LabelParts → List ℕ
first_key [] = []
first_key (l ∷ ls) = l.0

abbrev pub first_value : List LabelParts → List ℕ
first_value [] = []
first_value (l ∷ ls) = l.1
