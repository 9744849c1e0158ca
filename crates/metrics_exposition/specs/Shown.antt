-- Names and labels of a key's, or that were made.
use Rattle.std.specs.Prelude.{ℕ, List, string_bytes}
use Rattle.metrics_names.specs.Names.{LabelParts}
use Rattle.metrics_exposition.specs.declared.shown.NameText.{NameText}
use Rattle.metrics_exposition.specs.declared.shown.NameText.TheVariants.{Given as GivenName, Made as MadeName}
use Rattle.metrics_exposition.specs.declared.shown.LabelList.{LabelList}
use Rattle.metrics_exposition.specs.declared.shown.LabelList.TheVariants.{Ready as ReadyLabels, Given as GivenLabels, Made as MadeLabels}
use Rattle.metrics_exposition.specs.Labels.{AreReady}

abbrev pub bytes_in : NameText → List ℕ
bytes_in (GivenName key) = key.now.name
bytes_in (MadeName name) = string_bytes name

abbrev pub labels_in : LabelList → List LabelParts
labels_in (ReadyLabels key) = key.now.labels
labels_in (GivenLabels key) = key.now.labels
labels_in (MadeLabels list) = list.value.items

-- labels that are called ready are so
abbrev pub AreKnown : LabelList → Type 0
AreKnown (ReadyLabels key) = AreReady key.now.labels
AreKnown (GivenLabels key) = Unit {0}
AreKnown (MadeLabels list) = Unit {0}
