-- The call lines: what each spells.
use Rattle.std.specs.Prelude.{◌≡◌, ◌≢◌, ℕ, ◌<◌, ◌^◌, List, [], ◌∷◌, ◌++◌, codes, decimal, IsUtf8, FitsSigned, Option, None, Some}
use Rattle.std.specs.Int.{w64}
use Rattle.std.specs.Fmt.{signed_decimal}
use Rattle.metrics_names.specs.Names.{kind_word, name_word, label_words}
use Rattle.metrics_names.specs.declared.common.Unit.{Unit as Measure}
use Rattle.metrics_names.specs.declared.common.Unit.TheVariants.{Count, Percent, Seconds, Milliseconds, Microseconds, Nanoseconds, Bytes}
use Rattle.metrics.specs.declared.handles.Update.{Update}
use Rattle.metrics.specs.declared.handles.Update.TheVariants.{Increment, Absolute, Add, Subtract, Set, Record}
use Rattle.metrics.specs.declared.debugging.Reset.TheVariants.{KeepGauges}
use Rattle.metrics.specs.declared.calls.Call.{Call}
use Rattle.metrics.specs.declared.calls.Call.TheVariants as call
use Rattle.tool_grammar.specs.Cuts.{Lacks}

-- ---- words

-- a dash is no unit
abbrev pub unit_word : Option Measure → List ℕ
unit_word None = codes "-"
unit_word (Some Count) = codes "count"
unit_word (Some Percent) = codes "percent"
unit_word (Some Seconds) = codes "seconds"
unit_word (Some Milliseconds) = codes "milliseconds"
unit_word (Some Microseconds) = codes "microseconds"
unit_word (Some Nanoseconds) = codes "nanoseconds"
unit_word (Some Bytes) = codes "bytes"

-- the word of an update, and its amount
abbrev pub update_word : Update → List ℕ
update_word (Increment n) = codes "increment"
update_word (Absolute n) = codes "absolute"
update_word (Add n) = codes "add"
update_word (Subtract n) = codes "sub"
update_word (Set n) = codes "set"
update_word (Record n) = codes "record"

abbrev pub amount_word : Update → List ℕ
amount_word (Increment n) = decimal n
amount_word (Absolute n) = decimal n
amount_word (Add n) = signed_decimal n
amount_word (Subtract n) = signed_decimal n
amount_word (Set n) = signed_decimal n
amount_word (Record n) = signed_decimal n

-- ---- lines

-- the line of a call
abbrev pub spelling : Call → List ℕ
spelling (call.Describe kind name unit text) = codes "describe " ++ (kind_word kind ++ 32 ∷ (name_word name ++ 32 ∷ (unit_word unit ++ 32 ∷ text)))
spelling (call.Register kind key) = codes "register " ++ (kind_word kind ++ 32 ∷ (name_word key.name ++ label_words key.labels))
spelling (call.Update h u) = update_word u ++ 32 ∷ (decimal h ++ 32 ∷ amount_word u)
spelling (call.Snapshot b) = codes "snapshot " ++ decimal b
spelling (call.SnapshotWith b reset) = codes "snapshot " ++ (decimal b ++ codes " keep")

-- a text in one word, save for the dash
abbrev pub IsName : List ℕ → Type 0
IsName name = IsUtf8 name × Lacks 32 name × (name ≢ codes "-")

-- texts in one word, of which the first ends at its equals sign
abbrev pub IsLabel : List ℕ × List ℕ → Type 0
IsLabel l = IsUtf8 l.0 × IsUtf8 l.1 × Lacks 32 l.0 × Lacks 61 l.0 × Lacks 32 l.1

abbrev pub AreLabels : List (List ℕ × List ℕ) → Type 0
AreLabels [] = Unit {0}
AreLabels (l ∷ ls) = IsLabel l × AreLabels ls

-- the amount is a u64 for a counter, and an i64 for a gauge or a sample
abbrev pub IsInRange : Update → Type 0
IsInRange (Increment n) = n < 2 ^ 64
IsInRange (Absolute n) = n < 2 ^ 64
IsInRange (Add n) = FitsSigned w64 n
IsInRange (Subtract n) = FitsSigned w64 n
IsInRange (Set n) = FitsSigned w64 n
IsInRange (Record n) = FitsSigned w64 n

-- the calls that have a line
abbrev pub CanBeSpelled : Call → Type 0
CanBeSpelled (call.Describe kind name unit text) = IsName name × IsUtf8 text
CanBeSpelled (call.Register kind key) = IsName key.name × AreLabels key.labels
CanBeSpelled (call.Update h u) = (h < 2 ^ 64) × IsInRange u
CanBeSpelled (call.Snapshot b) = b < 2 ^ 64
CanBeSpelled (call.SnapshotWith b reset) = (b < 2 ^ 64) × (reset ≡ KeepGauges)

-- the line spells the call
abbrev pub Spells : List ℕ → Call → Type 0
Spells line c = CanBeSpelled c × (line ≡ spelling c)

-- the line spells no call
abbrev pub IsBad : List ℕ → Type 0
IsBad line = (c : Call) → Spells line c → ⊥
