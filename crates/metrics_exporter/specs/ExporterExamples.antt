-- A counter, a gauge and a histogram. Counters are removed once they have not changed for longer than 5.
use Rattle.std.specs.Prelude.{if◌then◌else◌, ◌≡◌, ℕ, pos, negsuc, Bool, true, false, List, [], ◌∷◌, ◌++◌, codes, map, Option, None, Some, Ok}
use Rattle.metrics_names.specs.declared.kind.MetricKind.TheVariants.{Counter, Gauge, Histogram}
use Rattle.metrics_names.specs.Names.{KeyParts, SeriesKey, kind_eq, key_eq}
use Rattle.metrics.specs.declared.handles.Update.TheVariants.{Increment, Set, Record}
use Rattle.metrics_registry.specs.Idleness.{Answered, run_answers}
use Rattle.metrics_exporter.specs.Exporting.{Setup, Event, updates, expires, Log, steps, cells_after, check_of_held, checks_in, checks_of, Cell, count, level, samples}

abbrev pub hits : KeyParts
hits = record { name = codes "hits"; labels = (codes "host", codes "a") ∷ [] }

abbrev pub temp : KeyParts
temp = record { name = codes "temp"; labels = [] }

abbrev pub lat : KeyParts
lat = record { name = codes "lat"; labels = [] }

abbrev pub counters_for_five : Setup
counters_for_five = record { bounds = λ unit name. pos 10 ∷ pos 25 ∷ []; rules = record { timeout = Some 5; mask = kind_eq Counter } }

-- the series in composite key order
abbrev pub counted : SeriesKey
counted = record { kind = Counter; key = hits }

abbrev pub others : List SeriesKey
others = record { kind = Gauge; key = temp } ∷ record { kind = Histogram; key = lat } ∷ []

-- the check of a series after these calls, and its result
abbrev pub checked_at : Log → ℕ → Bool → SeriesKey → Answered KeyParts
checked_at log now answer s = record { check = check_of_held (cells_after counters_for_five (steps log)) now s; answer = answer }

-- an expiry of all three series, whose results are true except for the counter's
abbrev pub expiry : Log → ℕ → Bool → Event
expiry log now answer = expires now (checked_at log now answer counted ∷ checked_at log now true (record { kind = Gauge; key = temp }) ∷ checked_at log now true (record { kind = Histogram; key = lat }) ∷ []) (Ok (if answer then 0 else 1))

abbrev pub updated_once : Log
updated_once = updates hits (Increment 2) (Ok tt) ∷ updates temp (Set (negsuc 2)) (Ok tt) ∷ updates lat (Record (pos 12)) (Ok tt) ∷ []

abbrev pub at_ten : Log
at_ten = updated_once ++ expiry updated_once 10 true ∷ []

abbrev pub at_fifteen : Log
at_fifteen = at_ten ++ expiry at_ten 15 true ∷ []

abbrev pub at_sixteen : Log
at_sixteen = at_fifteen ++ expiry at_fifteen 16 false ∷ []

abbrev pub updated_again : Log
updated_again = at_sixteen ++ updates hits (Increment 1) (Ok tt) ∷ []

-- what is kept of the three series
abbrev pub kept : Log → List (Option Cell)
kept log = map (cells_after counters_for_five (steps log)) (counted ∷ others)

abbrev pub others_kept : List (Option Cell)
others_kept = Some (record { reading = level (negsuc 2); generation = 1 }) ∷ Some (record { reading = samples (record { buckets = (pos 10, 0) ∷ (pos 25, 1) ∷ []; count = 1; sum = pos 12 }); generation = 1 }) ∷ []

-- the checks are answered so: only the counter goes, and at 16
abbrev pub AnsweredSo : Type 0
AnsweredSo = run_answers key_eq counters_for_five.rules [] (checks_of (checks_in (steps at_sixteen)))
    ≡ true ∷ true ∷ true ∷ true ∷ true ∷ true ∷ false ∷ true ∷ true ∷ []

abbrev pub KeptAtFifteen : Type 0
KeptAtFifteen = kept at_fifteen ≡ Some (record { reading = count 2; generation = 1 }) ∷ others_kept

abbrev pub GoneAtSixteen : Type 0
GoneAtSixteen = kept at_sixteen ≡ None ∷ others_kept

-- the counter begins again at its new update
abbrev pub BeginsAgain : Type 0
BeginsAgain = kept updated_again ≡ Some (record { reading = count 1; generation = 1 }) ∷ others_kept
