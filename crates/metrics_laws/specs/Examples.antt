-- Examples of the definitions, with the expected values written out.
use Rattle.std.specs.Prelude.{◌≡◌, ℕ, zero, suc, ◌+◌, Bool, true, false, List, [], ◌∷◌, ◌++◌, map, length, None, Some, ℤ, pos, negsuc, codes}
use Rattle.metrics_names.specs.declared.kind.MetricKind.{MetricKind}
use Rattle.metrics_names.specs.declared.kind.MetricKind.TheVariants.{Counter, Gauge, Histogram}
use Rattle.metrics_names.specs.declared.common.Unit.TheVariants.{Bytes}
use Rattle.metrics.specs.declared.debugging.DebugValue.{DebugValue}
use Rattle.metrics.specs.declared.debugging.Reset.TheVariants.{All, KeepGauges}
use Rattle.metrics.specs.declared.debugging.DebugValue.TheVariants.{Counter as CounterValue, Gauge as GaugeValue, Histogram as HistogramValue}
use Rattle.metrics.specs.declared.handles.Update.TheVariants.{Increment, Absolute, Add, Subtract, Set, Record}
use Rattle.metrics.specs.declared.handles.Address.{Address}
use Rattle.metrics_names.specs.declared.refused.Refused.TheVariants.{Memory, NoSuchBook, BadHandle}
use Rattle.metrics.specs.declared.calls.Call.{Call}
use Rattle.metrics.specs.declared.calls.Answer.{Answer}
use Rattle.metrics_names.specs.Names.{KeyParts}
use Rattle.metrics.specs.Book.{RowParts, new_book, rows, blocks}
use Rattle.metrics.specs.Meaning.{Meaning, one_book}
use Rattle.metrics.specs.Layers.{prefixed, filtered, joined_all, routed}
use Rattle.metrics.specs.History.{Log, reached, content_after, plain_log}

-- ---- words of the examples

-- the answers, with ample memory
abbrev pub answers : Meaning → List Call → List Answer
answers m calls = map (λ e. e.1) (plain_log m.targets (length m.contents) calls)

-- the rows of a book after calls with these answers
abbrev pub rows_after : Meaning → ℕ → Log → List RowParts
rows_after m b log = rows (content_after (reached m.targets b log))

-- a new book alone
abbrev pub book : Meaning
book = one_book new_book

abbrev pub key : List ℕ → List (List ℕ × List ℕ) → KeyParts
key name labels = record { name = name; labels = labels }

abbrev pub at : ℕ → ℕ → Address
at book series = record { book = book; series = series }

-- a row with neither unit nor text
abbrev pub row : MetricKind → List ℕ → List (List ℕ × List ℕ) → DebugValue → RowParts
row kind name labels value = (record { kind = kind; key = key name labels }, None, None, value)

-- the answer of a snapshot with these rows, and for each whether its series was active
abbrev pub taken : List RowParts → List Bool → Answer
taken rows marks = Answer.Snapshot (record { rows = rows; active = marks })

-- the numbers from a on, n of them
abbrev pub counting : ℕ → ℕ → List ℤ
counting zero a = []
counting (suc n) a = pos a ∷ counting n (a + 1)

-- ---- two rounds of a counter, two gauges and a histogram

abbrev pub round_labels : List (List ℕ × List ℕ)
round_labels = (codes "counter.key", codes "counter.value") ∷ []

abbrev pub round : List Call
round =
    Call.Register Counter (key (codes "test.counter") round_labels) ∷ Call.Update 0 (Increment 123)
    ∷ Call.Register Gauge (key (codes "test.gauge.incr") []) ∷ Call.Update 1 (Add (pos 456))
    ∷ Call.Register Gauge (key (codes "test.gauge.set") []) ∷ Call.Update 2 (Set (pos 654))
    ∷ Call.Register Histogram (key (codes "test.histogram") []) ∷ Call.Update 3 (Record (pos 789))
    ∷ Call.Snapshot 0 ∷ []

abbrev pub round_answers : List Answer
round_answers =
    Answer.Registered (at 0 0 ∷ []) ∷ Answer.Updated 1
    ∷ Answer.Registered (at 0 1 ∷ []) ∷ Answer.Updated 1
    ∷ Answer.Registered (at 0 2 ∷ []) ∷ Answer.Updated 1
    ∷ Answer.Registered (at 0 3 ∷ []) ∷ Answer.Updated 1
    ∷ taken
    (row Counter (codes "test.counter") round_labels (CounterValue 123)
    ∷ row Gauge (codes "test.gauge.incr") [] (GaugeValue (pos 456))
    ∷ row Gauge (codes "test.gauge.set") [] (GaugeValue (pos 654))
    ∷ row Histogram (codes "test.histogram") [] (HistogramValue (pos 789 ∷ [])) ∷ [])
    (true ∷ true ∷ true ∷ true ∷ []) ∷ []

abbrev pub TwoRounds : Type 0
TwoRounds = answers book (round ++ round) ≡ round_answers ++ round_answers

-- ---- a description keeps its unit, and makes no row alone

abbrev pub DescriptionKeepsUnit : Type 0
DescriptionKeepsUnit =
    answers book (Call.Describe Counter (codes "c") (Some Bytes) (codes "one") ∷ Call.Describe Counter (codes "c") None (codes "two") ∷ Call.Snapshot 0 ∷ Call.Register Counter (key (codes "c") []) ∷ Call.Snapshot 0 ∷ [])
    ≡ Answer.Described 1 ∷ Answer.Described 1 ∷ taken [] [] ∷ Answer.Registered (at 0 0 ∷ [])
    ∷ taken ((record { kind = Counter; key = key (codes "c") [] }, Some Bytes, Some (codes "two"), CounterValue 0) ∷ []) (true ∷ []) ∷ []

-- ---- gauges that a snapshot keeps, and which series were active

-- a gauge, a counter and a histogram; a gauge is described
abbrev pub three_kinds : List Call
three_kinds =
    Call.Describe Gauge (codes "g") (Some Bytes) (codes "size")
    ∷ Call.Register Gauge (key (codes "g") []) ∷ Call.Register Counter (key (codes "c") []) ∷ Call.Register Histogram (key (codes "h") [])
    ∷ Call.Update 0 (Add (pos 5)) ∷ Call.Update 1 (Increment 3) ∷ Call.Update 2 (Record (pos 7)) ∷ []

-- their rows, each with a value and whether it was active
abbrev pub three_rows : ℤ × Bool → ℕ × Bool → List ℤ × Bool → Answer
three_rows gauge counter samples = taken
    ((record { kind = Gauge; key = key (codes "g") [] }, Some Bytes, Some (codes "size"), GaugeValue gauge.0)
    ∷ row Counter (codes "c") [] (CounterValue counter.0) ∷ row Histogram (codes "h") [] (HistogramValue samples.0) ∷ [])
    (gauge.1 ∷ counter.1 ∷ samples.1 ∷ [])

abbrev pub KeptGauges : Type 0
KeptGauges =
    answers book (three_kinds ++ Call.SnapshotWith 0 KeepGauges ∷ Call.Update 0 (Add (pos 2)) ∷ Call.Update 2 (Record (pos 8)) ∷ Call.SnapshotWith 0 KeepGauges
    ∷ Call.Snapshot 0 ∷ Call.Update 1 (Increment 1) ∷ Call.SnapshotWith 0 KeepGauges ∷ Call.SnapshotWith 0 All ∷ Call.SnapshotWith 1 KeepGauges ∷ [])
    ≡ Answer.Described 1 ∷ Answer.Registered (at 0 0 ∷ []) ∷ Answer.Registered (at 0 1 ∷ []) ∷ Answer.Registered (at 0 2 ∷ []) ∷ Answer.Updated 1 ∷ Answer.Updated 1 ∷ Answer.Updated 1
    ∷ three_rows (pos 5, true) (3, true) (pos 7 ∷ [], true) ∷ Answer.Updated 1 ∷ Answer.Updated 1 ∷ three_rows (pos 7, true) (0, false) (pos 8 ∷ [], true)
    ∷ three_rows (pos 7, false) (0, false) ([], false) ∷ Answer.Updated 1 ∷ three_rows (pos 0, false) (1, true) ([], false) ∷ three_rows (pos 0, false) (0, false) ([], false) ∷ Answer.Refused NoSuchBook ∷ []

-- ---- counters wrap, gauges stop

abbrev pub CountersWrap : Type 0
CountersWrap =
    answers book (Call.Register Counter (key (codes "c") []) ∷ Call.Update 0 (Increment 18446744073709551615) ∷ Call.Update 0 (Increment 2) ∷ Call.Snapshot 0 ∷ Call.Update 0 (Absolute 7) ∷ Call.Update 0 (Absolute 5) ∷ Call.Snapshot 0 ∷ [])
    ≡ Answer.Registered (at 0 0 ∷ []) ∷ Answer.Updated 1 ∷ Answer.Updated 1 ∷ taken (row Counter (codes "c") [] (CounterValue 1) ∷ []) (true ∷ []) ∷ Answer.Updated 1 ∷ Answer.Updated 1
    ∷ taken (row Counter (codes "c") [] (CounterValue 7) ∷ []) (true ∷ []) ∷ []

abbrev pub GaugesStop : Type 0
GaugesStop =
    answers book (Call.Register Gauge (key (codes "g") []) ∷ Call.Update 0 (Set (pos 9223372036854775807)) ∷ Call.Update 0 (Add (pos 1)) ∷ Call.Snapshot 0
    ∷ Call.Update 0 (Subtract (pos 1)) ∷ Call.Update 0 (Subtract (negsuc 9223372036854775807)) ∷ Call.Snapshot 0 ∷ [])
    ≡ Answer.Registered (at 0 0 ∷ []) ∷ Answer.Updated 1 ∷ Answer.Updated 1 ∷ taken (row Gauge (codes "g") [] (GaugeValue (pos 9223372036854775807)) ∷ []) (true ∷ []) ∷ Answer.Updated 1 ∷ Answer.Updated 1
    ∷ taken (row Gauge (codes "g") [] (GaugeValue (pos 9223372036854775807)) ∷ []) (true ∷ []) ∷ []

-- ---- samples in bucket order

abbrev pub BlocksOf65 : Type 0
BlocksOf65 = blocks (counting 65 0) ≡ pos 64 ∷ counting 64 0

abbrev pub BlocksOf130 : Type 0
BlocksOf130 = blocks (counting 130 0) ≡ pos 128 ∷ pos 129 ∷ (counting 64 64 ++ counting 64 0)

-- ---- bad handles and book numbers fail

abbrev pub PlainRefusals : Type 0
PlainRefusals =
    answers book (Call.Update 0 (Increment 1) ∷ Call.Register Gauge (key (codes "g") []) ∷ Call.Update 0 (Increment 1) ∷ Call.Update 1 (Add (pos 1)) ∷ Call.Snapshot 1 ∷ [])
    ≡ Answer.Refused BadHandle ∷ Answer.Registered (at 0 0 ∷ []) ∷ Answer.Refused BadHandle ∷ Answer.Refused BadHandle ∷ Answer.Refused NoSuchBook ∷ []

-- ---- prefixes

abbrev pub PrefixInPrefix : Type 0
PrefixInPrefix = (prefixed (codes "b") (prefixed (codes "a") book)).targets Counter (codes "x") ≡ (0, codes "a.b.x") ∷ []

abbrev pub EmptyPrefix : Type 0
EmptyPrefix = (prefixed [] book).targets Counter (codes "x") ≡ (0, codes ".x") ∷ []

-- ---- filters

abbrev pub FilterWithoutPattern : Type 0
FilterWithoutPattern = (filtered false [] book).targets Counter (codes "x") ≡ (0, codes "x") ∷ []

abbrev pub FilterWithEmptyPattern : Type 0
FilterWithEmptyPattern = (filtered false ([] ∷ []) book).targets Counter (codes "x") ≡ []

abbrev pub FilterFolded : Type 0
FilterFolded =
    ((filtered true (codes "OdO" ∷ []) book).targets Counter (codes "a.todo") ≡ [])
    × ((filtered true (codes "OdO" ∷ []) book).targets Counter (codes "a.to") ≡ (0, codes "a.to") ∷ [])
    × ((filtered false (codes "OdO" ∷ []) book).targets Counter (codes "a.todo") ≡ (0, codes "a.todo") ∷ [])
    × ((filtered true ((195 ∷ 137 ∷ []) ∷ []) book).targets Counter (195 ∷ 169 ∷ []) ≡ (0, 195 ∷ 169 ∷ []) ∷ [])

-- ---- routers

-- a default book and two targets; all kinds of `a` go to the first, counters of `ab` to the second
abbrev pub by_length : Meaning
by_length = routed (record { mask = 7; pattern = codes "a"; target = 0 } ∷ record { mask = 1; pattern = codes "ab"; target = 1 } ∷ []) (book ∷ book ∷ book ∷ [])

abbrev pub LongestPatternWins : Type 0
LongestPatternWins =
    (by_length.targets Counter (codes "abc") ≡ (2, codes "abc") ∷ [])
    × (by_length.targets Gauge (codes "abc") ≡ (1, codes "abc") ∷ [])
    × (by_length.targets Counter (codes "b") ≡ (0, codes "b") ∷ [])

-- counters of `foo` go to the first target, and then to the second
abbrev pub replaced : Meaning
replaced = routed (record { mask = 1; pattern = codes "foo"; target = 0 } ∷ record { mask = 1; pattern = codes "foo"; target = 1 } ∷ []) (book ∷ book ∷ book ∷ [])

abbrev pub LaterRouteReplaces : Type 0
LaterRouteReplaces = (replaced.targets Counter (codes "foo.c") ≡ (2, codes "foo.c") ∷ []) × (length replaced.contents ≡ 3)

-- ---- a fanout of three books; the second was out of memory for a sample

abbrev pub three : Meaning
three = joined_all (book ∷ book ∷ book ∷ [])

abbrev pub fanout_log : Log
fanout_log = (Call.Register Histogram (key (codes "h") []), Answer.Registered (at 0 0 ∷ at 1 0 ∷ at 2 0 ∷ [])) ∷ (Call.Update 0 (Record (pos 5)), Answer.Refused (Memory 1)) ∷ []

abbrev pub FanoutStops : Type 0
FanoutStops =
    (rows_after three 0 fanout_log ≡ row Histogram (codes "h") [] (HistogramValue (pos 5 ∷ [])) ∷ [])
    × (rows_after three 1 fanout_log ≡ row Histogram (codes "h") [] (HistogramValue []) ∷ [])
    × (rows_after three 2 fanout_log ≡ row Histogram (codes "h") [] (HistogramValue []) ∷ [])
