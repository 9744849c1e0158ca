-- What a list of calls with their answers means: filters over the whole list.
use Rattle.std.specs.Prelude.{if◌then◌else◌, ◌≡◌, ℕ, ◌<◌, ◌≤◌, Bool, true, false, ◌&&◌, List, [], ◌∷◌, ◌++◌, map, length, take, Option, None, Some, nat_eq, nat_lt, bytes_eq, slice_get}
use Rattle.std.specs.List.{list_any, filter_map, position_or_len}
use Rattle.metrics_names.specs.declared.kind.MetricKind.{MetricKind}
use Rattle.metrics_names.specs.declared.common.Unit.{Unit as Measure}
use Rattle.metrics.specs.declared.debugging.Reset.{Reset}
use Rattle.metrics.specs.declared.debugging.Reset.TheVariants.{All}
use Rattle.metrics.specs.declared.handles.Update.{Update}
use Rattle.metrics.specs.declared.handles.Address.{Address}
use Rattle.metrics_names.specs.declared.refused.Refused.TheVariants.{Memory, NoSuchAddress, NoSuchBook, BadHandle}
use Rattle.metrics.specs.declared.calls.Call.{Call}
use Rattle.metrics.specs.declared.calls.Answer.{Answer}
use Rattle.metrics_names.specs.Names.{KeyParts, SeriesKey, kind_eq, series_key_eq}
use Rattle.metrics.specs.Targets.{in_book}
use Rattle.metrics.specs.Book.{Content, Series, Description, kind_of, new_value, value_from, snapshot_of, resets}
use Rattle.metrics.specs.Rows.{last}
use Rattle.metrics.specs.Meaning.{Targets, key_in_book, TakesMemory}

-- the calls with their answers, in order, one answer for each call
abbrev pub Log : Type 0
Log = List (Call × Answer)

-- on how many targets a call has acted, by its answer
abbrev pub acted : Answer → ℕ
acted (Answer.Described n) = n
acted (Answer.Registered found) = length found
acted (Answer.Updated n) = n
acted (Answer.Refused (Memory n)) = n
acted a = 0

-- ---- the register calls, by their numbers

-- a register call: its kind, its key and its answer
pub record Registration : Type 0 where
  pub kind : MetricKind
  pub key : KeyParts
  pub answer : Answer

-- a register call with its answer, if this is one
abbrev pub registration_of : Call × Answer → Option Registration
registration_of (Call.Register kind key, a) = Some (record { kind = kind; key = key; answer = a })
registration_of e = None

-- the register call of a number; the failed ones count too
abbrev pub registration : ℕ → Log → Option Registration
registration n log = slice_get (filter_map registration_of log) n

-- ---- what reached a book

-- what a call means in a book that it reached. `describes kind unit text name`: the last two are the bytes of text and name
pub data Event : Type 0 where
  describes : MetricKind → Option Measure → List ℕ → List ℕ → Event
  registers : SeriesKey → Event
  updates : SeriesKey → Update → Event
  snapshots : Reset → Event

-- the names of a call's targets in one book, among the targets that it acted on
abbrev pub names_in_book : ℕ → Answer → List (ℕ × List ℕ) → List (List ℕ)
names_in_book b a ts = in_book b (take (acted a) ts)

-- an update reaches the series of its own kind, with the labels of the register call that it names
abbrev pub updates_by : Targets → ℕ → Update → Answer → Option Registration → List Event
updates_by targets b u a None = []
updates_by targets b u a (Some r) = map (λ n. updates (key_in_book (kind_of u) r.key.labels n) u) (names_in_book b a (targets r.kind r.key.name))

-- a snapshot that succeeded; one that failed is no event, so it reset nothing, also no mark of activity
abbrev pub snapshots_by : Reset → Answer → List Event
snapshots_by reset (Answer.Snapshot found) = snapshots reset ∷ []
snapshots_by reset a = []

-- the events of one call in a book: one for each of its targets there, among those that it acted on
abbrev pub reached_by : Targets → Log → ℕ → Call × Answer → List Event
reached_by targets before b (Call.Describe kind name unit text, a) = map (describes kind unit text) (names_in_book b a (targets kind name))
reached_by targets before b (Call.Register kind key, a) = map (λ n. registers (key_in_book kind key.labels n)) (names_in_book b a (targets kind key.name))
reached_by targets before b (Call.Update n u, a) = updates_by targets b u a (registration n before)
reached_by targets before b (Call.Snapshot k, a) = if nat_eq k b then snapshots_by All a else []
reached_by targets before b (Call.SnapshotWith k reset, a) = if nat_eq k b then snapshots_by reset a else []

-- what reached a book by the calls of this log, after those before it
abbrev pub reached_from : Targets → Log → ℕ → Log → List Event
reached_from targets before b [] = []
reached_from targets before b (e ∷ log) = reached_by targets before b e ++ reached_from targets (before ++ e ∷ []) b log

-- all that reached a book, in order
abbrev pub reached : Targets → ℕ → Log → List Event
reached targets b log = reached_from targets [] b log

-- ---- the series of a book

-- the key that an event registers, if it does
abbrev pub key_of : Event → Option SeriesKey
key_of (registers k) = Some k
key_of e = None

-- the keys without those that are there earlier
abbrev pub firsts_from : List SeriesKey → List SeriesKey → List SeriesKey
firsts_from seen [] = []
firsts_from seen (k ∷ ks) = if list_any (series_key_eq k) seen then firsts_from seen ks else k ∷ firsts_from (seen ++ k ∷ []) ks

-- the composite keys that were registered there, later doubles dropped
abbrev pub series_after : List Event → List SeriesKey
series_after events = firsts_from [] (filter_map key_of events)

-- ---- the description of a name

-- what an event says of a name of a kind, if it describes it
abbrev pub description_of : MetricKind → List ℕ → Event → Option (Option Measure × List ℕ)
description_of kind name (describes k unit text n) = if kind_eq k kind && bytes_eq n name then Some (unit, text) else None
description_of kind name e = None

-- the text of the last describe call of that kind and name, and the last unit among those of them that had one
abbrev pub description : List Event → MetricKind → List ℕ → Description
description events kind name =
    let ds = filter_map (description_of kind name) events in
    record { unit = last (filter_map (λ d. d.0) ds); text = last (map (λ d. d.1) ds) }

-- ---- the updates since the last successful snapshot that reset their kind

-- whether an event is a snapshot that reset the series of a kind
abbrev pub is_reset_of : MetricKind → Event → Bool
is_reset_of kind (snapshots reset) = resets reset kind
is_reset_of kind e = false

-- the events after the last one of some sort; all of them if there is none
abbrev pub after_last : (Event → Bool) → List Event → List Event
after_last sort [] = []
after_last sort (e ∷ events) = if list_any sort events then after_last sort events else if sort e then events else e ∷ events

-- the events after the last successful snapshot that reset a kind; all of them if there is none
abbrev pub after_snapshot : MetricKind → List Event → List Event
after_snapshot kind events = after_last (is_reset_of kind) events

-- the update that an event makes to a series, if it does
abbrev pub update_of : SeriesKey → Event → Option Update
update_of s (updates k u) = if series_key_eq k s then Some u else None
update_of s e = None

-- the updates of a series after the book's last successful snapshot that reset its kind
abbrev pub since : List Event → SeriesKey → List Update
since events s = filter_map (update_of s) (after_snapshot s.kind events)

-- ---- the activity since the last successful snapshot

-- whether an event is a snapshot
abbrev pub is_snapshot : Event → Bool
is_snapshot (snapshots reset) = true
is_snapshot e = false

-- whether an event is a registration or an update of a series
abbrev pub touches : SeriesKey → Event → Bool
touches s (registers k) = series_key_eq k s
touches s (updates k u) = series_key_eq k s
touches s e = false

-- whether a series was registered or updated after the book's last successful snapshot
abbrev pub was_active : List Event → SeriesKey → Bool
was_active events s = list_any (touches s) (after_last is_snapshot events)

-- ---- contents and expected answers

-- a series with the value of its updates since the last successful snapshot that reset its kind
abbrev pub series_now : List Event → SeriesKey → Series
series_now events k = record { key = k; value = value_from (new_value k.kind) (since events k) }

-- the content of a book after all that reached it
abbrev pub content_after : List Event → Content
content_after events = record {
  series = map (series_now events) (series_after events);
  active = map (was_active events) (series_after events);
  described = description events;
}

-- the address of a name's series in a target: the book, and the place in the list of its series. A new series comes at its end
abbrev pub plain_address : Targets → Log → MetricKind → KeyParts → ℕ × List ℕ → Address
plain_address targets before kind key t =
    record { book = t.0; series = position_or_len (series_key_eq (key_in_book kind key.labels t.1)) (series_after (reached targets t.0 before)) }

-- whether a register call succeeded
abbrev pub is_registered : Answer → Bool
is_registered (Answer.Registered found) = true
is_registered a = false

-- an earlier successful register call of the update's kind
abbrev pub is_handle : Update → Registration → Bool
is_handle u r = is_registered r.answer && kind_eq (kind_of u) r.kind

-- an update by a number that is no handle of its kind is rejected; another acts on all targets of that register call
abbrev pub plain_update : Targets → Update → Option Registration → Answer
plain_update targets u None = Answer.Refused BadHandle
plain_update targets u (Some r) = if is_handle u r then Answer.Updated (length (targets r.kind r.key.name)) else Answer.Refused BadHandle

-- a snapshot of a book shows what reached it; a number that isn't below the number of books is rejected
abbrev pub plain_snapshot : Targets → ℕ → Log → ℕ → Answer
plain_snapshot targets books before b = if nat_lt b books then Answer.Snapshot (snapshot_of (content_after (reached targets b before))) else Answer.Refused NoSuchBook

-- the expected answer of a call after these calls, of a recorder with this many books
abbrev pub plain_answer : Targets → ℕ → Log → Call → Answer
plain_answer targets books before (Call.Describe kind name unit text) = Answer.Described (length (targets kind name))
plain_answer targets books before (Call.Register kind key) = Answer.Registered (map (plain_address targets before kind key) (targets kind key.name))
plain_answer targets books before (Call.Update n u) = plain_update targets u (registration n before)
plain_answer targets books before (Call.Snapshot b) = plain_snapshot targets books before b
plain_answer targets books before (Call.SnapshotWith b reset) = plain_snapshot targets books before b

-- an update may run out of memory only if its number is a handle, and it records a sample
abbrev pub UpdateMayMeet : Targets → Update → ℕ → Option Registration → Type 0
UpdateMayMeet targets u n None = ⊥
UpdateMayMeet targets u n (Some r) = (is_handle u r ≡ true) × TakesMemory u × (n ≤ length (targets r.kind r.key.name))

-- a call may run out of memory after the first n of its targets, if its expected answer is no error; n may be all of them, where
-- the list of addresses can't grow. Updates of counters and gauges never do. A snapshot that does has reset nothing
abbrev pub MayMeetMemory : Targets → ℕ → Log → Call → ℕ → Type 0
MayMeetMemory targets books before (Call.Describe kind name unit text) n = n ≤ length (targets kind name)
MayMeetMemory targets books before (Call.Register kind key) n = n ≤ length (targets kind key.name)
MayMeetMemory targets books before (Call.Update m u) n = UpdateMayMeet targets u n (registration m before)
MayMeetMemory targets books before (Call.Snapshot b) n = (b < books) × (n ≡ 0)
MayMeetMemory targets books before (Call.SnapshotWith b reset) n = (b < books) × (n ≡ 0)

-- this answer, or out of memory where that may happen. No expected answer is NoSuchAddress, so none is answered
abbrev pub IsOrMeets : Answer → (ℕ → Type 0) → Answer → Type 0
IsOrMeets plain MayMeet (Answer.Refused (Memory n)) = MayMeet n
IsOrMeets plain MayMeet (Answer.Refused NoSuchAddress) = Answer.Refused NoSuchAddress ≡ plain
IsOrMeets plain MayMeet (Answer.Refused NoSuchBook) = Answer.Refused NoSuchBook ≡ plain
IsOrMeets plain MayMeet (Answer.Refused BadHandle) = Answer.Refused BadHandle ≡ plain
IsOrMeets plain MayMeet (Answer.Described n) = Answer.Described n ≡ plain
IsOrMeets plain MayMeet (Answer.Registered found) = Answer.Registered found ≡ plain
IsOrMeets plain MayMeet (Answer.Updated n) = Answer.Updated n ≡ plain
IsOrMeets plain MayMeet (Answer.Snapshot found) = Answer.Snapshot found ≡ plain

-- the expected answer, or out of memory where that may happen
abbrev pub IsPlain : Targets → ℕ → Log → Call → Answer → Type 0
IsPlain targets books before c a = IsOrMeets (plain_answer targets books before c) (MayMeetMemory targets books before c) a

-- each answer of this log is the expected one after the calls before it, or out of memory where that may happen
abbrev pub ArePlainFrom : Targets → ℕ → Log → Log → Type 0
ArePlainFrom targets books before [] = Unit {0}
ArePlainFrom targets books before (e ∷ log) = IsPlain targets books before e.0 e.1 × ArePlainFrom targets books (before ++ e ∷ []) log

-- each answer is the expected one after the calls before it, or out of memory where that may happen
abbrev pub ArePlain : Targets → ℕ → Log → Type 0
ArePlain targets books log = ArePlainFrom targets books [] log

-- ---- all answers, with ample memory

-- the calls before, and then these with their expected answers
abbrev pub plain_log_from : Targets → ℕ → Log → List Call → Log
plain_log_from targets books before [] = before
plain_log_from targets books before (c ∷ calls) = plain_log_from targets books (before ++ (c, plain_answer targets books before c) ∷ []) calls

-- the calls with their expected answers
abbrev pub plain_log : Targets → ℕ → List Call → Log
plain_log targets books calls = plain_log_from targets books [] calls
