-- What one call of a recorder does and answers after a list of calls.
use Rattle.std.specs.Prelude.{◌≡◌, ℕ, ◌≤◌, List, [], ◌∷◌, map, length, take, true, Option, None, Some, Result, Ok, Err, MatchBool, option_and_then, Bool, false}
use Rattle.std.specs.List.{list_all}
use Rattle.metrics_names.specs.declared.kind.MetricKind.{MetricKind}
use Rattle.metrics_names.specs.declared.common.Unit.{Unit as Measure}
use Rattle.metrics.specs.declared.debugging.Reset.{Reset}
use Rattle.metrics.specs.declared.debugging.Reset.TheVariants.{All}
use Rattle.metrics.specs.declared.handles.Update.{Update}
use Rattle.metrics.specs.declared.handles.Address.{Address}
use Rattle.metrics_names.specs.declared.refused.Refused.{Refused}
use Rattle.metrics_names.specs.declared.refused.Refused.TheVariants.{Memory, NoSuchAddress, BadHandle}
use Rattle.metrics.specs.declared.calls.Call.{Call}
use Rattle.metrics.specs.declared.calls.Answer.{Answer}
use Rattle.metrics_names.specs.Refusals.{IfMemory}
use Rattle.metrics_names.specs.Names.{KeyParts, kind_eq}
use Rattle.metrics.specs.Targets.{after_targets}
use Rattle.metrics.specs.Book.{Content, kind_of, update_in}
use Rattle.metrics.specs.Meaning.{Meaning, Acts, Describes, Registers, Snapshots, TakesMemory, holds_at}
use Rattle.metrics.specs.History.{Log, Registration, registration}

-- what a successful register call returns: its kind and the addresses
abbrev pub Handle : Type 0
Handle = MetricKind × List Address

abbrev pub handle_given : MetricKind → Answer → Option Handle
handle_given kind (Answer.Registered found) = Some (kind, found)
handle_given kind a = None

abbrev pub handle_of : Registration → Option Handle
handle_of r = handle_given r.kind r.answer

-- the handle of a number, if that register call was successful
abbrev pub handle : ℕ → Log → Option Handle
handle n log = option_and_then handle_of (registration n log)

-- the handle that a call names
abbrev pub handle_named : Call → Log → Option Handle
handle_named (Call.Update n u) log = handle n log
handle_named c log = None

-- whether a series of the kind is at each address
abbrev pub holds_all : MetricKind → List Address → List Content → Bool
holds_all kind found cs = list_all (λ a. holds_at kind a cs) found

-- each address is of a series of the kind
abbrev pub AllHeld : MetricKind → List Address → List Content → Type 0
AllHeld kind [] cs = Unit {0}
AllHeld kind (a ∷ rest) cs = (holds_at kind a cs ≡ true) × AllHeld kind rest cs

abbrev pub IsHeld : Option Handle → List Content → Type 0
IsHeld None cs = Unit {0}
IsHeld (Some h) cs = AllHeld h.0 h.1 cs

-- the addresses as books, each with a place there
abbrev pub places : List Address → List (ℕ × ℕ)
places found = map (λ a. (a.book, a.series)) found

abbrev pub DescribesCall : Meaning → Meaning → MetricKind → List ℕ → Option Measure → List ℕ → Answer → Type 0
DescribesCall old new kind name unit text (Answer.Described n) = Describes old new kind name unit text (Ok n)
DescribesCall old new kind name unit text (Answer.Refused e) = Describes old new kind name unit text (Err e)
DescribesCall old new kind name unit text a = ⊥

abbrev pub RegistersCall : Meaning → Meaning → MetricKind → KeyParts → Answer → Type 0
RegistersCall old new kind key (Answer.Registered found) = Registers old new kind key (Ok found)
RegistersCall old new kind key (Answer.Refused e) = Registers old new kind key (Err e)
RegistersCall old new kind key a = ⊥

-- an update of each place in order; only samples may run out of memory
abbrev pub UpdatesAll : Meaning → Meaning → List (ℕ × ℕ) → Update → Result ℕ Refused → Type 0
UpdatesAll old new ts u (Ok n) = Acts (update_in u) ts old new (Ok n) (λ n. n ≡ length ts)
UpdatesAll old new ts u (Err e) = IfMemory e (λ n. TakesMemory u × (n ≤ length ts) × (new.contents ≡ after_targets (update_in u) (take n ts) old.contents))

-- an update of a handle: of all its addresses, if each of them is held, and else of none
abbrev pub UpdatesHandle : Meaning → Meaning → List Address → Update → Result ℕ Refused → Type 0
UpdatesHandle old new found u (Ok n) = (holds_all (kind_of u) found old.contents ≡ true) × UpdatesAll old new (places found) u (Ok n)
UpdatesHandle old new found u (Err (Memory n)) = (holds_all (kind_of u) found old.contents ≡ true) × UpdatesAll old new (places found) u (Err (Memory n))
UpdatesHandle old new found u (Err NoSuchAddress) = (holds_all (kind_of u) found old.contents ≡ false) × (new.contents ≡ old.contents)
UpdatesHandle old new found u (Err e) = ⊥

abbrev pub UpdatesHeld : Meaning → Meaning → List (ℕ × ℕ) → Update → Answer → Type 0
UpdatesHeld old new ts u (Answer.Updated n) = UpdatesAll old new ts u (Ok n)
UpdatesHeld old new ts u (Answer.Refused e) = UpdatesAll old new ts u (Err e)
UpdatesHeld old new ts u a = ⊥

-- a call that is answered as a bad handle changes nothing
abbrev pub IsBadHandle : Meaning → Meaning → Answer → Type 0
IsBadHandle old new a = (a ≡ Answer.Refused BadHandle) × (new.contents ≡ old.contents)

abbrev pub UpdatesCall : Meaning → Meaning → Option Handle → Update → Answer → Type 0
UpdatesCall old new None u a = IsBadHandle old new a
UpdatesCall old new (Some h) u a = MatchBool (kind_eq (kind_of u) h.0) (UpdatesHeld old new (places h.1) u a) (IsBadHandle old new a)

abbrev pub SnapshotsCall : Meaning → Meaning → ℕ → Reset → Answer → Type 0
SnapshotsCall old new b reset (Answer.Snapshot found) = Snapshots old new b reset (Ok found)
SnapshotsCall old new b reset (Answer.Refused e) = Snapshots old new b reset (Err e)
SnapshotsCall old new b reset a = ⊥

-- what one call does and answers, given the handle that it names
abbrev pub Answers : Meaning → Meaning → Option Handle → Call → Answer → Type 0
Answers old new h (Call.Describe kind name unit text) a = DescribesCall old new kind name unit text a
Answers old new h (Call.Register kind key) a = RegistersCall old new kind key a
Answers old new h (Call.Update n u) a = UpdatesCall old new h u a
Answers old new h (Call.Snapshot b) a = SnapshotsCall old new b All a
Answers old new h (Call.SnapshotWith b reset) a = SnapshotsCall old new b reset a
