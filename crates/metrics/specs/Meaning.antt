-- What a recorder means, and what each of its calls does.
use Rattle.std.specs.Prelude.{◌≡◌, ℕ, ◌<◌, ◌≤◌, List, [], ◌∷◌, length, map, take, Bool, true, false, Option, Some, None, Result, Ok, Err, ◌&&◌, nat_lt}
use Rattle.metrics_names.specs.declared.kind.MetricKind.{MetricKind}
use Rattle.metrics_names.specs.declared.kind.MetricKind.TheVariants.{Histogram}
use Rattle.metrics_names.specs.declared.common.Unit.{Unit as Measure}
use Rattle.metrics.specs.declared.debugging.Reset.{Reset}
use Rattle.metrics.specs.declared.handles.Update.{Update}
use Rattle.metrics.specs.declared.handles.Address.{Address}
use Rattle.metrics_names.specs.declared.refused.Refused.{Refused}
use Rattle.metrics_names.specs.declared.refused.Refused.TheVariants.{Memory, NoSuchAddress, NoSuchBook}
use Rattle.metrics_names.specs.Refusals.{IfMemory}
use Rattle.metrics_names.specs.Names.{KeyParts, SeriesKey, kind_eq}
use Rattle.metrics.specs.Targets.{after_targets, change_at, AllBelow, AreDistinct}
use Rattle.metrics.specs.TargetsLaws.{zero_below_one}
use Rattle.metrics.specs.Book.{Content, SnapshotParts, new_book, reset_in, describe_in, register_in, update_in, place, content_at, kind_at, kind_of, snapshot_of}

-- the targets of each kind and name: where a metric of that name goes, and its name there. A target is the number of a book and the
-- bytes of the name there
abbrev pub Targets : Type 0
Targets = MetricKind → List ℕ → List (ℕ × List ℕ)

-- a recorder: the contents of its books, and the targets of each kind and name. Each target's book is there, and no book has two
pub record Meaning : Type 0 where
  pub contents : List Content
  pub targets : MetricKind → List ℕ → List (ℕ × List ℕ)
  pub below : (kind : MetricKind) (name : List ℕ) → AllBelow (length contents) (targets kind name)
  pub distinct : (kind : MetricKind) (name : List ℕ) → AreDistinct (targets kind name)

-- neither books nor targets
abbrev pub nothing : Meaning
nothing = record { contents = []; targets = λ _ _. []; below = λ _ _. tt; distinct = λ _ _. tt }

-- one book, which has each name as it is
abbrev pub one_book : Content → Meaning
one_book c = record { contents = c ∷ []; targets = λ _ name. (0, name) ∷ []; below = λ _ _. (zero_below_one, tt); distinct = λ _ _. (tt, tt) }

-- each book is new
abbrev pub AreNew : List Content → Type 0
AreNew cs = (b : ℕ) → b < length cs → content_at b cs ≡ new_book

-- ---- what each call does

-- the targets of each name are the same
abbrev pub KeepsTargets : Meaning → Meaning → Type 0
KeepsTargets old new = new.targets ≡ old.targets

-- a call that acts on a list of targets: on all of them, in order, or when out of memory on the first n, which it reports
abbrev pub Acts : {X A : Type 0} → (X → Content → Content) → List (ℕ × X) → Meaning → Meaning → Result A Refused → (A → Type 0) → Type 0
Acts f ts old new (Ok a) P = P a × (new.contents ≡ after_targets f ts old.contents)
Acts f ts old new (Err e) P = IfMemory e (λ acted. (acted ≤ length ts) × (new.contents ≡ after_targets f (take acted ts) old.contents))

-- a describe call acts on the targets of its name, and returns their number
abbrev pub Describes : Meaning → Meaning → MetricKind → List ℕ → Option Measure → List ℕ → Result ℕ Refused → Type 0
Describes old new kind name unit text result =
    Acts (describe_in kind unit text) (old.targets kind name) old new result (λ n. n ≡ length (old.targets kind name))

-- the composite key of a series, by its name in the book
abbrev pub key_in_book : MetricKind → List (List ℕ × List ℕ) → List ℕ → SeriesKey
key_in_book kind labels name = record { kind = kind; key = record { name = name; labels = labels } }

abbrev pub address_in : MetricKind → List (List ℕ × List ℕ) → List Content → ℕ × List ℕ → Address
address_in kind labels cs t = record { book = t.0; series = place (key_in_book kind labels t.1) (content_at t.0 cs) }

-- the address in each target: the place of the series in that book
abbrev pub addresses : MetricKind → List (List ℕ × List ℕ) → List (ℕ × List ℕ) → List Content → List Address
addresses kind labels ts cs = map (address_in kind labels cs) ts

-- a register call acts on the targets of its name, and returns the address in each of them
abbrev pub Registers : Meaning → Meaning → MetricKind → KeyParts → Result (List Address) Refused → Type 0
Registers old new kind key result =
    Acts (λ name. register_in (key_in_book kind key.labels name)) (old.targets kind key.name) old new result
    (λ found. found ≡ addresses kind key.labels (old.targets kind key.name) old.contents)

abbrev pub is_kind : MetricKind → Option MetricKind → Bool
is_kind k None = false
is_kind k (Some j) = kind_eq k j

-- whether a series of the kind is at the address
-- whether a series of a kind is at an address
abbrev pub holds_at : MetricKind → Address → List Content → Bool
holds_at kind at cs = is_kind kind (kind_at at.series (content_at at.book cs)) && nat_lt at.book (length cs)

-- only a histogram's update may allocate
abbrev pub TakesMemory : Update → Type 0
TakesMemory by = kind_of by ≡ Histogram

-- an update changes the series at its address, if one of its kind is there
abbrev pub Updates : {A : Type 0} → Meaning → Meaning → Address → Update → Result A Refused → Type 0
Updates old new at by (Ok done) = (holds_at (kind_of by) at old.contents ≡ true) × (new.contents ≡ change_at at.book (update_in by at.series) old.contents)
Updates old new at by (Err (Memory acted)) = (holds_at (kind_of by) at old.contents ≡ true) × TakesMemory by × (acted ≡ 0) × (new.contents ≡ old.contents)
Updates old new at by (Err NoSuchAddress) = (holds_at (kind_of by) at old.contents ≡ false) × (new.contents ≡ old.contents)
Updates old new at by (Err e) = ⊥

-- a snapshot returns the rows of the book and which of its series were active, and resets its series of the kinds to reset
abbrev pub Snapshots : Meaning → Meaning → ℕ → Reset → Result SnapshotParts Refused → Type 0
Snapshots old new book reset (Ok found) = (book < length old.contents) × (found ≡ snapshot_of (content_at book old.contents)) × (new.contents ≡ change_at book (reset_in reset) old.contents)
Snapshots old new book reset (Err (Memory acted)) = (book < length old.contents) × (acted ≡ 0) × (new.contents ≡ old.contents)
Snapshots old new book reset (Err NoSuchBook) = (length old.contents ≤ book) × (new.contents ≡ old.contents)
Snapshots old new book reset (Err e) = ⊥
