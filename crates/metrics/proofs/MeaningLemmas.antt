-- No call changes the number of books.
use Rattle.std.proofs.Common.{◌≡◌, ℕ, List, length, take, Option, Result, Ok, Err, ap, ◌∙◌}
use Rattle.metrics_names.specs.declared.kind.MetricKind.{MetricKind}
use Rattle.metrics_names.specs.declared.common.Unit.{Unit as Measure}
use Rattle.metrics.specs.declared.debugging.Reset.{Reset}
use Rattle.metrics.specs.declared.handles.Update.{Update}
use Rattle.metrics.specs.declared.handles.Address.{Address}
use Rattle.metrics_names.specs.declared.refused.Refused.{Refused}
use Rattle.metrics_names.specs.declared.refused.Refused.TheVariants.{Memory, NoSuchAddress, NoSuchBook, BadHandle}
use Rattle.metrics_names.specs.Names.{KeyParts}
use Rattle.metrics.specs.TargetsLaws.{length-after_targets, length-change_at}
use Rattle.metrics.specs.Book.{Content, SnapshotParts, describe_in, register_in, update_in, reset_in}
use Rattle.metrics.specs.Meaning.{Meaning, Acts, Describes, Registers, Updates, Snapshots, key_in_book}

pub length-acts : {X A : Type 0} (f : X → Content → Content) (ts : List (ℕ × X)) (old new : Meaning) (r : Result A Refused) (P : A → Type 0) → Acts f ts old new r P → length new.contents ≡ length old.contents
length-acts f ts old new (Ok a) P h = ap length h.1 ∙ length-after_targets f ts old.contents
length-acts f ts old new (Err (Memory n)) P h = ap length h.1 ∙ length-after_targets f (take n ts) old.contents
length-acts f ts old new (Err NoSuchAddress) P h = absurd h
length-acts f ts old new (Err NoSuchBook) P h = absurd h
length-acts f ts old new (Err BadHandle) P h = absurd h

pub length-describes : (old new : Meaning) (kind : MetricKind) (name : List ℕ) (unit : Option Measure) (text : List ℕ) (r : Result ℕ Refused) → Describes old new kind name unit text r → length new.contents ≡ length old.contents
length-describes old new kind name unit text r h = length-acts (describe_in kind unit text) (old.targets kind name) old new r _ h

pub length-registers : (old new : Meaning) (kind : MetricKind) (key : KeyParts) (r : Result (List Address) Refused) → Registers old new kind key r → length new.contents ≡ length old.contents
length-registers old new kind key r h = length-acts (λ name. register_in (key_in_book kind key.labels name)) (old.targets kind key.name) old new r _ h

pub length-updates : {A : Type 0} (old new : Meaning) (at : Address) (by : Update) (r : Result A Refused) → Updates old new at by r → length new.contents ≡ length old.contents
length-updates old new at by (Ok done) h = ap length h.1 ∙ length-change_at at.book (update_in by at.series) old.contents
length-updates old new at by (Err (Memory n)) h = ap length h.3
length-updates old new at by (Err NoSuchAddress) h = ap length h.1
length-updates old new at by (Err NoSuchBook) h = absurd h
length-updates old new at by (Err BadHandle) h = absurd h

pub length-snapshots : (old new : Meaning) (book : ℕ) (reset : Reset) (r : Result SnapshotParts Refused) → Snapshots old new book reset r → length new.contents ≡ length old.contents
length-snapshots old new book reset (Ok found) h = ap length h.2 ∙ length-change_at book (reset_in reset) old.contents
length-snapshots old new book reset (Err (Memory n)) h = ap length h.2
length-snapshots old new book reset (Err NoSuchBook) h = ap length h.1
length-snapshots old new book reset (Err NoSuchAddress) h = absurd h
length-snapshots old new book reset (Err BadHandle) h = absurd h
