-- Each call keeps what the definitions over the list of calls say, and has the expected answer.
use Rattle.std.proofs.Common.{◌≡◌, ℕ, ◌<◌, ◌≤◌, Bool, true, false, cond, List, [], ◌∷◌, ◌++◌, length, map, take, Option, None, Some, refl, ap, sym, ◌∙◌, subst, arith, nat_eq, nat_lt, MatchBool}
use Rattle.std.proofs.lemmas.Bool.{lt-ltb}
use Rattle.std.proofs.lemmas.Bool.Decides.{nat_tests}
use Rattle.std.specs.List.{filter_map, cons_option}
use Rattle.std.specs.Option.{option_and_then}
use Rattle.metrics_names.specs.declared.kind.MetricKind.{MetricKind}
use Rattle.metrics.specs.declared.debugging.Reset.{Reset}
use Rattle.metrics.specs.declared.debugging.Reset.TheVariants.{All}
use Rattle.metrics.specs.declared.handles.Update.{Update}
use Rattle.metrics_names.specs.declared.refused.Refused.{Refused as Refusal}
use Rattle.metrics_names.specs.declared.refused.Refused.TheVariants.{Memory, NoSuchAddress, NoSuchBook, BadHandle}
use Rattle.metrics.specs.declared.calls.Call.{Call}
use Rattle.metrics.specs.declared.calls.Answer.{Answer}
use Rattle.metrics_names.specs.Names.{KeyParts, kind_eq}
use Rattle.metrics.specs.Targets.{after_targets, in_book}
use Rattle.metrics.specs.TargetsLaws.{length-after_targets, length-change_at}
use Rattle.metrics.specs.Book.{Content, snapshot_of, describe_in, register_in, update_in, reset_in, kind_of}
use Rattle.metrics.specs.Meaning.{Meaning, Targets, AreNew, key_in_book}
use Rattle.metrics.specs.History.{Log, registration_of, registration, Event, snapshots, snapshots_by, reached_by, reached, content_after, acted, plain_snapshot, IsOrMeets, IsPlain}
use Rattle.metrics.specs.Answering.{Handle, handle_given, handle_of, handle, handle_named, AllHeld, IsHeld, places, UpdatesHeld, IsBadHandle, SnapshotsCall, Answers}
use Rattle.metrics.proofs.ContentLemmas.{ReachesAll}
use Rattle.metrics.proofs.StayingLemmas.{stays-reset}
use Rattle.metrics.proofs.AddressLemmas.{AllLead, LeadsTo, lead-at, all_held}
use Rattle.metrics.proofs.HistoryLemmas.{Kept, kept_then, kept_same}
use Rattle.metrics.proofs.RegisteringLemmas.{front_described, describe_kept, register_kept}
use Rattle.metrics.proofs.UpdatingLemmas.{front_updated, update_kept}

-- ---- snapshot

take_bool : (reset : Reset) (q : Bool) → cond q (snapshots reset ∷ []) [] ≡ map (λ (x : Prim.Unit {0}). snapshots reset) (cond q (tt ∷ []) [])
take_bool reset true = refl
take_bool reset false = refl

abbrev no_events : List Event
no_events = []

none_bool : (q : Bool) → cond q no_events no_events ≡ no_events
none_bool true = refl
none_bool false = refl

reaches_snapshots : (reset : Reset) (es : List Event) (xs : List (Prim.Unit {0})) → ReachesAll es (map (λ (x : Prim.Unit {0}). snapshots reset) xs)
reaches_snapshots reset es [] = tt
reaches_snapshots reset es (x ∷ xs) = (tt, reaches_snapshots reset (es ++ snapshots reset ∷ []) xs)

-- what a call is that takes a snapshot of a book
record TakesSnapshot (b : ℕ) (reset : Reset) (c : Call) : Type 0 where
  reaches : (targets : Targets) (before : Log) (k : ℕ) (a : Answer) → reached_by targets before k (c, a) ≡ cond (nat_eq b k) (snapshots_by reset a) []
  quiet : (a : Answer) → registration_of (c, a) ≡ None

no_lead : (old : Meaning) (c : Call) → ((a : Answer) → registration_of (c, a) ≡ None) → (a : Answer) (cs : List Content) → AllLead old.targets cs (filter_map registration_of ((c, a) ∷ []))
no_lead old c quiet a cs = subst (λ o. AllLead old.targets cs (cons_option o [])) (sym (quiet a)) tt

-- a snapshot that fails reaches no book
unseen : {New : Type 0} (old : Meaning) (log : Log) (b : ℕ) (reset : Reset) (c : Call) → TakesSnapshot b reset c → (e : Refusal) →
    Kept New old.targets log old.contents → Kept New old.targets (log ++ (c, Answer.Refused e) ∷ []) old.contents
unseen old log b reset c takes e h =
    kept_same old.targets log (c, Answer.Refused e) old.contents (λ k. takes.reaches old.targets log k (Answer.Refused e) ∙ none_bool (nat_eq b k))
    (no_lead old c takes.quiet (Answer.Refused e) old.contents) h

abbrev SnapshotKept : Type 0 → Meaning → Meaning → Log → ℕ → Call → Answer → Type 0
SnapshotKept New old new log b c a =
    Kept New old.targets (log ++ (c, a) ∷ []) new.contents
    × (New → IsOrMeets (plain_snapshot old.targets (length old.contents) log b) (λ n. (b < length old.contents) × (n ≡ 0)) a)

snapshot_kept : {New : Type 0} (old new : Meaning) (log : Log) (b : ℕ) (reset : Reset) (c : Call) → TakesSnapshot b reset c → (a : Answer) →
    Kept New old.targets log old.contents → SnapshotsCall old new b reset a → SnapshotKept New old new log b c a
snapshot_kept {New = New} old new log b reset c takes (Answer.Snapshot found) h r = (
  subst (λ cs. Kept New old.targets (log ++ (c, Answer.Snapshot found) ∷ []) cs) (sym r.2)
      (kept_then old.targets log (c, Answer.Snapshot found) old.contents (λ (x : Prim.Unit {0}). snapshots reset) ((b, tt) ∷ []) old.below
      (λ k. takes.reaches old.targets log k (Answer.Snapshot found) ∙ take_bool reset (nat_eq b k))
      (λ w k lt. reaches_snapshots reset (reached old.targets k log) (in_book k ((b, tt) ∷ []))) (stays-reset reset) h
      (no_lead old c takes.quiet (Answer.Snapshot found) (after_targets (λ (x : Prim.Unit {0}). reset_in reset) ((b, tt) ∷ []) old.contents))),
  λ w. ap Answer.Snapshot (r.1 ∙ ap snapshot_of (h.each w b r.0)) ∙ ap (λ q. cond q (Answer.Snapshot (snapshot_of (content_after (reached old.targets b log)))) (Answer.Refused NoSuchBook)) (sym (lt-ltb b (length old.contents) r.0)),
)
snapshot_kept {New = New} old new log b reset c takes (Answer.Refused (Memory n)) h r = (
  subst (λ cs. Kept New old.targets (log ++ (c, Answer.Refused (Memory n)) ∷ []) cs) (sym r.2) (unseen old log b reset c takes (Memory n) h),
  λ w. (r.0, r.1),
)
snapshot_kept {New = New} old new log b reset c takes (Answer.Refused NoSuchBook) h r =
    let past : nat_lt b (length old.contents) ≡ false = not_below b (length old.contents) r.0 in (
      subst (λ cs. Kept New old.targets (log ++ (c, Answer.Refused NoSuchBook) ∷ []) cs) (sym r.1) (unseen old log b reset c takes NoSuchBook h),
      λ w. ap (λ q. cond q (Answer.Snapshot (snapshot_of (content_after (reached old.targets b log)))) (Answer.Refused NoSuchBook)) (sym past),
    )
  where
    not_below : (a k : ℕ) → k ≤ a → nat_lt a k ≡ false
    not_below a k le = grind (arith, nat_tests)
snapshot_kept old new log b reset c takes (Answer.Refused NoSuchAddress) h r = absurd r
snapshot_kept old new log b reset c takes (Answer.Refused BadHandle) h r = absurd r
snapshot_kept old new log b reset c takes (Answer.Described n) h r = absurd r
snapshot_kept old new log b reset c takes (Answer.Registered found) h r = absurd r
snapshot_kept old new log b reset c takes (Answer.Updated n) h r = absurd r

takes_all : (b : ℕ) → TakesSnapshot b All (Call.Snapshot b)
takes_all b = record { reaches = λ targets before k a. refl; quiet = λ a. refl }

takes_some : (b : ℕ) (reset : Reset) → TakesSnapshot b reset (Call.SnapshotWith b reset)
takes_some b reset = record { reaches = λ targets before k a. refl; quiet = λ a. refl }

-- ---- each call

-- THE CALL: it keeps what the definitions say, and is answered plainly
pub call_kept : {New : Type 0} (old new : Meaning) (log : Log) (c : Call) (a : Answer) → Kept New old.targets log old.contents → Answers old new (handle_named c log) c a →
    Kept New old.targets (log ++ (c, a) ∷ []) new.contents × (New → IsPlain old.targets (length old.contents) log c a)
call_kept old new log (Call.Describe kind name unit text) a h r = describe_kept old new log kind name unit text a h r
call_kept old new log (Call.Register kind key) a h r = register_kept old new log kind key a h r
call_kept old new log (Call.Update n u) a h r = update_kept old new log n u a h r
call_kept old new log (Call.Snapshot b) a h r = snapshot_kept old new log b All (Call.Snapshot b) (takes_all b) a h r
call_kept old new log (Call.SnapshotWith b reset) a h r = snapshot_kept old new log b reset (Call.SnapshotWith b reset) (takes_some b reset) a h r

length_taken : (old new : Meaning) (b : ℕ) (reset : Reset) (a : Answer) → SnapshotsCall old new b reset a → length new.contents ≡ length old.contents
length_taken old new b reset (Answer.Snapshot found) r = ap length r.2 ∙ length-change_at b (reset_in reset) old.contents
length_taken old new b reset (Answer.Refused (Memory n)) r = ap length r.2
length_taken old new b reset (Answer.Refused NoSuchBook) r = ap length r.1
length_taken old new b reset (Answer.Refused NoSuchAddress) r = absurd r
length_taken old new b reset (Answer.Refused BadHandle) r = absurd r
length_taken old new b reset (Answer.Described n) r = absurd r
length_taken old new b reset (Answer.Registered found) r = absurd r
length_taken old new b reset (Answer.Updated n) r = absurd r

-- no call changes the number of books
pub length_answers : (old new : Meaning) (o : Option Handle) (c : Call) (a : Answer) → Answers old new o c a → length new.contents ≡ length old.contents
length_answers old new o (Call.Describe kind name unit text) a r =
    ap length (front_described old new kind name unit text a r).0 ∙ length-after_targets (describe_in kind unit text) (take (acted a) (old.targets kind name)) old.contents
length_answers old new o (Call.Register kind key) (Answer.Registered found) r = ap length r.1 ∙ length-after_targets (λ n. register_in (key_in_book kind key.labels n)) (old.targets kind key.name) old.contents
length_answers old new o (Call.Register kind key) (Answer.Refused (Memory n)) r = ap length r.1 ∙ length-after_targets (λ m. register_in (key_in_book kind key.labels m)) (take n (old.targets kind key.name)) old.contents
length_answers old new o (Call.Register kind key) (Answer.Refused NoSuchAddress) r = absurd r
length_answers old new o (Call.Register kind key) (Answer.Refused NoSuchBook) r = absurd r
length_answers old new o (Call.Register kind key) (Answer.Refused BadHandle) r = absurd r
length_answers old new o (Call.Register kind key) (Answer.Described n) r = absurd r
length_answers old new o (Call.Register kind key) (Answer.Updated n) r = absurd r
length_answers old new o (Call.Register kind key) (Answer.Snapshot found) r = absurd r
length_answers old new None (Call.Update n u) a r = ap length r.1
length_answers old new (Some k) (Call.Update n u) a r = by_kind (kind_eq (kind_of u) k.0) r
  where
    by_kind : (b : Bool) → MatchBool b (UpdatesHeld old new (places k.1) u a) (IsBadHandle old new a) → length new.contents ≡ length old.contents
    by_kind false r = ap length r.1
    by_kind true r = ap length (front_updated old new (places k.1) u a r).0 ∙ length-after_targets (update_in u) (take (acted a) (places k.1)) old.contents
length_answers old new o (Call.Snapshot b) a r = length_taken old new b All a r
length_answers old new o (Call.SnapshotWith b reset) a r = length_taken old new b reset a r

-- at the start nothing has reached new books
pub kept_none : (targets : Targets) (cs : List Content) → Kept (AreNew cs) targets [] cs
kept_none targets cs = record { each = λ new b lt. new b lt; sound = λ new b lt k e. refl; lead = tt }

-- the handle of a number leads to held addresses
pub handle_held : {New : Type 0} (old : Meaning) (log : Log) (n : ℕ) → Kept New old.targets log old.contents → IsHeld (handle n log) old.contents
handle_held old log n h =
    elim (registration n log) as (λ o. registration n log ≡ o → IsHeld (option_and_then handle_of o) old.contents) [
      | None ↦ λ e. tt
      | Some q ↦ λ e. given q.kind q.key q.answer (lead-at old.targets old.contents (filter_map registration_of log) n q e h.lead)
    ] refl
  where
    given : (kind : MetricKind) (key : KeyParts) (a : Answer) → LeadsTo old.targets old.contents kind key a → IsHeld (handle_given kind a) old.contents
    given kind key (Answer.Registered found) l =
        subst (λ xs. AllHeld kind xs old.contents) (sym l.0) (all_held kind key.labels (old.targets kind key.name) old.contents (old.below kind key.name) l.1)
    given kind key (Answer.Described m) l = tt
    given kind key (Answer.Updated m) l = tt
    given kind key (Answer.Snapshot found) l = tt
    given kind key (Answer.Refused d) l = tt
