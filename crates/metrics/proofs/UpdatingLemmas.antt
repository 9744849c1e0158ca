-- A call that updates keeps what the definitions say, and has the expected answer.
use Rattle.std.proofs.Common.{◌≡◌, ℕ, zero, suc, ◌≤◌, Bool, true, false, cond, List, [], ◌∷◌, ◌++◌, length, map, take, Option, None, Some, refl, ap, sym, ◌∙◌, subst, nat_eq, MatchBool}
use Rattle.std.proofs.lemmas.List.{length-map}
use Rattle.std.proofs.lemmas.Bool.{eqb-true}
use Rattle.std.proofs.Math.Seq.{take-length}
use Rattle.std.specs.List.{list_any, filter_map}
use Rattle.std.specs.Option.{option_and_then}
use Rattle.metrics_names.specs.declared.kind.MetricKind.{MetricKind}
use Rattle.metrics.specs.declared.handles.Update.{Update}
use Rattle.metrics.specs.declared.handles.Address.{Address}
use Rattle.metrics_names.specs.declared.refused.Refused.TheVariants.{Memory, NoSuchAddress, NoSuchBook, BadHandle}
use Rattle.metrics.specs.declared.calls.Call.{Call}
use Rattle.metrics.specs.declared.calls.Answer.{Answer}
use Rattle.metrics_names.specs.Names.{KeyParts, SeriesKey, kind_eq, series_key_eq}
use Rattle.metrics.specs.Targets.{after_targets, in_book}
use Rattle.metrics.specs.Book.{Content, update_in, content_at, kind_of}
use Rattle.metrics.specs.Meaning.{Meaning, TakesMemory, key_in_book, addresses}
use Rattle.metrics.specs.History.{Log, Registration, registration_of, registration, Event, updates, updates_by, reached, series_after, content_after, acted, plain_update, UpdateMayMeet, IsOrMeets, IsPlain}
use Rattle.metrics.specs.Answering.{handle_given, handle_of, handle, places, UpdatesHeld, UpdatesCall, IsBadHandle}
use Rattle.metrics_names.specs.Equality.{kind_eq-Decides}
use Rattle.metrics.proofs.EventsLemmas.{series-other}
use Rattle.metrics.proofs.ContentLemmas.{step, ReachesAll, any-now}
use Rattle.metrics.proofs.StayingLemmas.{AllThere, is_there, stays-update}
use Rattle.metrics.proofs.AddressLemmas.{LeadsTo, lead-at, after_targets-places}
use Rattle.metrics.proofs.HistoryLemmas.{Kept, kept_then, kept_same}

-- each key is among the series
abbrev AllIn : (List ℕ → SeriesKey) → List SeriesKey → List (List ℕ) → Type 0
AllIn key ks [] = Unit {0}
AllIn key ks (x ∷ xs) = (list_any (series_key_eq (key x)) ks ≡ true) × AllIn key ks xs

reaches_updates : (key : List ℕ → SeriesKey) (u : Update) (es : List Event) (xs : List (List ℕ)) → AllIn key (series_after es) xs → ReachesAll es (map (λ x. updates (key x) u) xs)
reaches_updates key u es [] h = tt
reaches_updates key u es (x ∷ xs) h =
    (h.0, reaches_updates key u (es ++ updates (key x) u ∷ []) xs (subst (λ ks. AllIn key ks xs) (sym (series-other es (updates (key x) u) refl)) h.1))

there_in_book : (key : List ℕ → SeriesKey) (es : List Event) (b n : ℕ) (ts : List (ℕ × List ℕ)) (cs : List Content) → content_at b cs ≡ content_after es → AllThere key ts cs →
    AllIn key (series_after es) (in_book b (take n ts))
there_in_book key es b zero ts cs e h = tt
there_in_book key es b (suc n) [] cs e h = tt
there_in_book key es b (suc n) (t ∷ ts) cs e h =
    let more = there_in_book key es b n ts cs e h.1 in
    elim (nat_eq t.0 b) as (λ q. nat_eq t.0 b ≡ q → AllIn key (series_after es) (cond q (t.1 ∷ in_book b (take n ts)) (in_book b (take n ts)))) [
      | true ↦ λ g. (sym (any-now es (key t.1) (series_after es)) ∙ ap (is_there (key t.1)) (sym (ap (λ d. content_at d cs) (eqb-true t.0 b g) ∙ e)) ∙ h.0, more)
      | false ↦ λ g. more
    ] refl

pub front_updated : (old new : Meaning) (ts : List (ℕ × ℕ)) (u : Update) (a : Answer) → UpdatesHeld old new ts u a →
    (new.contents ≡ after_targets (update_in u) (take (acted a) ts) old.contents) × IsOrMeets (Answer.Updated (length ts)) (λ n. TakesMemory u × (n ≤ length ts)) a
front_updated old new ts u (Answer.Updated n) r =
    (r.1 ∙ ap (λ us. after_targets (update_in u) us old.contents) (sym (ap (λ k. take k ts) r.0 ∙ take-length ts)), ap Answer.Updated r.0)
front_updated old new ts u (Answer.Refused (Memory n)) r = (r.2, (r.0, r.1))
front_updated old new ts u (Answer.Refused NoSuchAddress) r = absurd r
front_updated old new ts u (Answer.Refused NoSuchBook) r = absurd r
front_updated old new ts u (Answer.Refused BadHandle) r = absurd r
front_updated old new ts u (Answer.Described n) r = absurd r
front_updated old new ts u (Answer.Registered found) r = absurd r
front_updated old new ts u (Answer.Snapshot found) r = absurd r

-- what is said of the expected answer, at its value
meets-same : (p q : Answer) (P Q : ℕ → Type 0) (a : Answer) → p ≡ q → ((n : ℕ) → P n → Q n) → IsOrMeets p P a → IsOrMeets q Q a
meets-same p q P Q (Answer.Refused (Memory n)) e f h = f n h
meets-same p q P Q (Answer.Refused NoSuchAddress) e f h = h ∙ e
meets-same p q P Q (Answer.Refused NoSuchBook) e f h = h ∙ e
meets-same p q P Q (Answer.Refused BadHandle) e f h = h ∙ e
meets-same p q P Q (Answer.Described n) e f h = h ∙ e
meets-same p q P Q (Answer.Registered found) e f h = h ∙ e
meets-same p q P Q (Answer.Updated n) e f h = h ∙ e
meets-same p q P Q (Answer.Snapshot found) e f h = h ∙ e

bad_plain : (plain a : Answer) (P : ℕ → Type 0) → a ≡ Answer.Refused BadHandle → plain ≡ Answer.Refused BadHandle → IsOrMeets plain P a
bad_plain plain a P e g = subst (IsOrMeets plain P) (sym e) (sym g)

-- the events of an update, by the register call that it names
abbrev UpdateKept : Type 0 → Meaning → Meaning → Log → ℕ → Update → Answer → Option Registration → Type 0
UpdateKept New old new log n u a o =
    Kept New old.targets (log ++ (Call.Update n u, a) ∷ []) new.contents × (New → IsOrMeets (plain_update old.targets u o) (λ m. UpdateMayMeet old.targets u m o) a)

bad_kept : {New : Type 0} (old new : Meaning) (log : Log) (n : ℕ) (u : Update) (a : Answer) (o : Option Registration) → registration n log ≡ o → Kept New old.targets log old.contents → IsBadHandle old new a → plain_update old.targets u o ≡ Answer.Refused BadHandle →
    UpdateKept New old new log n u a o
bad_kept {New = New} old new log n u a o e h r p = (
  subst (λ cs. Kept New old.targets (log ++ (Call.Update n u, a) ∷ []) cs) (sym r.1)
      (kept_same old.targets log (Call.Update n u, a) old.contents (λ b. ap (λ x. updates_by old.targets b u x (registration n log)) r.0 ∙ none b (registration n log)) tt h),
  λ w. bad_plain (plain_update old.targets u o) a (λ m. UpdateMayMeet old.targets u m o) r.0 p,
)
  where
    none : (b : ℕ) (q : Option Registration) → updates_by old.targets b u (Answer.Refused BadHandle) q ≡ []
    none b None = refl
    none b (Some q) = refl

-- a successful register call
abbrev success : MetricKind → KeyParts → List Address → Registration
success kind key found = record { kind = kind; key = key; answer = Answer.Registered found }

given_kept : {New : Type 0} (old new : Meaning) (log : Log) (n : ℕ) (u : Update) (a : Answer) (kind : MetricKind) (key : KeyParts) (given : Answer) →
    registration n log ≡ Some (record { kind = kind; key = key; answer = given }) → Kept New old.targets log old.contents → LeadsTo old.targets old.contents kind key given →
    UpdatesCall old new (handle_given kind given) u a → UpdateKept New old new log n u a (Some (record { kind = kind; key = key; answer = given }))
given_kept {New = New} old new log n u a kind key (Answer.Described m) e h l r = bad_kept old new log n u a _ e h r refl
given_kept {New = New} old new log n u a kind key (Answer.Updated m) e h l r = bad_kept old new log n u a _ e h r refl
given_kept {New = New} old new log n u a kind key (Answer.Snapshot found) e h l r = bad_kept old new log n u a _ e h r refl
given_kept {New = New} old new log n u a kind key (Answer.Refused d) e h l r = bad_kept old new log n u a _ e h r refl
given_kept {New = New} old new log n u a kind key (Answer.Registered found) e h l r = by_kind (kind_eq (kind_of u) kind) refl r
  where
    by_kind : (b : Bool) → kind_eq (kind_of u) kind ≡ b → MatchBool b (UpdatesHeld old new (places found) u a) (IsBadHandle old new a) → UpdateKept New old new log n u a (Some (success kind key found))
    by_kind false k r = bad_kept old new log n u a (Some (success kind key found)) e h r (ap (λ q. cond q (Answer.Updated (length (old.targets kind key.name))) (Answer.Refused BadHandle)) k)
    by_kind true k r =
        let reg = success kind key found in
        let ts = old.targets kind key.name in
        let front = front_updated old new (places found) u a r in
        let same : kind_of u ≡ kind = (kind_eq-Decides (kind_of u) kind).0 k in
        let there_key = key_in_book (kind_of u) key.labels in
        let there : AllThere there_key ts old.contents = subst (λ j. AllThere (key_in_book j key.labels) ts old.contents) (sym same) l.1 in
        let here : found ≡ addresses (kind_of u) key.labels ts old.contents = l.0 ∙ ap (λ j. addresses j key.labels ts old.contents) (sym same) in
        let done : new.contents ≡ after_targets (λ name. step (updates (there_key name) u)) (take (acted a) ts) old.contents =
        front.0 ∙ ap (λ f. after_targets (update_in u) (take (acted a) (places f)) old.contents) here
        ∙ after_targets-places u (kind_of u) key.labels old.contents (acted a) ts old.contents (λ q b lt. refl) (old.below kind key.name) in
        let many : length (places found) ≡ length ts = length-map found _ ∙ ap length l.0 ∙ length-map ts _ in (
          subst (λ cs. Kept New old.targets (log ++ (Call.Update n u, a) ∷ []) cs) (sym done)
              (kept_then old.targets log (Call.Update n u, a) old.contents (λ name. updates (there_key name) u) (take (acted a) ts) old.below
              (λ b. ap (updates_by old.targets b u a) e)
              (λ w b lt. reaches_updates there_key u (reached old.targets b log) (in_book b (take (acted a) ts)) (there_in_book there_key (reached old.targets b log) b (acted a) ts old.contents (h.each w b lt) there))
              (stays-update there_key u) h tt),
          λ w. meets-same (Answer.Updated (length (places found))) (plain_update old.targets u (Some reg)) (λ m. TakesMemory u × (m ≤ length (places found))) (λ m. UpdateMayMeet old.targets u m (Some reg)) a
              (ap Answer.Updated many ∙ ap (λ q. cond q (Answer.Updated (length ts)) (Answer.Refused BadHandle)) (sym k))
              (λ m g. (k, g.0, subst (λ i. m ≤ i) many g.1)) front.1,
        )

pub update_kept : {New : Type 0} (old new : Meaning) (log : Log) (n : ℕ) (u : Update) (a : Answer) → Kept New old.targets log old.contents → UpdatesCall old new (handle n log) u a →
    Kept New old.targets (log ++ (Call.Update n u, a) ∷ []) new.contents × (New → IsPlain old.targets (length old.contents) log (Call.Update n u) a)
update_kept {New = New} old new log n u a h r =
    elim (registration n log) as (λ o. registration n log ≡ o → UpdatesCall old new (option_and_then handle_of o) u a → UpdateKept New old new log n u a o) [
      | None ↦ λ e r. bad_kept old new log n u a None e h r refl
      | Some q ↦ λ e r. given_kept old new log n u a q.kind q.key q.answer e h (lead-at old.targets old.contents (filter_map registration_of log) n q e h.lead) r
    ] refl r
