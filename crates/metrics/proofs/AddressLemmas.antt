-- Addresses lead to their series, and an update by addresses is the update by key.
use Rattle.std.proofs.Common.{◌≡◌, ℕ, zero, suc, ◌+◌, ◌<◌, true, false, cond, not, ◌||◌, List, [], ◌∷◌, ◌++◌, length, take, Some, refl, ap, sym, ◌∙◌, subst, arith, nat_eq, slice_get, true≢false}
use Rattle.std.proofs.lemmas.Bool.{or_left, or_right}
use Rattle.std.proofs.lemmas.Bool.{eq-eqb, lt-ltb}
use Rattle.std.proofs.lemmas.List.Folds.{list_any-append}
use Rattle.std.specs.List.{list_any, position_or_len}
use Rattle.std.specs.Option.{option_map}
use Rattle.metrics_names.specs.declared.kind.MetricKind.{MetricKind}
use Rattle.metrics.specs.declared.handles.Update.{Update}
use Rattle.metrics.specs.declared.calls.Answer.{Answer}
use Rattle.metrics_names.specs.Names.{KeyParts, SeriesKey, kind_eq, key_eq, series_key_eq}
use Rattle.metrics.specs.Targets.{after_targets, change_at, in_book, AllBelow}
use Rattle.metrics.specs.TargetsLaws.{length-change_at}
use Rattle.metrics.specs.Book.{Content, Series, new_series, is_of, register_in, update_in, place, content_at}
use Rattle.metrics.specs.Meaning.{Targets, is_kind, key_in_book, addresses}
use Rattle.metrics.specs.History.{Registration, updates}
use Rattle.metrics.specs.Answering.{AllHeld, places}
use Rattle.metrics_names.specs.Equality.{and_left, and_both, key_same}
use Rattle.metrics.proofs.ContentLemmas.{step}
use Rattle.metrics.proofs.StayingLemmas.{content_at-change_at, content_at-after_targets, change_at-same, is_there, Stays, there-run, AllThere, there-after_targets, addresses-after_targets, stays-register, place-changed}

-- the addresses of a successful register call are those of its series, which are there
abbrev pub LeadsTo : Targets → List Content → MetricKind → KeyParts → Answer → Type 0
LeadsTo targets cs kind key (Answer.Registered found) = (found ≡ addresses kind key.labels (targets kind key.name) cs) × AllThere (key_in_book kind key.labels) (targets kind key.name) cs
LeadsTo targets cs kind key (Answer.Described n) = Unit {0}
LeadsTo targets cs kind key (Answer.Updated n) = Unit {0}
LeadsTo targets cs kind key (Answer.Snapshot found) = Unit {0}
LeadsTo targets cs kind key (Answer.Refused e) = Unit {0}

abbrev pub AllLead : Targets → List Content → List Registration → Type 0
AllLead targets cs [] = Unit {0}
AllLead targets cs (r ∷ rs) = LeadsTo targets cs r.kind r.key r.answer × AllLead targets cs rs

abbrev BelowAll : Targets → List Content → Type 0
BelowAll targets cs = (kind : MetricKind) (name : List ℕ) → AllBelow (length cs) (targets kind name)

leads-after_targets : {X : Type 0} (f : X → Content → Content) → Stays f → (us : List (ℕ × X)) (targets : Targets) (cs : List Content) → BelowAll targets cs → (kind : MetricKind) (key : KeyParts) (a : Answer) →
    LeadsTo targets cs kind key a → LeadsTo targets (after_targets f us cs) kind key a
leads-after_targets f s us targets cs below kind key (Answer.Registered found) h = (
  h.0 ∙ sym (addresses-after_targets f s kind key.labels us (targets kind key.name) cs (below kind key.name) h.1),
  there-after_targets f s (key_in_book kind key.labels) us (targets kind key.name) cs (below kind key.name) h.1,
)
leads-after_targets f s us targets cs below kind key (Answer.Described n) h = tt
leads-after_targets f s us targets cs below kind key (Answer.Updated n) h = tt
leads-after_targets f s us targets cs below kind key (Answer.Snapshot found) h = tt
leads-after_targets f s us targets cs below kind key (Answer.Refused e) h = tt

pub all_lead-after_targets : {X : Type 0} (f : X → Content → Content) → Stays f → (us : List (ℕ × X)) (targets : Targets) (cs : List Content) → BelowAll targets cs → (rs : List Registration) →
    AllLead targets cs rs → AllLead targets (after_targets f us cs) rs
all_lead-after_targets f s us targets cs below [] h = tt
all_lead-after_targets f s us targets cs below (r ∷ rs) h = (leads-after_targets f s us targets cs below r.kind r.key r.answer h.0, all_lead-after_targets f s us targets cs below rs h.1)

pub lead-append : (targets : Targets) (cs : List Content) (rs qs : List Registration) → AllLead targets cs rs → AllLead targets cs qs → AllLead targets cs (rs ++ qs)
lead-append targets cs [] qs h g = g
lead-append targets cs (r ∷ rs) qs h g = (h.0, lead-append targets cs rs qs h.1 g)

pub lead-at : (targets : Targets) (cs : List Content) (rs : List Registration) (n : ℕ) (r : Registration) → slice_get rs n ≡ Some r → AllLead targets cs rs → LeadsTo targets cs r.kind r.key r.answer
lead-at targets cs [] n r e h = absurd (cc)
lead-at targets cs (q ∷ rs) zero r e h = let same : q ≡ r = cc in subst (λ (x : Registration). LeadsTo targets cs x.kind x.key x.answer) same h.0
lead-at targets cs (q ∷ rs) (suc n) r e h = lead-at targets cs rs n r e h.1

-- ---- a registered key is there

there_now : (k : SeriesKey) (c : Content) → is_there k (register_in k c) ≡ true
there_now k c =
    elim (list_any (is_of k) c.series) as (λ b. list_any (is_of k) c.series ≡ b → list_any (is_of k) (cond b c.series (c.series ++ new_series k ∷ [])) ≡ true) [
      | true ↦ λ e. e
      | false ↦ λ e. list_any-append (is_of k) c.series (new_series k ∷ []) ∙ or_right (list_any (is_of k) c.series) _ (or_left (series_key_eq k k) false (key_same k))
    ] refl

pub all_there : {X : Type 0} (key : X → SeriesKey) (ts : List (ℕ × X)) (cs : List Content) → AllBelow (length cs) ts → AllThere key ts (after_targets (λ x. register_in (key x)) ts cs)
all_there key [] cs b = tt
all_there {X = X} key (t ∷ ts) cs b =
    let f : X → Content → Content = λ x. register_in (key x) in
    let cs1 = change_at t.0 (f t.1) cs in
    let len : length cs1 ≡ length cs = length-change_at t.0 (f t.1) cs in
    let own : content_at t.0 cs1 ≡ f t.1 (content_at t.0 cs) =
    content_at-change_at t.0 t.0 (f t.1) cs b.0 ∙ ap (λ q. cond q (f t.1 (content_at t.0 cs)) (content_at t.0 cs)) (eq-eqb t.0 t.0 refl) in (
      ap (is_there (key t.1)) (content_at-after_targets f ts t.0 cs1 (omega (arith, b.0, len)))
          ∙ there-run f (stays-register key) (in_book t.0 ts) (content_at t.0 cs1) (key t.1) (ap (is_there (key t.1)) own ∙ there_now (key t.1) (content_at t.0 cs)),
      all_there key ts cs1 (subst (λ n. AllBelow n ts) (sym len) b.1),
    )

-- a key's place after it was registered is its place before, or the end
pub place-registered : (k : SeriesKey) (c : Content) → place k (register_in k c) ≡ place k c
place-registered k c =
    elim (list_any (is_of k) c.series) as (λ b. list_any (is_of k) c.series ≡ b → position_or_len (is_of k) (cond b c.series (c.series ++ new_series k ∷ [])) ≡ place k c) [
      | true ↦ λ e. refl
      | false ↦ λ e. at_end c.series e
    ] refl
  where
    at_end : (xs : List Series) → list_any (is_of k) xs ≡ false → position_or_len (is_of k) (xs ++ new_series k ∷ []) ≡ position_or_len (is_of k) xs
    at_end [] e = ap (λ b. cond (not b) (1 + 0) 0) (key_same k)
    at_end (x ∷ xs) e =
        elim (is_of k x) as (λ b. (b || list_any (is_of k) xs) ≡ false → cond (not b) (1 + position_or_len (is_of k) (xs ++ new_series k ∷ [])) 0 ≡ cond (not b) (1 + position_or_len (is_of k) xs) 0) [
          | true ↦ λ g. absurd (true≢false g)
          | false ↦ λ g. ap (λ n. 1 + n) (at_end xs g)
        ] e

-- ---- held addresses

place_kind : (k : SeriesKey) (xs : List Series) → list_any (is_of k) xs ≡ true → is_kind k.kind (option_map (λ x. x.key.kind) (slice_get xs (position_or_len (is_of k) xs))) ≡ true
place_kind k [] h = absurd (true≢false (sym h))
place_kind k (x ∷ xs) h =
    elim (is_of k x) as (λ b. is_of k x ≡ b → (b || list_any (is_of k) xs) ≡ true →
    is_kind k.kind (option_map (λ (x : Series). x.key.kind) (slice_get (x ∷ xs) (cond (not b) (1 + position_or_len (is_of k) xs) 0))) ≡ true) [
      | true ↦ λ e g. and_left (kind_eq k.kind x.key.kind) (key_eq k.key x.key.key) e
      | false ↦ λ e g.
          let n : 1 + position_or_len (is_of k) xs ≡ suc (position_or_len (is_of k) xs) = omega arith in
          ap (λ i. is_kind k.kind (option_map (λ (x : Series). x.key.kind) (slice_get (x ∷ xs) i))) n ∙ place_kind k xs g
    ] refl h

pub all_held : (kind : MetricKind) (labels : List (List ℕ × List ℕ)) (ts : List (ℕ × List ℕ)) (cs : List Content) → AllBelow (length cs) ts → AllThere (key_in_book kind labels) ts cs → AllHeld kind (addresses kind labels ts cs) cs
all_held kind labels [] cs b h = tt
all_held kind labels (t ∷ ts) cs b h =
    (and_both _ _ (place_kind (key_in_book kind labels t.1) (content_at t.0 cs).series h.0) (lt-ltb t.0 (length cs) b.0), all_held kind labels ts cs b.1 h.1)

-- ---- updates by address are updates by key

pub after_targets-places : (u : Update) (kind : MetricKind) (labels : List (List ℕ × List ℕ)) (was : List Content) (n : ℕ) (ts : List (ℕ × List ℕ)) (cs : List Content) →
    ((k : SeriesKey) (b : ℕ) → b < length cs → place k (content_at b cs) ≡ place k (content_at b was)) → AllBelow (length cs) ts →
    after_targets (update_in u) (take n (places (addresses kind labels ts was))) cs ≡ after_targets (λ name. step (updates (key_in_book kind labels name) u)) (take n ts) cs
after_targets-places u kind labels was zero ts cs same b = refl
after_targets-places u kind labels was (suc n) [] cs same b = refl
after_targets-places u kind labels was (suc n) (t ∷ ts) cs same b =
    let k = key_in_book kind labels t.1 in
    let p = place k (content_at t.0 was) in
    let f : Content → Content = step (updates k u) in
    let one : change_at t.0 (update_in u p) cs ≡ change_at t.0 f cs =
    change_at-same t.0 (update_in u p) f cs (ap (λ i. update_in u i (content_at t.0 cs)) (sym (same k t.0 b.0))) in
    let len : length (change_at t.0 f cs) ≡ length cs = length-change_at t.0 f cs in
    ap (after_targets (update_in u) (take n (places (addresses kind labels ts was)))) one
    ∙ after_targets-places u kind labels was n ts (change_at t.0 f cs)
    (λ q d lt.
    let lt' : d < length cs = omega (arith, lt, len) in
    ap (place q) (content_at-change_at d t.0 f cs lt')
    ∙ elim (nat_eq t.0 d) as (λ r. place q (cond r (f (content_at d cs)) (content_at d cs)) ≡ place q (content_at d cs)) [
      | true ↦ place-changed q u (place k (content_at d cs)) (content_at d cs).series
      | false ↦ refl
    ]
    ∙ same q d lt')
    (subst (λ m. AllBelow m ts) (sym len) b.1)
