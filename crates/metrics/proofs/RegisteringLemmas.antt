-- A call that describes or registers keeps what the definitions say, and has the expected answer.
use Rattle.std.proofs.Common.{◌≡◌, ℕ, ◌<◌, ◌≤◌, true, false, cond, List, [], ◌∷◌, ◌++◌, length, map, take, Option, refl, ap, sym, ◌∙◌, subst, arith, nat_eq}
use Rattle.std.proofs.lemmas.List.{length-map}
use Rattle.std.proofs.lemmas.Bool.{eqb-true, eq-eqb}
use Rattle.std.proofs.lemmas.Bool.Decides.{nat_tests}
use Rattle.std.proofs.Math.Seq.{take-length}
use Rattle.metrics_names.specs.declared.kind.MetricKind.{MetricKind}
use Rattle.metrics_names.specs.declared.common.Unit.{Unit as Measure}
use Rattle.metrics_names.specs.declared.refused.Refused.TheVariants.{Memory, NoSuchAddress, NoSuchBook, BadHandle}
use Rattle.metrics.specs.declared.calls.Call.{Call}
use Rattle.metrics.specs.declared.calls.Answer.{Answer}
use Rattle.metrics_names.specs.Names.{KeyParts, SeriesKey}
use Rattle.metrics.specs.Targets.{after_targets, change_at, in_book, AllBelow, AreDistinct, IsNot}
use Rattle.metrics.specs.TargetsLaws.{length-change_at}
use Rattle.metrics.specs.Book.{Content, describe_in, register_in, place, content_at}
use Rattle.metrics.specs.Meaning.{Meaning, key_in_book, address_in, addresses}
use Rattle.metrics.specs.History.{Log, Event, describes, registers, reached, series_after, acted, plain_address, IsOrMeets, IsPlain}
use Rattle.metrics.specs.Answering.{DescribesCall, RegistersCall}
use Rattle.metrics.proofs.ContentLemmas.{ReachesAll, run, place-now}
use Rattle.metrics.proofs.StayingLemmas.{AllThere, stays-describe, stays-register, content_at-change_at, content_at-after_targets}
use Rattle.metrics.proofs.AddressLemmas.{LeadsTo, all_there, place-registered}
use Rattle.metrics.proofs.HistoryLemmas.{Kept, kept_then}

-- ---- describe

reaches_describes : (kind : MetricKind) (unit : Option Measure) (text : List ℕ) (es : List Event) (xs : List (List ℕ)) → ReachesAll es (map (describes kind unit text) xs)
reaches_describes kind unit text es [] = tt
reaches_describes kind unit text es (x ∷ xs) = (tt, reaches_describes kind unit text (es ++ describes kind unit text x ∷ []) xs)

pub front_described : (old new : Meaning) (kind : MetricKind) (name : List ℕ) (unit : Option Measure) (text : List ℕ) (a : Answer) → DescribesCall old new kind name unit text a →
    (new.contents ≡ after_targets (describe_in kind unit text) (take (acted a) (old.targets kind name)) old.contents)
    × IsOrMeets (Answer.Described (length (old.targets kind name))) (λ n. n ≤ length (old.targets kind name)) a
front_described old new kind name unit text (Answer.Described n) r =
    (r.1 ∙ ap (λ ts. after_targets (describe_in kind unit text) ts old.contents) (sym (ap (λ k. take k (old.targets kind name)) r.0 ∙ take-length (old.targets kind name))), ap Answer.Described r.0)
front_described old new kind name unit text (Answer.Refused (Memory n)) r = (r.1, r.0)
front_described old new kind name unit text (Answer.Refused NoSuchAddress) r = absurd r
front_described old new kind name unit text (Answer.Refused NoSuchBook) r = absurd r
front_described old new kind name unit text (Answer.Refused BadHandle) r = absurd r
front_described old new kind name unit text (Answer.Registered found) r = absurd r
front_described old new kind name unit text (Answer.Updated n) r = absurd r
front_described old new kind name unit text (Answer.Snapshot found) r = absurd r

pub describe_kept : {New : Type 0} (old new : Meaning) (log : Log) (kind : MetricKind) (name : List ℕ) (unit : Option Measure) (text : List ℕ) (a : Answer) →
    Kept New old.targets log old.contents → DescribesCall old new kind name unit text a →
    Kept New old.targets (log ++ (Call.Describe kind name unit text, a) ∷ []) new.contents × (New → IsPlain old.targets (length old.contents) log (Call.Describe kind name unit text) a)
describe_kept {New = New} old new log kind name unit text a h r =
    let front = front_described old new kind name unit text a r in (
      subst (λ cs. Kept New old.targets (log ++ (Call.Describe kind name unit text, a) ∷ []) cs) (sym front.0)
          (kept_then old.targets log (Call.Describe kind name unit text, a) old.contents (describes kind unit text) (take (acted a) (old.targets kind name)) old.below (λ b. refl)
          (λ n b lt. reaches_describes kind unit text (reached old.targets b log) (in_book b (take (acted a) (old.targets kind name))))
          (stays-describe kind unit text) h tt),
      λ n. front.1,
    )

-- ---- register

reaches_registers : {X : Type 0} (key : X → SeriesKey) (es : List Event) (xs : List X) → ReachesAll es (map (λ x. registers (key x)) xs)
reaches_registers key es [] = tt
reaches_registers key es (x ∷ xs) = (tt, reaches_registers key (es ++ registers (key x) ∷ []) xs)

register_with : {New : Type 0} (old new : Meaning) (log : Log) (kind : MetricKind) (key : KeyParts) (a : Answer) (ts : List (ℕ × List ℕ)) →
    ts ≡ take (acted a) (old.targets kind key.name) → new.contents ≡ after_targets (λ n. register_in (key_in_book kind key.labels n)) ts old.contents →
    LeadsTo old.targets new.contents kind key a → Kept New old.targets log old.contents →
    Kept New old.targets (log ++ (Call.Register kind key, a) ∷ []) new.contents
register_with {New = New} old new log kind key a ts e c own h =
    subst (λ cs. Kept New old.targets (log ++ (Call.Register kind key, a) ∷ []) cs) (sym c)
    (kept_then old.targets log (Call.Register kind key, a) old.contents (λ n. registers (key_in_book kind key.labels n)) ts old.below
    (λ b. ap (λ us. map (λ n. registers (key_in_book kind key.labels n)) (in_book b us)) (sym e))
    (λ n b lt. reaches_registers (key_in_book kind key.labels) (reached old.targets b log) (in_book b ts))
    (stays-register (key_in_book kind key.labels)) h (subst (λ cs. LeadsTo old.targets cs kind key a) c own, tt))

in_book-none : {X : Type 0} (b : ℕ) (ts : List (ℕ × X)) → IsNot b ts → in_book b ts ≡ []
in_book-none b [] h = refl
in_book-none b (t ∷ ts) h =
    elim (nat_eq t.0 b) as (λ q. nat_eq t.0 b ≡ q → cond q (t.1 ∷ in_book b ts) (in_book b ts) ≡ []) [
      | true ↦ λ e. absurd (h.0 (eqb-true t.0 b e))
      | false ↦ λ e. in_book-none b ts h.1
    ] refl

addresses-other : (kind : MetricKind) (labels : List (List ℕ × List ℕ)) (b : ℕ) (g : Content → Content) (ts : List (ℕ × List ℕ)) (cs : List Content) → AllBelow (length cs) ts → IsNot b ts →
    addresses kind labels ts (change_at b g cs) ≡ addresses kind labels ts cs
addresses-other kind labels b g [] cs below h = refl
addresses-other kind labels b g (t ∷ ts) cs below h =
    let apart : nat_eq b t.0 ≡ false = is_other b t.0 (λ e. h.0 (sym e)) in
    let same : content_at t.0 (change_at b g cs) ≡ content_at t.0 cs = content_at-change_at t.0 b g cs below.0 ∙ ap (λ q. cond q (g (content_at t.0 cs)) (content_at t.0 cs)) apart in
    ap (λ c. record { book = t.0; series = place (key_in_book kind labels t.1) c } ∷ addresses kind labels ts (change_at b g cs)) same
    ∙ ap (λ as'. address_in kind labels cs t ∷ as') (addresses-other kind labels b g ts cs below.1 h.1)
  where
    is_other : (a c : ℕ) → (a ≡ c → ⊥) → nat_eq a c ≡ false
    is_other a c ne = grind (arith, nat_tests)

-- the addresses before the registering are those after it
addresses_after : (kind : MetricKind) (labels : List (List ℕ × List ℕ)) (ts : List (ℕ × List ℕ)) (cs : List Content) → AllBelow (length cs) ts → AreDistinct ts →
    addresses kind labels ts (after_targets (λ n. register_in (key_in_book kind labels n)) ts cs) ≡ addresses kind labels ts cs
addresses_after kind labels [] cs b d = refl
addresses_after kind labels (t ∷ ts) cs b d =
    let f : List ℕ → Content → Content = λ n. register_in (key_in_book kind labels n) in
    let k = key_in_book kind labels t.1 in
    let cs1 = change_at t.0 (f t.1) cs in
    let len : length cs1 ≡ length cs = length-change_at t.0 (f t.1) cs in
    let b1 : AllBelow (length cs1) ts = subst (λ n. AllBelow n ts) (sym len) b.1 in
    let own : content_at t.0 cs1 ≡ f t.1 (content_at t.0 cs) =
    content_at-change_at t.0 t.0 (f t.1) cs b.0 ∙ ap (λ q. cond q (f t.1 (content_at t.0 cs)) (content_at t.0 cs)) (eq-eqb t.0 t.0 refl) in
    let here : place k (content_at t.0 (after_targets f ts cs1)) ≡ place k (content_at t.0 cs) =
    ap (place k) (content_at-after_targets f ts t.0 cs1 (omega (arith, b.0, len)) ∙ ap (λ xs. run f xs (content_at t.0 cs1)) (in_book-none t.0 ts d.0) ∙ own)
    ∙ place-registered k (content_at t.0 cs) in
    ap (λ p. record { book = t.0; series = p } ∷ addresses kind labels ts (after_targets f ts cs1)) here
    ∙ ap (λ as'. address_in kind labels cs t ∷ as')
    (addresses_after kind labels ts cs1 b1 d.1 ∙ addresses-other kind labels t.0 (f t.1) ts cs b.1 d.0)

map_below : {A : Type 0} (f g : ℕ × List ℕ → A) (k : ℕ) (ts : List (ℕ × List ℕ)) → AllBelow k ts → ((t : ℕ × List ℕ) → t.0 < k → f t ≡ g t) → map f ts ≡ map g ts
map_below f g k [] b h = refl
map_below f g k (t ∷ ts) b h = ap (λ x. x ∷ map f ts) (h t b.0) ∙ ap (λ xs. g t ∷ xs) (map_below f g k ts b.1 h)

-- the place of a series in its book is its place in the list of the book's series
plain_addresses : {New : Type 0} (old : Meaning) (log : Log) (kind : MetricKind) (key : KeyParts) → Kept New old.targets log old.contents → New →
    addresses kind key.labels (old.targets kind key.name) old.contents ≡ map (plain_address old.targets log kind key) (old.targets kind key.name)
plain_addresses old log kind key h n =
    map_below (address_in kind key.labels old.contents) (plain_address old.targets log kind key) (length old.contents) (old.targets kind key.name) (old.below kind key.name)
    (λ t lt. ap (λ s. record { book = t.0; series = s })
    (ap (place (key_in_book kind key.labels t.1)) (h.each n t.0 lt)
    ∙ place-now (reached old.targets t.0 log) (key_in_book kind key.labels t.1) (series_after (reached old.targets t.0 log))))

pub register_kept : {New : Type 0} (old new : Meaning) (log : Log) (kind : MetricKind) (key : KeyParts) (a : Answer) →
    Kept New old.targets log old.contents → RegistersCall old new kind key a →
    Kept New old.targets (log ++ (Call.Register kind key, a) ∷ []) new.contents × (New → IsPlain old.targets (length old.contents) log (Call.Register kind key) a)
register_kept old new log kind key (Answer.Registered found) h r =
    let ts = old.targets kind key.name in
    let below = old.below kind key.name in
    let all : ts ≡ take (length found) ts = sym (ap (λ k. take k ts) (ap length r.0 ∙ length-map ts _) ∙ take-length ts) in
    let there : AllThere (key_in_book kind key.labels) ts new.contents = subst (AllThere (key_in_book kind key.labels) ts) (sym r.1) (all_there (key_in_book kind key.labels) ts old.contents below) in
    let own : found ≡ addresses kind key.labels ts new.contents =
    r.0 ∙ sym (addresses_after kind key.labels ts old.contents below (old.distinct kind key.name)) ∙ ap (addresses kind key.labels ts) (sym r.1) in (
      register_with old new log kind key (Answer.Registered found) ts all r.1 (own, there) h,
      λ n. ap Answer.Registered (r.0 ∙ plain_addresses old log kind key h n),
    )
register_kept old new log kind key (Answer.Refused (Memory n)) h r = (register_with old new log kind key (Answer.Refused (Memory n)) _ refl r.1 tt h, λ n. r.0)
register_kept old new log kind key (Answer.Refused NoSuchAddress) h r = absurd r
register_kept old new log kind key (Answer.Refused NoSuchBook) h r = absurd r
register_kept old new log kind key (Answer.Refused BadHandle) h r = absurd r
register_kept old new log kind key (Answer.Described n) h r = absurd r
register_kept old new log kind key (Answer.Updated n) h r = absurd r
register_kept old new log kind key (Answer.Snapshot found) h r = absurd r
