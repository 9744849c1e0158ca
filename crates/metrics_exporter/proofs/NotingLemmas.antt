-- The checks of one expiry, in whatever order.
use Rattle.std.proofs.Common.{◌≡◌, ℕ, zero, suc, ◌+◌, ◌-◌, ◌<◌, Bool, true, false, cond, not, List, [], ◌∷◌, ◌++◌, map, take, length, get_or, Option, None, Some, refl, ap, sym, ◌∙◌, subst, arith, append_assoc}
use Rattle.std.proofs.lemmas.Bool.Decides.{nat_tests}
use Rattle.std.specs.Prelude.{◌&&◌, ◌||◌, ◌==◌, is_some, nat_lt}
use Rattle.std.specs.List.{AllByRecursion, IsDistinct, filter}
use Rattle.std.specs.Map.{keys_of, lookup}
use Rattle.std.proofs.lemmas.Bool.{false≢true}
use Rattle.std.proofs.lemmas.List.{map-append, take_more}
use Rattle.std.proofs.lemmas.List.Elements.{filter-append}
use Rattle.std.proofs.lemmas.Map.Keys.{IsDistinct-head, IsDistinct-tail}
use Rattle.std.proofs.lemmas.Map.Made.{IsDistinct-keys_filter}
use Rattle.metrics_names.specs.declared.kind.MetricKind.{MetricKind}
use Rattle.metrics_names.specs.declared.kind.MetricKind.TheVariants.{Counter, Gauge, Histogram}
use Rattle.metrics_names.specs.Names.{KeyParts, SeriesKey, key_eq, series_key_eq}
use Rattle.metrics_names.specs.Equality.{key_exact}
use Rattle.metrics_registry.specs.declared.recency.Noted.{Noted}
use Rattle.metrics_registry.specs.declared.recency.OwnedRecency.{OwnedRecency}
use Rattle.metrics_registry.specs.Recency.{Rules, Check, Table, is_late, is_watched, noted_now, watch_step, check_step, glance, rechecked, table_answer, table_after}
use Rattle.metrics_registry.specs.RecencyEntries.{rules_of, table_of}
use Rattle.metrics_exporter.specs.declared.expiring.Found.{Found}
use Rattle.metrics_exporter.specs.declared.series.SeriesRef.{SeriesRef}
use Rattle.metrics_exporter.specs.Exporting.{Cell, Cells, count, level, samples, check_of_held}
use Rattle.metrics_exporter.specs.Gathering.{series_at, seen_in, seen_by, all_seen, all_shown, Shard, Seen, walk_of}
use Rattle.metrics_exporter.specs.Stepping.{is_among, check_seen, is_idle, is_new, Change, table_with, table_with_all, Rechecks, noted_if_kept, notes_without, AreFound, AreUnnoted, AreChecked}
use Rattle.metrics_exporter.proofs.SortedLemmas.{flips}
use Rattle.metrics_exporter.proofs.WalkLemmas.{walk-next}
use Rattle.metrics_exporter.proofs.SeenLemmas.{firsts-shown}

-- ---- one after another

pub with-append : (change : Change) (now : ℕ) (xs ys : List Seen) (table : Table KeyParts) → table_with_all change now (xs ++ ys) table ≡ table_with_all change now ys (table_with_all change now xs table)
with-append change now [] ys table = refl
with-append change now (x ∷ xs) ys table = with-append change now xs ys (table_with change now x table)

pub seen-more : {A B : Type 0} (f : B → Seen) (d : A → B) (xs : List A) (a : A) → map f (map d (xs ++ a ∷ [])) ≡ map f (map d xs) ++ f (d a) ∷ []
seen-more f d xs a = ap (map f) (map-append d xs (a ∷ [])) ∙ map-append f (map d xs) (d a ∷ [])

pub rechecks-more : (now : ℕ) (xs ys : List Seen) (a b c : OwnedRecency KeyParts) → Rechecks now xs a b → Rechecks now ys b c → Rechecks now (xs ++ ys) a c
rechecks-more now xs ys a b c (rules, first) (rules', second) = (
  rules' ∙ rules,
  second ∙ ap (λ q. table_with_all (rechecked q) now ys (table_of key_eq b)) rules ∙ ap (table_with_all (rechecked (rules_of a)) now ys) first
      ∙ sym (with-append (rechecked (rules_of a)) now xs ys (table_of key_eq a)),
)

-- one more shard
pub rechecks-next : (now : ℕ) (shards : List Shard) (i : ℕ) (s : Shard) (a b c d e : OwnedRecency KeyParts) → i < length shards → s ≡ get_or shards i s
    → Rechecks now (walk_of (take i shards)) a b → Rechecks now (seen_in Counter count s.counters) b c → Rechecks now (seen_in Gauge level s.gauges) c d → Rechecks now (seen_in Histogram samples s.histograms) d e
    → Rechecks now (walk_of (take (i + 1) shards)) a e
rechecks-next now shards i s a b c d e small at before first second third =
    let cs = seen_in Counter count s.counters in
    let gs = seen_in Gauge level s.gauges in
    let w = walk_of (take i shards) in
    let P : List Seen → Type 0 = λ l. Rechecks now l a e in
    subst P (walk-next shards i s small at)
    (rechecks-more now (w ++ cs ++ gs) (seen_in Histogram samples s.histograms) a d e (rechecks-more now (w ++ cs) gs a c d (rechecks-more now w cs a b c before first) second) third)

pub found-next : (rules : Rules) (now : ℕ) (table : Table KeyParts) (shards : List Shard) (i : ℕ) (s : Shard) (a b c d : Found) → i < length shards → s ≡ get_or shards i s
    → AreFound rules now table (walk_of (take i shards)) a
    → ((w : List Seen) → AreFound rules now table w a → AreFound rules now table (w ++ seen_in Counter count s.counters) b)
    → ((w : List Seen) → AreFound rules now table w b → AreFound rules now table (w ++ seen_in Gauge level s.gauges) c)
    → ((w : List Seen) → AreFound rules now table w c → AreFound rules now table (w ++ seen_in Histogram samples s.histograms) d)
    → AreFound rules now table (walk_of (take (i + 1) shards)) d
found-next rules now table shards i s a b c d small at before first second third =
    let cs = seen_in Counter count s.counters in
    let gs = seen_in Gauge level s.gauges in
    let w = walk_of (take i shards) in
    let P : List Seen → Type 0 = λ l. AreFound rules now table l d in
    subst P (walk-next shards i s small at) (third (w ++ cs ++ gs) (second (w ++ cs) (first w before)))

-- what a glance says of the answer
abbrev pub stays_by : Option Bool → Bool
stays_by None = true
stays_by (Some stays) = stays

answer-by : (rules : Rules) (c : Check KeyParts) (note : Option Noted) → (check_step rules c note).0 ≡ stays_by (glance rules c note)
answer-by rules c note = go (is_watched rules c.kind) note
  where
    go : (w : Bool) (o : Option Noted) → (cond w (watch_step rules.timeout (noted_now c) c.held o) (true, o)).0
        ≡ stays_by (cond (w && not (is_some o)) None (Some (cond w (watch_step rules.timeout (noted_now c) c.held o) (true, o)).0))
    go true None = refl
    go false None = refl
    go true (Some n) = refl
    go false (Some n) = refl

-- one more entry of a walk; only if it is idle or new it is added
pub found-more : {A B : Type 0} (f : B → Seen) (d : A → B) (ys : List A) (a : A) (rules : Rules) (now : ℕ) (table : Table KeyParts) (w : List Seen) (old new : Found) (seen : Option Bool)
    → AreFound rules now table (w ++ map f (map d ys)) old → glance rules (check_seen now (f (d a))) (table (f (d a)).0.kind (f (d a)).0.key) ≡ seen
    → new.idle.items ≡ old.idle.items ++ cond (not (stays_by seen)) ((f (d a)).0 ∷ []) [] → all_seen new.unnoted.items ≡ all_seen old.unnoted.items ++ cond (not (is_some seen)) (f (d a) ∷ []) []
    → AreFound rules now table (w ++ map f (map d (ys ++ a ∷ []))) new
found-more f d ys a rules now table w old new seen was peeked idle unnoted =
    let x = f (d a) in
    let v = w ++ map f (map d ys) in
    let p = is_idle rules now table in
    let q = is_new rules now table in
    let P : List Seen → Type 0 = λ l. AreFound rules now table l new in
    let says : p x ≡ not (stays_by seen) = ap not (answer-by rules (check_seen now x) (table x.0.kind x.0.key) ∙ ap stays_by peeked) in
    subst P (append_assoc w (map f (map d ys)) (x ∷ []) ∙ ap (λ l. w ++ l) (sym (seen-more f d ys a))) (
      idle ∙ ap (λ l. l ++ cond (not (stays_by seen)) (x.0 ∷ []) []) was.0 ∙ ap (λ l. keys_of (filter p v) ++ l) (ap (λ b. cond b (x.0 ∷ []) []) (sym says) ∙ alone x (p x))
          ∙ sym (ap keys_of (filter-append p v (x ∷ [])) ∙ map-append (λ (y : Seen). y.0) (filter p v) (filter p (x ∷ []))),
      unnoted ∙ ap (λ l. l ++ cond (not (is_some seen)) (x ∷ []) []) was.1 ∙ ap (λ b. filter q v ++ cond b (x ∷ []) []) (ap (λ o. not (is_some o)) (sym peeked)) ∙ sym (filter-append q v (x ∷ [])),
    )
  where
    alone : (x : Seen) (b : Bool) → cond b (x.0 ∷ []) [] ≡ keys_of (cond b (x ∷ []) [])
    alone x true = refl
    alone x false = refl

-- ---- the note of one series

-- what is left of a cell that passes a test
abbrev kept : (Seen → Bool) → SeriesKey → Option Cell → Option Cell
kept p s None = None
kept p s (Some c) = cond (p (s, c)) (Some c) None

abbrev changed : Change → ℕ → SeriesKey → Option Cell → Option Noted → Option Noted
changed change now s None note = note
changed change now s (Some c) note = change (check_seen now (s, c)) note

apart-none : (s : SeriesKey) (xs : List Seen) → AllByRecursion (λ y. series_key_eq s y ≡ false) (keys_of xs) → lookup (series_key_eq s) xs ≡ None
apart-none s [] h = refl
apart-none s (x ∷ xs) h = ap (λ b. cond b (Some x.1) (lookup (series_key_eq s) xs)) h.0 ∙ apart-none s xs h.1

apart-filter : (s : SeriesKey) (p : Seen → Bool) (xs : List Seen) → AllByRecursion (λ y. series_key_eq s y ≡ false) (keys_of xs) → AllByRecursion (λ y. series_key_eq s y ≡ false) (keys_of (filter p xs))
apart-filter s p [] h = tt
apart-filter s p (x ∷ xs) h = go (p x) (apart-filter s p xs h.1)
  where
    go : (b : Bool) → AllByRecursion (λ y. series_key_eq s y ≡ false) (keys_of (filter p xs)) → AllByRecursion (λ y. series_key_eq s y ≡ false) (keys_of (cond b (x ∷ filter p xs) (filter p xs)))
    go true rest = (h.0, rest)
    go false rest = rest

lookup-filter : (p : Seen → Bool) (s : SeriesKey) (xs : List Seen) → IsDistinct series_key_eq (keys_of xs) → lookup (series_key_eq s) (filter p xs) ≡ kept p s (lookup (series_key_eq s) xs)
lookup-filter p s [] once = refl
lookup-filter p s (x ∷ xs) once = go (lookup-filter p s xs (IsDistinct-tail series_key_eq x.0 (keys_of xs) once)) (p x) (series_key_eq s x.0) refl refl
  where
    go : lookup (series_key_eq s) (filter p xs) ≡ kept p s (lookup (series_key_eq s) xs) → (b e : Bool) → p x ≡ b → series_key_eq s x.0 ≡ e → lookup (series_key_eq s) (cond b (x ∷ filter p xs) (filter p xs)) ≡ kept p s (cond e (Some x.1) (lookup (series_key_eq s) xs))
    go rest true true h is = ap (λ e. cond e (Some x.1) (lookup (series_key_eq s) (filter p xs))) is ∙ sym (ap (λ b. cond b (Some x.1) None) (ap (λ k. p (k, x.1)) (key_exact s x.0 is) ∙ h))
    go rest true false h is = ap (λ e. cond e (Some x.1) (lookup (series_key_eq s) (filter p xs))) is ∙ rest
    go rest false true h is =
        apart-none s (filter p xs) (apart-filter s p xs (subst (λ k. AllByRecursion (λ y. series_key_eq k y ≡ false) (keys_of xs)) (sym (key_exact s x.0 is)) (IsDistinct-head series_key_eq x.0 (keys_of xs) once)))
        ∙ sym (ap (λ b. cond b (Some x.1) None) (ap (λ k. p (k, x.1)) (key_exact s x.0 is) ∙ h))
    go rest false false h is = rest

among-lookup : (s : SeriesKey) (xs : List Seen) → is_among (keys_of xs) s ≡ is_some (lookup (series_key_eq s) xs)
among-lookup s [] = refl
among-lookup s (x ∷ xs) = ap (λ b. series_key_eq s x.0 || b) (among-lookup s xs) ∙ go (series_key_eq s x.0)
  where
    go : (b : Bool) → (b || is_some (lookup (series_key_eq s) xs)) ≡ is_some (cond b (Some x.1) (lookup (series_key_eq s) xs))
    go true = refl
    go false = refl

-- of distinct series each note is changed once
with-at : (change : Change) (now : ℕ) (s : SeriesKey) (xs : List Seen) (table : Table KeyParts) → IsDistinct series_key_eq (keys_of xs)
    → table_with_all change now xs table s.kind s.key ≡ changed change now s (lookup (series_key_eq s) xs) (table s.kind s.key)
with-at change now s [] table once = refl
with-at change now s (x ∷ xs) table once =
    with-at change now s xs (table_with change now x table) (IsDistinct-tail series_key_eq x.0 (keys_of xs) once)
    ∙ ap (λ b. changed change now s (lookup (series_key_eq s) xs) (cond b (change (check_seen now x) (table x.0.kind x.0.key)) (table s.kind s.key))) (flips x.0 s)
    ∙ go (series_key_eq s x.0) refl
  where
    go : (b : Bool) → series_key_eq s x.0 ≡ b
        → changed change now s (lookup (series_key_eq s) xs) (cond b (change (check_seen now x) (table x.0.kind x.0.key)) (table s.kind s.key)) ≡ changed change now s (cond b (Some x.1) (lookup (series_key_eq s) xs)) (table s.kind s.key)
    go false is = refl
    go true is =
        let same : x.0 ≡ s = sym (key_exact s x.0 is) in
        let apart = subst (λ k. AllByRecursion (λ y. series_key_eq k y ≡ false) (keys_of xs)) same (IsDistinct-head series_key_eq x.0 (keys_of xs) once) in
        ap (λ o. changed change now s o (change (check_seen now x) (table x.0.kind x.0.key))) (apart-none s xs apart)
        ∙ ap (λ (k : SeriesKey). change (check_seen now (k, x.1)) (table k.kind k.key)) same

-- a check that adds its note first is the same check
note-once : (rules : Rules) (c : Check KeyParts) (note : Option Noted)
    → rechecked rules c (cond (not (is_some (glance rules c note))) (noted_if_kept rules c note) note) ≡ (check_step rules c note).1
note-once rules c note = go (is_watched rules c.kind) note
  where
    seen : Noted
    seen = noted_now c

    step : Bool → Option Noted → Bool × Option Noted
    step w o = cond w (watch_step rules.timeout seen c.held o) (true, o)

    soon : (timeout : Option ℕ) → is_late timeout c.moment c.moment ≡ false
    soon None = refl
    soon (Some t) = let none : c.moment - c.moment ≡ 0 = omega arith in let late : nat_lt t 0 ≡ false = grind (arith, nat_tests) in ap (nat_lt t) none ∙ late

    again : (b : Bool) → (cond {A = Bool × Option Noted} b (cond (is_late rules.timeout c.moment c.moment && c.held) (false, None) (true, Some seen)) (true, Some seen)).1 ≡ Some seen
    again true = ap (λ l. (cond {A = Bool × Option Noted} (l && c.held) (false, None) (true, Some seen)).1) (soon rules.timeout)
    again false = refl

    go : (w : Bool) (o : Option Noted) →
        let was : Option Noted = cond (not (is_some (cond (w && not (is_some o)) None (Some (step w o).0)))) (cond (step w o).0 (step w o).1 o) o in
        cond (w && not (is_some was)) None (step w was).1 ≡ (step w o).1
    go false None = refl
    go false (Some n) = refl
    go true None = again (c.generation == c.generation)
    go true (Some n) = refl

-- ---- all of them

-- a walk over the held series found the idle ones and those without a note, which were noted, and a second walk checked all
pub checked-so : (rules : Rules) (now : ℕ) (cells : Cells) (walk : List Seen) (old new : Table KeyParts) → IsDistinct series_key_eq (keys_of walk) → ((s : SeriesKey) → cells s ≡ lookup (series_key_eq s) walk)
    → new ≡ table_with_all (rechecked rules) now walk (table_with_all (noted_if_kept rules) now (filter (is_new rules now old) walk) old)
    → AreChecked rules now cells old new (keys_of (filter (is_idle rules now old) walk))
checked-so rules now cells walk old new once at made = record {
  once = IsDistinct-keys_filter series_key_eq (is_idle rules now old) walk once;
  found = λ s.
      among-lookup s (filter (is_idle rules now old) walk) ∙ ap is_some (lookup-filter (is_idle rules now old) s walk once ∙ ap (kept (is_idle rules now old) s) (sym (at s)))
      ∙ idle s (cells s);
  notes = λ s.
      let middle = table_with_all (noted_if_kept rules) now (filter (is_new rules now old) walk) old in
      ap (λ (t : Table KeyParts). t s.kind s.key) made
      ∙ with-at (rechecked rules) now s walk middle once
      ∙ ap (changed (rechecked rules) now s (lookup (series_key_eq s) walk))
      (with-at (noted_if_kept rules) now s (filter (is_new rules now old) walk) old (IsDistinct-keys_filter series_key_eq (is_new rules now old) walk once)
      ∙ ap (λ o. changed (noted_if_kept rules) now s o (old s.kind s.key)) (lookup-filter (is_new rules now old) s walk once))
      ∙ ap (λ o. changed (rechecked rules) now s o (changed (noted_if_kept rules) now s (kept (is_new rules now old) s o) (old s.kind s.key))) (sym (at s))
      ∙ noted s (cells s);
}
  where
    check : SeriesKey → Option Cell → Check KeyParts
    check s o = check_of_held (λ _. o) now s

    idle : (s : SeriesKey) (o : Option Cell) → is_some (kept (is_idle rules now old) s o) ≡ (is_some o && not (table_answer rules (check s o) old))
    idle s None = refl
    idle s (Some c) = go (table_answer rules (check s (Some c)) old)
      where
        go : (b : Bool) → is_some (cond (not b) (Some c) None) ≡ not b
        go true = refl
        go false = refl

    noted : (s : SeriesKey) (o : Option Cell) → changed (rechecked rules) now s o (changed (noted_if_kept rules) now s (kept (is_new rules now old) s o) (old s.kind s.key))
        ≡ cond (is_some o) (check_step rules (check s o) (old s.kind s.key)).1 (old s.kind s.key)
    noted s None = refl
    noted s (Some c) = swap (is_new rules now old (s, c)) ∙ note-once rules (check s (Some c)) (old s.kind s.key)
      where
        swap : (b : Bool) → rechecked rules (check s (Some c)) (changed (noted_if_kept rules) now s (cond b (Some c) None) (old s.kind s.key))
            ≡ rechecked rules (check s (Some c)) (cond b (noted_if_kept rules (check s (Some c)) (old s.kind s.key)) (old s.kind s.key))
        swap true = refl
        swap false = refl

-- ---- notes that are taken back

pub new-unnoted : (rules : Rules) (now : ℕ) (table : Table KeyParts) (xs : List Seen) → AreUnnoted table (filter (is_new rules now table) xs)
new-unnoted rules now table [] = tt
new-unnoted rules now table (x ∷ xs) = go (is_new rules now table x) refl (new-unnoted rules now table xs)
  where
    none : (w : Bool) (note : Option Noted) (b : Bool) → not (is_some (cond (w && not (is_some note)) None (Some b))) ≡ true → note ≡ None
    none w None b h = refl
    none true (Some n) b h = absurd (false≢true h)
    none false (Some n) b h = absurd (false≢true h)

    go : (b : Bool) → is_new rules now table x ≡ b → AreUnnoted table (filter (is_new rules now table) xs) → AreUnnoted table (cond b (x ∷ filter (is_new rules now table) xs) (filter (is_new rules now table) xs))
    go true is rest = (none (is_watched rules x.0.kind) (table x.0.kind x.0.key) (check_step rules (check_seen now x) (table x.0.kind x.0.key)).0 is, rest)
    go false is rest = rest

-- one more note
pub noted-here : (rules : Rules) (now : ℕ) (x : Seen) (old new : Table KeyParts)
    → ((kind : MetricKind) (key : KeyParts) → new kind key ≡ cond (table_answer rules (check_seen now x) old) (table_after key_eq rules (check_seen now x) old kind key) (old kind key))
    → new ≡ table_with (noted_if_kept rules) now x old
noted-here rules now x old new h = λ i kind key. (h kind key ∙ go (series_at kind key) (series_key_eq x.0 (series_at kind key)) (table_answer rules (check_seen now x) old) refl) i
  where
    go : (s : SeriesKey) (e b : Bool) → series_key_eq x.0 s ≡ e
        → cond b (cond e (check_step rules (check_seen now x) (old x.0.kind x.0.key)).1 (old s.kind s.key)) (old s.kind s.key)
        ≡ cond e (cond b (check_step rules (check_seen now x) (old x.0.kind x.0.key)).1 (old x.0.kind x.0.key)) (old s.kind s.key)
    go s true true is = refl
    go s false true is = refl
    go s true false is = ap (λ (k : SeriesKey). old k.kind k.key) (sym (key_exact x.0 s is))
    go s false false is = refl

unnoted : (table : Table KeyParts) (s : SeriesKey) (xs : List Seen) → AreUnnoted table xs → is_among (keys_of xs) s ≡ true → table s.kind s.key ≡ None
unnoted table s [] none is = absurd (false≢true is)
unnoted table s (x ∷ xs) none is = either (unnoted table s xs none.1) (series_key_eq s x.0) refl is
  where
    either : (is_among (keys_of xs) s ≡ true → table s.kind s.key ≡ None) → (b : Bool) → series_key_eq s x.0 ≡ b → (b || is_among (keys_of xs) s) ≡ true → table s.kind s.key ≡ None
    either rest true e k = ap (λ (t : SeriesKey). table t.kind t.key) (key_exact s x.0 e) ∙ none.0
    either rest false e k = rest k

others : (change : Change) (now : ℕ) (s : SeriesKey) (xs : List Seen) (table : Table KeyParts) → is_among (keys_of xs) s ≡ false → table_with_all change now xs table s.kind s.key ≡ table s.kind s.key
others change now s [] table is = refl
others change now s (x ∷ xs) table is = either (others change now s xs (table_with change now x table)) (series_key_eq s x.0) refl is
  where
    either : (is_among (keys_of xs) s ≡ false → table_with_all change now xs (table_with change now x table) s.kind s.key ≡ table_with change now x table s.kind s.key)
        → (b : Bool) → series_key_eq s x.0 ≡ b → (b || is_among (keys_of xs) s) ≡ false → table_with_all change now xs (table_with change now x table) s.kind s.key ≡ table s.kind s.key
    either rest true e k = absurd (false≢true (sym k))
    either rest false e k = rest k ∙ ap (λ b. cond b (change (check_seen now x) (table x.0.kind x.0.key)) (table s.kind s.key)) (flips x.0 s ∙ e)

-- without the notes of series that were not noted the notes are as before
pub taken-back : (change : Change) (now : ℕ) (xs : List Seen) (table : Table KeyParts) → AreUnnoted table xs → notes_without (keys_of xs) (table_with_all change now xs table) ≡ table
taken-back change now xs table none = λ i kind key. go (series_at kind key) (is_among (keys_of xs) (series_at kind key)) refl i
  where
    go : (s : SeriesKey) (b : Bool) → is_among (keys_of xs) s ≡ b → cond b None (table_with_all change now xs table s.kind s.key) ≡ table s.kind s.key
    go s true is = sym (unnoted table s xs none is)
    go s false is = others change now s xs table is

pub undone : (change : Change) (now : ℕ) (rows : List SeriesRef) (i : ℕ) (table : Table KeyParts) → AreUnnoted table (all_seen rows)
    → notes_without (all_shown (take i rows)) (table_with_all change now (all_seen (take i rows)) table) ≡ table
undone change now rows i table none =
    ap (λ l. notes_without l (table_with_all change now (all_seen (take i rows)) table)) (sym (firsts-shown (take i rows))) ∙ taken-back change now (all_seen (take i rows)) table (front i rows none)
  where
    front : (n : ℕ) (xs : List SeriesRef) → AreUnnoted table (all_seen xs) → AreUnnoted table (all_seen (take n xs))
    front zero xs h = tt
    front (suc n) [] h = tt
    front (suc n) (x ∷ xs) h = (h.0, front n xs h.1)

pub all-seen-more : (rows : List SeriesRef) (i : ℕ) (row : SeriesRef) → i < length rows → row ≡ get_or rows i row → all_seen (take (i + 1) rows) ≡ all_seen (take i rows) ++ seen_by row ∷ []
all-seen-more rows i row small at = ap all_seen (take_more rows i row small) ∙ map-append seen_by (take i rows) (get_or rows i row ∷ []) ∙ ap (λ r. all_seen (take i rows) ++ seen_by r ∷ []) (sym at)
