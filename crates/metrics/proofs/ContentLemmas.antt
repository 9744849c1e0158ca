-- The content after one more event is one step of the content before.
use Rattle.std.proofs.Common.{◌≡◌, ℕ, suc, ◌+◌, Bool, true, false, cond, not, ◌&&◌, ◌||◌, List, [], ◌∷◌, ◌++◌, map, Option, None, Some, refl, ap, sym, ◌∙◌, subst, arith, append_assoc, append-nil, bytes_eq}
use Rattle.std.proofs.lemmas.List.Folds.{list_any-append}
use Rattle.std.proofs.lemmas.List.Elements.{filter_map-append}
use Rattle.std.specs.Option.{option_or}
use Rattle.std.specs.List.{list_any, filter_map, position_or_len, cons_option}
use mathlib.Core.Path.{fun_ext}
use Rattle.metrics_names.specs.declared.kind.MetricKind.{MetricKind}
use Rattle.metrics_names.specs.declared.common.Unit.{Unit as Measure}
use Rattle.metrics.specs.declared.handles.Update.{Update}
use Rattle.metrics.specs.declared.debugging.DebugValue.{DebugValue}
use Rattle.metrics.specs.declared.debugging.Reset.{Reset}
use Rattle.metrics_names.specs.Names.{SeriesKey, kind_eq, series_key_eq}
use Rattle.metrics.specs.Targets.{change_at}
use Rattle.metrics.specs.Book.{Content, Series, Description, new_value, new_series, updated, value_from, with_update, is_of, resets, after_reset, described_again, describe_in, register_in, update_in, reset_in, registered_at, active_at, place}
use Rattle.metrics.specs.Rows.{last}
use Rattle.metrics.specs.History.{Event, describes, registers, updates, snapshots, key_of, series_after, description_of, description, since, series_now, was_active, content_after}
use Rattle.metrics.proofs.RowsLemmas.{last-push}
use Rattle.metrics_names.specs.Equality.{key_exact, key_same}
use Rattle.metrics.proofs.EventsLemmas.{or_false, since-reset, since-quiet, since-kept, since-update, series-register, series-other, AllNew, AreUnique, or_none, firsts_new, flip-other}
use Rattle.metrics.proofs.ActivityLemmas.{active-quiet, active-register, active-update, active-snapshot}

value-push : (v : DebugValue) (us : List Update) (u : Update) → value_from v (us ++ u ∷ []) ≡ updated u (value_from v us)
value-push v [] u = refl
value-push v (w ∷ us) u = value-push (updated w v) us u

map-same : {A : Type 0} (f g : SeriesKey → A) (ks : List SeriesKey) → ((k : SeriesKey) → f k ≡ g k) → map f ks ≡ map g ks
map-same f g [] h = refl
map-same f g (k ∷ ks) h = ap (λ x. x ∷ map f ks) (h k) ∙ ap (λ xs. g k ∷ xs) (map-same f g ks h)

pub map-push : {A B : Type 0} (f : A → B) (xs : List A) (x : A) → map f (xs ++ x ∷ []) ≡ map f xs ++ f x ∷ []
map-push f [] x = refl
map-push f (y ∷ xs) x = ap (λ zs. f y ∷ zs) (map-push f xs x)

abbrev of_updates : SeriesKey → List Update → Series
of_updates k us = record { key = k; value = value_from (new_value k.kind) us }

now-same : (es fs : List Event) (k : SeriesKey) → since fs k ≡ since es k → series_now fs k ≡ series_now es k
now-same es fs k h = ap (of_updates k) h

-- the series at the key's place changes, and no other
changed-past : (es : List Event) (k : SeriesKey) (u : Update) (ks : List SeriesKey) → AllNew (k ∷ []) ks →
    map (series_now (es ++ updates k u ∷ [])) ks ≡ map (series_now es) ks
changed-past es k u [] h = refl
changed-past es k u (q ∷ ks) h =
    let other : series_key_eq k q ≡ false = flip-other k q (sym (or_false (series_key_eq q k)) ∙ h.0) in
    let same : since (es ++ updates k u ∷ []) q ≡ since es q = since-update es k u q ∙ ap (λ b. since es q ++ cond b (u ∷ []) []) other ∙ append-nil (since es q) in
    ap (λ s. s ∷ map (series_now (es ++ updates k u ∷ [])) ks) (now-same es (es ++ updates k u ∷ []) q same)
    ∙ ap (λ ss. series_now es q ∷ ss) (changed-past es k u ks h.1)

changed-at : (es : List Event) (k : SeriesKey) (u : Update) (ks : List SeriesKey) → AreUnique ks →
    map (series_now (es ++ updates k u ∷ [])) ks ≡ change_at (position_or_len (is_of k) (map (series_now es) ks)) (with_update u) (map (series_now es) ks)
changed-at es k u [] h = refl
changed-at es k u (q ∷ ks) h =
    let es' = es ++ updates k u ∷ [] in
    let rest = map (series_now es) ks in
    let p = position_or_len (is_of k) rest in
    elim (series_key_eq k q) as (λ b. series_key_eq k q ≡ b →
    series_now es' q ∷ map (series_now es') ks ≡ change_at (cond (not b) (1 + p) 0) (with_update u) (series_now es q ∷ rest)) [
      | true ↦ λ e.
          let is : k ≡ q = key_exact k q e in
          let more : since es' q ≡ since es q ++ u ∷ [] = since-update es k u q ∙ ap (λ b. since es q ++ cond b (u ∷ []) []) e in
          let others : AllNew (k ∷ []) ks = subst (λ x. AllNew (x ∷ []) ks) (sym is) h.0 in
          ap (λ s. s ∷ map (series_now es') ks) (ap (of_updates q) more ∙ ap (λ v. record { key = q; value = v }) (value-push (new_value q.kind) (since es q) u))
          ∙ ap (λ ss. with_update u (series_now es q) ∷ ss) (changed-past es k u ks others)
      | false ↦ λ e.
          let same : since es' q ≡ since es q = since-update es k u q ∙ ap (λ b. since es q ++ cond b (u ∷ []) []) e ∙ append-nil (since es q) in
          let n : 1 + p ≡ suc p = omega arith in
          ap (λ s. s ∷ map (series_now es') ks) (now-same es es' q same)
          ∙ ap (λ ss. series_now es q ∷ ss) (changed-at es k u ks h.1)
          ∙ ap (λ i. change_at i (with_update u) (series_now es q ∷ rest)) (sym n)
    ] refl

pub any-now : (es : List Event) (k : SeriesKey) (ks : List SeriesKey) → list_any (is_of k) (map (series_now es) ks) ≡ list_any (series_key_eq k) ks
any-now es k [] = refl
any-now es k (q ∷ ks) = ap (λ b. series_key_eq k q || b) (any-now es k ks)

pub place-now : (es : List Event) (k : SeriesKey) (ks : List SeriesKey) → position_or_len (is_of k) (map (series_now es) ks) ≡ position_or_len (series_key_eq k) ks
place-now es k [] = refl
place-now es k (q ∷ ks) = ap (λ n. cond (not (series_key_eq k q)) (1 + n) 0) (place-now es k ks)

one-reset : (reset : Reset) (es : List Event) (k : SeriesKey) → series_now (es ++ snapshots reset ∷ []) k ≡ after_reset reset (series_now es k)
one-reset reset es k =
    elim (resets reset k.kind) as (λ b. resets reset k.kind ≡ b → series_now (es ++ snapshots reset ∷ []) k ≡ cond b (new_series k) (series_now es k)) [
      | true ↦ λ e. ap (of_updates k) (since-reset reset es k e)
      | false ↦ λ e. ap (of_updates k) (since-kept reset es k e)
    ] refl

now-reset : (reset : Reset) (es : List Event) (ks : List SeriesKey) → map (series_now (es ++ snapshots reset ∷ [])) ks ≡ map (after_reset reset) (map (series_now es) ks)
now-reset reset es [] = refl
now-reset reset es (k ∷ ks) =
    ap (λ s. s ∷ map (series_now (es ++ snapshots reset ∷ [])) ks) (one-reset reset es k)
    ∙ ap (λ ss. after_reset reset (series_now es k) ∷ ss) (now-reset reset es ks)

-- ---- the descriptions

last-later : {A : Type 0} (xs : List A) (o : Option A) → last (xs ++ cons_option o []) ≡ option_or o (last xs)
last-later xs None = ap last (append-nil xs)
last-later xs (Some x) = last-push xs x

abbrev described_by : List (Option Measure × List ℕ) → Description
described_by ds = record { unit = last (filter_map (λ d. d.0) ds); text = last (map (λ d. d.1) ds) }

description-other : (es : List Event) (e : Event) → ((k : MetricKind) (n : List ℕ) → description_of k n e ≡ None) → description (es ++ e ∷ []) ≡ description es
description-other es e h = fun_ext (λ k. fun_ext (λ n.
    ap described_by
    (filter_map-append (description_of k n) es (e ∷ []) ∙ ap (λ o. filter_map (description_of k n) es ++ cons_option o []) (h k n) ∙ append-nil (filter_map (description_of k n) es))))

description-push : (es : List Event) (kind : MetricKind) (unit : Option Measure) (text name : List ℕ) (k : MetricKind) (n : List ℕ) →
    description (es ++ describes kind unit text name ∷ []) k n ≡ cond (kind_eq kind k && bytes_eq name n) (described_again unit text (description es k n)) (description es k n)
description-push es kind unit text name k n =
    let ds = filter_map (description_of k n) es in
    ap described_by (filter_map-append (description_of k n) es (describes kind unit text name ∷ []))
    ∙ elim (kind_eq kind k && bytes_eq name n) as (λ b.
    described_by (ds ++ cons_option (cond b (Some (unit, text)) None) []) ≡ cond b (described_again unit text (described_by ds)) (described_by ds)) [
      | true ↦
          ap (λ us. record { unit = last us; text = last (map (λ d. d.1) (ds ++ (unit, text) ∷ [])) }) (filter_map-append (λ d. d.0) ds ((unit, text) ∷ []))
          ∙ ap (λ o. record { unit = o; text = last (map (λ d. d.1) (ds ++ (unit, text) ∷ [])) }) (last-later (filter_map (λ d. d.0) ds) unit)
          ∙ ap (λ ts. record { unit = option_or unit (last (filter_map (λ d. d.0) ds)); text = last ts }) (map-push (λ d. d.1) ds (unit, text))
          ∙ ap (λ o. record { unit = option_or unit (last (filter_map (λ d. d.0) ds)); text = o }) (last-push (map (λ d. d.1) ds) text)
      | false ↦ ap described_by (append-nil ds)
    ]

-- ---- one step of an event

-- what an event does to a content
abbrev pub step : Event → Content → Content
step (describes kind unit text name) = describe_in kind unit text name
step (registers k) = register_in k
step (updates k u) = λ c. update_in u (place k c) c
step (snapshots reset) = reset_in reset

-- a series that isn't there has no update
abbrev pub IsSound : List Event → Type 0
IsSound es = (k : SeriesKey) → list_any (series_key_eq k) (series_after es) ≡ false → since es k ≡ []

-- an update is of a series that is there
abbrev pub Reaches : List Event → Event → Type 0
Reaches es (updates k u) = list_any (series_key_eq k) (series_after es) ≡ true
Reaches es (describes kind unit text name) = Unit {0}
Reaches es (registers k) = Unit {0}
Reaches es (snapshots reset) = Unit {0}

abbrev made : List Series → List Bool → (MetricKind → List ℕ → Description) → Content
made ss marks d = record { series = ss; active = marks; described = d }

series_added : (es : List Event) (k : SeriesKey) → IsSound es → (b : Bool) → list_any (series_key_eq k) (series_after es) ≡ b →
    map (series_now es) (series_after es ++ cond b [] (k ∷ [])) ≡ cond b (map (series_now es) (series_after es)) (map (series_now es) (series_after es) ++ new_series k ∷ [])
series_added es k sound true e = ap (map (series_now es)) (append-nil (series_after es))
series_added es k sound false e =
    map-push (series_now es) (series_after es) k
    ∙ ap (λ us. map (series_now es) (series_after es) ++ of_updates k us ∷ []) (sound k e)

made-same : (ss ts : List Series) (ms ns : List Bool) (d e : MetricKind → List ℕ → Description) → ss ≡ ts → ms ≡ ns → d ≡ e → made ss ms d ≡ made ts ns e
made-same ss ts ms ns d e p q r = ap (λ x. made x ms d) p ∙ ap (λ x. made ts x d) q ∙ ap (made ts ns) r

-- THE STEP: the content after one more event
pub content-push : (es : List Event) (e : Event) → IsSound es → content_after (es ++ e ∷ []) ≡ step e (content_after es)
content-push es (describes kind unit text name) sound =
    let e = describes kind unit text name in
    made-same _ _ _ _ _ _
    (ap (map (series_now (es ++ e ∷ []))) (series-other es e refl) ∙ map-same _ _ (series_after es) (λ k. now-same es (es ++ e ∷ []) k (since-quiet es e k refl refl)))
    (ap (map (was_active (es ++ e ∷ []))) (series-other es e refl) ∙ active-quiet es e refl (λ k. refl) (series_after es))
    (fun_ext (λ k. fun_ext (λ n. description-push es kind unit text name k n)))
content-push es (registers k) sound =
    let e = registers k in
    let ks = series_after es in
    let ss = map (series_now es) ks in
    made-same _ _ _ _ _ _
    (ap (map (series_now (es ++ e ∷ []))) (series-register es k)
    ∙ map-same _ _ (ks ++ cond (list_any (series_key_eq k) ks) [] (k ∷ [])) (λ q. now-same es (es ++ e ∷ []) q (since-quiet es e q refl refl))
    ∙ series_added es k sound (list_any (series_key_eq k) ks) refl
    ∙ ap (λ b. cond b ss (ss ++ new_series k ∷ [])) (sym (any-now es k ks)))
    (ap (map (was_active (es ++ e ∷ []))) (series-register es k)
    ∙ active-register es k ks (firsts_new [] (filter_map key_of es)).1
    ∙ ap (λ p. registered_at p (map (was_active es) ks)) (sym (place-now es k ks)))
    (description-other es e (λ k n. refl))
content-push es (updates k u) sound =
    let e = updates k u in
    let ks = series_after es in
    let unique = (firsts_new [] (filter_map key_of es)).1 in
    made-same _ _ _ _ _ _
    (ap (map (series_now (es ++ e ∷ []))) (series-other es e refl) ∙ changed-at es k u ks unique)
    (ap (map (was_active (es ++ e ∷ []))) (series-other es e refl)
    ∙ active-update es k u ks unique
    ∙ ap (λ p. active_at p (map (was_active es) ks)) (sym (place-now es k ks)))
    (description-other es e (λ k n. refl))
content-push es (snapshots reset) sound =
    let e = snapshots reset in
    made-same _ _ _ _ _ _
    (ap (map (series_now (es ++ e ∷ []))) (series-other es e refl) ∙ now-reset reset es (series_after es))
    (ap (map (was_active (es ++ e ∷ []))) (series-other es e refl) ∙ active-snapshot es reset (series_after es))
    (description-other es e (λ k n. refl))

pub sound-push : (es : List Event) (e : Event) → IsSound es → Reaches es e → IsSound (es ++ e ∷ [])
sound-push es (describes kind unit text name) sound r k n =
    let e = describes kind unit text name in
    since-quiet es e k refl refl ∙ sound k (subst (λ ks. list_any (series_key_eq k) ks ≡ false) (series-other es e refl) n)
sound-push es (registers q) sound r k n =
    let more : List SeriesKey = cond (list_any (series_key_eq q) (series_after es)) [] (q ∷ []) in
    let both = or_none (list_any (series_key_eq k) (series_after es)) (list_any (series_key_eq k) more)
    (sym (list_any-append (series_key_eq k) (series_after es) more) ∙ ap (list_any (series_key_eq k)) (sym (series-register es q)) ∙ n) in
    since-quiet es (registers q) k refl refl ∙ sound k both.0
sound-push es (updates q u) sound r k n =
    let n' : list_any (series_key_eq k) (series_after es) ≡ false = subst (λ ks. list_any (series_key_eq k) ks ≡ false) (series-other es (updates q u) refl) n in
    let other : series_key_eq q k ≡ false = elim (series_key_eq q k) as (λ b. series_key_eq q k ≡ b → b ≡ false) [
      | true ↦ λ e. sym r ∙ ap (λ x. list_any (series_key_eq x) (series_after es)) (key_exact q k e) ∙ n'
      | false ↦ λ e. refl
    ] refl in
    since-update es q u k ∙ ap (λ b. since es k ++ cond b (u ∷ []) []) other ∙ append-nil (since es k) ∙ sound k n'
sound-push es (snapshots reset) sound r k n =
    elim (resets reset k.kind) as (λ b. resets reset k.kind ≡ b → since (es ++ snapshots reset ∷ []) k ≡ []) [
      | true ↦ λ e. since-reset reset es k e
      | false ↦ λ e. since-kept reset es k e ∙ sound k (subst (λ ks. list_any (series_key_eq k) ks ≡ false) (series-other es (snapshots reset) refl) n)
    ] refl

-- ---- steps in a row

abbrev pub run : {X : Type 0} → (X → Content → Content) → List X → Content → Content
run f [] c = c
run f (x ∷ xs) c = run f xs (f x c)

abbrev pub ReachesAll : List Event → List Event → Type 0
ReachesAll es [] = Unit {0}
ReachesAll es (e ∷ rest) = Reaches es e × ReachesAll (es ++ e ∷ []) rest

pub content-run : {X : Type 0} (event : X → Event) (es : List Event) (xs : List X) → IsSound es → ReachesAll es (map event xs) →
    content_after (es ++ map event xs) ≡ run (λ x. step (event x)) xs (content_after es)
content-run event es [] sound r = ap content_after (append-nil es)
content-run event es (x ∷ xs) sound r =
    ap content_after (sym (append_assoc es (event x ∷ []) (map event xs)))
    ∙ content-run event (es ++ event x ∷ []) xs (sound-push es (event x) sound r.0) r.1
    ∙ ap (run (λ x. step (event x)) xs) (content-push es (event x) sound)

pub sound-run : {X : Type 0} (event : X → Event) (es : List Event) (xs : List X) → IsSound es → ReachesAll es (map event xs) → IsSound (es ++ map event xs)
sound-run event es [] sound r = subst IsSound (sym (append-nil es)) sound
sound-run event es (x ∷ xs) sound r =
    subst IsSound (append_assoc es (event x ∷ []) (map event xs)) (sound-run event (es ++ event x ∷ []) xs (sound-push es (event x) sound r.0) r.1)
