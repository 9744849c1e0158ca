-- The updates since the last snapshot, and which series there are, after one more event.
use Rattle.std.proofs.Common.{◌≡◌, Bool, true, false, cond, ◌||◌, List, [], ◌∷◌, ◌++◌, None, Some, refl, ap, sym, ◌∙◌, append_assoc, append-nil, true≢false}
use Rattle.std.proofs.lemmas.List.Folds.{list_any-append}
use Rattle.std.proofs.lemmas.List.Elements.{filter_map-append}
use Rattle.std.specs.List.{list_any, filter_map, cons_option}
use Rattle.metrics.specs.declared.handles.Update.{Update}
use Rattle.metrics.specs.declared.debugging.Reset.{Reset}
use Rattle.metrics_names.specs.Names.{SeriesKey, series_key_eq}
use Rattle.metrics_names.specs.Equality.{key_exact, key_same}
use Rattle.metrics.specs.Book.{resets}
use Rattle.metrics.specs.History.{Event, registers, updates, snapshots, key_of, firsts_from, series_after, is_reset_of, after_last, after_snapshot, update_of, since}

pub or_true : (b : Bool) → (b || true) ≡ true
or_true true = refl
or_true false = refl

pub or_false : (b : Bool) → (b || false) ≡ b
or_false true = refl
or_false false = refl

cond-push : {A : Type 0} (b : Bool) (xs ys zs : List A) → cond b (xs ++ zs) (ys ++ zs) ≡ cond b xs ys ++ zs
cond-push true xs ys zs = refl
cond-push false xs ys zs = refl

-- ---- the updates since the last snapshot that reset their kind

-- nothing comes after the last event
pub after-last : (sort : Event → Bool) (es : List Event) (e : Event) → sort e ≡ true → after_last sort (es ++ e ∷ []) ≡ []
after-last sort [] e t = ap (λ b. cond b [] (e ∷ [])) t
after-last sort (x ∷ es) e t =
    let b : list_any sort (es ++ e ∷ []) ≡ true = list_any-append sort es (e ∷ []) ∙ ap (λ c. list_any sort es || (c || false)) t ∙ or_true (list_any sort es) in
    ap (λ c. cond c (after_last sort (es ++ e ∷ [])) (cond (sort x) (es ++ e ∷ []) (x ∷ (es ++ e ∷ [])))) b ∙ after-last sort es e t

-- an event of another sort comes after those that came after the last one
pub after-other : (sort : Event → Bool) (es : List Event) (e : Event) → sort e ≡ false → after_last sort (es ++ e ∷ []) ≡ after_last sort es ++ e ∷ []
after-other sort [] e t = ap (λ b. cond b [] (e ∷ [])) t
after-other sort (x ∷ es) e t =
    let la = list_any sort es in
    let b : list_any sort (es ++ e ∷ []) ≡ la = list_any-append sort es (e ∷ []) ∙ ap (λ c. la || (c || false)) t ∙ or_false la in
    ap (λ c. cond c (after_last sort (es ++ e ∷ [])) (cond (sort x) (es ++ e ∷ []) (x ∷ (es ++ e ∷ [])))) b
    ∙ ap (λ a. cond la a (cond (sort x) (es ++ e ∷ []) (x ∷ (es ++ e ∷ [])))) (after-other sort es e t)
    ∙ ap (λ d. cond la (after_last sort es ++ e ∷ []) d) (cond-push (sort x) es (x ∷ es) (e ∷ []))
    ∙ cond-push la (after_last sort es) (cond (sort x) es (x ∷ es)) (e ∷ [])

pub since-reset : (reset : Reset) (es : List Event) (s : SeriesKey) → resets reset s.kind ≡ true → since (es ++ snapshots reset ∷ []) s ≡ []
since-reset reset es s t = ap (filter_map (update_of s)) (after-last (is_reset_of s.kind) es (snapshots reset) t)

since-other : (es : List Event) (e : Event) (s : SeriesKey) → is_reset_of s.kind e ≡ false → since (es ++ e ∷ []) s ≡ since es s ++ filter_map (update_of s) (e ∷ [])
since-other es e s t = ap (filter_map (update_of s)) (after-other (is_reset_of s.kind) es e t) ∙ filter_map-append (update_of s) (after_snapshot s.kind es) (e ∷ [])

pub since-quiet : (es : List Event) (e : Event) (s : SeriesKey) → is_reset_of s.kind e ≡ false → update_of s e ≡ None → since (es ++ e ∷ []) s ≡ since es s
since-quiet es e s t n = since-other es e s t ∙ ap (λ o. since es s ++ cons_option o []) n ∙ append-nil (since es s)

pub since-kept : (reset : Reset) (es : List Event) (s : SeriesKey) → resets reset s.kind ≡ false → since (es ++ snapshots reset ∷ []) s ≡ since es s
since-kept reset es s t = since-quiet es (snapshots reset) s t refl

pub since-update : (es : List Event) (k : SeriesKey) (u : Update) (s : SeriesKey) → since (es ++ updates k u ∷ []) s ≡ since es s ++ cond (series_key_eq k s) (u ∷ []) []
since-update es k u s = since-other es (updates k u) s refl ∙ ap (λ us. since es s ++ us) (of_bool (series_key_eq k s))
  where
    of_bool : (b : Bool) → cons_option (cond b (Some u) None) [] ≡ cond b (u ∷ []) []
    of_bool true = refl
    of_bool false = refl

-- ---- the series

firsts-push : (seen ks : List SeriesKey) (k : SeriesKey) →
    firsts_from seen (ks ++ k ∷ []) ≡ firsts_from seen ks ++ cond (list_any (series_key_eq k) (seen ++ firsts_from seen ks)) [] (k ∷ [])
firsts-push seen [] k = ap (λ xs. cond (list_any (series_key_eq k) xs) [] (k ∷ [])) (sym (append-nil seen))
firsts-push seen (q ∷ ks) k =
    let A = firsts_from seen (ks ++ k ∷ []) in
    let B = firsts_from (seen ++ q ∷ []) (ks ++ k ∷ []) in
    let C = firsts_from seen ks in
    let D = firsts_from (seen ++ q ∷ []) ks in
    elim (list_any (series_key_eq q) seen) as (λ b. cond b A (q ∷ B) ≡ cond b C (q ∷ D) ++ cond (list_any (series_key_eq k) (seen ++ cond b C (q ∷ D))) [] (k ∷ [])) [
      | true ↦ firsts-push seen ks k
      | false ↦ ap (λ xs. q ∷ xs) (firsts-push (seen ++ q ∷ []) ks k ∙ ap (λ xs. D ++ cond (list_any (series_key_eq k) xs) [] (k ∷ [])) (append_assoc seen (q ∷ []) D))
    ]

pub series-register : (es : List Event) (k : SeriesKey) → series_after (es ++ registers k ∷ []) ≡ series_after es ++ cond (list_any (series_key_eq k) (series_after es)) [] (k ∷ [])
series-register es k = ap (firsts_from []) (filter_map-append key_of es (registers k ∷ [])) ∙ firsts-push [] (filter_map key_of es) k

pub series-other : (es : List Event) (e : Event) → key_of e ≡ None → series_after (es ++ e ∷ []) ≡ series_after es
series-other es e n =
    ap (firsts_from []) (filter_map-append key_of es (e ∷ []) ∙ ap (λ o. filter_map key_of es ++ cons_option o []) n ∙ append-nil (filter_map key_of es))

-- no key of the list is among those seen
abbrev pub AllNew : List SeriesKey → List SeriesKey → Type 0
AllNew seen [] = Unit {0}
AllNew seen (k ∷ ks) = (list_any (series_key_eq k) seen ≡ false) × AllNew seen ks

-- no key is there twice
abbrev pub AreUnique : List SeriesKey → Type 0
AreUnique [] = Unit {0}
AreUnique (k ∷ ks) = AllNew (k ∷ []) ks × AreUnique ks

pub or_none : (a b : Bool) → (a || b) ≡ false → (a ≡ false) × (b ≡ false)
or_none true b e = absurd (true≢false e)
or_none false b e = (refl, e)

new-fewer : (seen more ks : List SeriesKey) → AllNew (seen ++ more) ks → AllNew seen ks × AllNew more ks
new-fewer seen more [] h = (tt, tt)
new-fewer seen more (k ∷ ks) h =
    let both = or_none (list_any (series_key_eq k) seen) (list_any (series_key_eq k) more) (sym (list_any-append (series_key_eq k) seen more) ∙ h.0) in
    let rest = new-fewer seen more ks h.1 in
    ((both.0, rest.0), (both.1, rest.1))

pub firsts_new : (seen ks : List SeriesKey) → AllNew seen (firsts_from seen ks) × AreUnique (firsts_from seen ks)
firsts_new seen [] = (tt, tt)
firsts_new seen (k ∷ ks) =
    let D = firsts_from (seen ++ k ∷ []) ks in
    elim (list_any (series_key_eq k) seen) as (λ b. list_any (series_key_eq k) seen ≡ b → AllNew seen (cond b (firsts_from seen ks) (k ∷ D)) × AreUnique (cond b (firsts_from seen ks) (k ∷ D))) [
      | true ↦ λ e. firsts_new seen ks
      | false ↦ λ e.
          let rest = firsts_new (seen ++ k ∷ []) ks in
          let fewer = new-fewer seen (k ∷ []) D rest.0 in
          ((e, fewer.0), (fewer.1, rest.1))
    ] refl

-- the test of keys is symmetric where it fails
pub flip-other : (k q : SeriesKey) → series_key_eq q k ≡ false → series_key_eq k q ≡ false
flip-other k q n = elim (series_key_eq k q) as (λ b. series_key_eq k q ≡ b → b ≡ false) [
  | true ↦ λ e. sym (key_same k) ∙ ap (λ x. series_key_eq x k) (key_exact k q e) ∙ n
  | false ↦ λ e. refl
] refl
