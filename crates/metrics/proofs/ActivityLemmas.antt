-- Which series were active, after one more event.
use Rattle.std.proofs.Common.{◌≡◌, ℕ, suc, ◌+◌, Bool, true, false, cond, not, ◌||◌, List, [], ◌∷◌, ◌++◌, map, refl, ap, sym, ◌∙◌, subst, arith, append-nil}
use Rattle.std.proofs.lemmas.List.Folds.{list_any-append}
use Rattle.std.specs.List.{list_any, position_or_len}
use Rattle.metrics.specs.declared.handles.Update.{Update}
use Rattle.metrics.specs.declared.debugging.Reset.{Reset}
use Rattle.metrics_names.specs.Names.{SeriesKey, series_key_eq}
use Rattle.metrics_names.specs.Equality.{key_exact, key_same}
use Rattle.metrics.specs.Book.{registered_at, active_at, idle}
use Rattle.metrics.specs.History.{Event, registers, updates, snapshots, is_snapshot, touches, after_last, was_active}
use Rattle.metrics.proofs.EventsLemmas.{or_true, or_false, after-last, after-other, AllNew, AreUnique, flip-other}

-- an event that is no snapshot is activity of those that it touches
active-more : (es : List Event) (e : Event) (s : SeriesKey) → is_snapshot e ≡ false → was_active (es ++ e ∷ []) s ≡ (was_active es s || touches s e)
active-more es e s n =
    ap (list_any (touches s)) (after-other is_snapshot es e n)
    ∙ list_any-append (touches s) (after_last is_snapshot es) (e ∷ [])
    ∙ ap (λ b. was_active es s || b) (or_false (touches s e))

-- an event that touches none of the series leaves each as it was
pub active-quiet : (es : List Event) (e : Event) → is_snapshot e ≡ false → ((s : SeriesKey) → touches s e ≡ false) → (ks : List SeriesKey) → map (was_active (es ++ e ∷ [])) ks ≡ map (was_active es) ks
active-quiet es e n t [] = refl
active-quiet es e n t (k ∷ ks) =
    ap (λ b. b ∷ map (was_active (es ++ e ∷ [])) ks) (active-more es e k n ∙ ap (λ b. was_active es k || b) (t k) ∙ or_false (was_active es k))
    ∙ ap (λ bs. was_active es k ∷ bs) (active-quiet es e n t ks)

-- an event that touches the series of one key
module _ (es : List Event) (e : Event) (k : SeriesKey) (n : is_snapshot e ≡ false) (t : (s : SeriesKey) → touches s e ≡ series_key_eq k s) where
  abbrev old : SeriesKey → Bool
  old = was_active es

  abbrev new : SeriesKey → Bool
  new = was_active (es ++ e ∷ [])

  one-touched : (q : SeriesKey) (b : Bool) → series_key_eq k q ≡ b → new q ≡ (old q || b)
  one-touched q b h = active-more es e q n ∙ ap (λ b. old q || b) (t q ∙ h)

  one-active : (q : SeriesKey) → series_key_eq k q ≡ true → new q ≡ true
  one-active q h = one-touched q true h ∙ or_true (old q)

  one-same : (q : SeriesKey) → series_key_eq k q ≡ false → new q ≡ old q
  one-same q h = one-touched q false h ∙ or_false (old q)

  others-same : (ks : List SeriesKey) → AllNew (k ∷ []) ks → map new ks ≡ map old ks
  others-same [] h = refl
  others-same (q ∷ ks) h =
      ap (λ b. b ∷ map new ks) (one-same q (flip-other k q (sym (or_false (series_key_eq q k)) ∙ h.0)))
      ∙ ap (λ bs. old q ∷ bs) (others-same ks h.1)

  pub touched-at : (ks : List SeriesKey) → AreUnique ks → map new ks ≡ active_at (position_or_len (series_key_eq k) ks) (map old ks)
  touched-at [] h = refl
  touched-at (q ∷ ks) h =
      let p = position_or_len (series_key_eq k) ks in
      elim (series_key_eq k q) as (λ b. series_key_eq k q ≡ b → new q ∷ map new ks ≡ active_at (cond (not b) (1 + p) 0) (old q ∷ map old ks)) [
        | true ↦ λ e.
            let others : AllNew (k ∷ []) ks = subst (λ x. AllNew (x ∷ []) ks) (sym (key_exact k q e)) h.0 in
            ap (λ b. b ∷ map new ks) (one-active q e) ∙ ap (λ bs. true ∷ bs) (others-same ks others)
        | false ↦ λ e.
            let n : 1 + p ≡ suc p = omega arith in
            ap (λ b. b ∷ map new ks) (one-same q e) ∙ ap (λ bs. old q ∷ bs) (touched-at ks h.1) ∙ ap (λ i. active_at i (old q ∷ map old ks)) (sym n)
      ] refl

  pub added-at : (ks : List SeriesKey) → AreUnique ks → map new (ks ++ cond (list_any (series_key_eq k) ks) [] (k ∷ [])) ≡ registered_at (position_or_len (series_key_eq k) ks) (map old ks)
  added-at [] h = ap (λ b. b ∷ []) (one-active k (key_same k))
  added-at (q ∷ ks) h =
      let p = position_or_len (series_key_eq k) ks in
      let la = list_any (series_key_eq k) ks in
      elim (series_key_eq k q) as (λ b. series_key_eq k q ≡ b →
      new q ∷ map new (ks ++ cond (b || la) [] (k ∷ [])) ≡ registered_at (cond (not b) (1 + p) 0) (old q ∷ map old ks)) [
        | true ↦ λ e.
            let others : AllNew (k ∷ []) ks = subst (λ x. AllNew (x ∷ []) ks) (sym (key_exact k q e)) h.0 in
            ap (λ b. b ∷ map new (ks ++ [])) (one-active q e) ∙ ap (λ bs. true ∷ bs) (ap (map new) (append-nil ks) ∙ others-same ks others)
        | false ↦ λ e.
            let n : 1 + p ≡ suc p = omega arith in
            ap (λ b. b ∷ map new (ks ++ cond la [] (k ∷ []))) (one-same q e) ∙ ap (λ bs. old q ∷ bs) (added-at ks h.1) ∙ ap (λ i. registered_at i (old q ∷ map old ks)) (sym n)
      ] refl

pub active-register : (es : List Event) (k : SeriesKey) (ks : List SeriesKey) → AreUnique ks →
    map (was_active (es ++ registers k ∷ [])) (ks ++ cond (list_any (series_key_eq k) ks) [] (k ∷ [])) ≡ registered_at (position_or_len (series_key_eq k) ks) (map (was_active es) ks)
active-register es k ks h = added-at es (registers k) k refl (λ s. refl) ks h

pub active-update : (es : List Event) (k : SeriesKey) (u : Update) (ks : List SeriesKey) → AreUnique ks →
    map (was_active (es ++ updates k u ∷ [])) ks ≡ active_at (position_or_len (series_key_eq k) ks) (map (was_active es) ks)
active-update es k u ks h = touched-at es (updates k u) k refl (λ s. refl) ks h

-- a snapshot leaves all idle
pub active-snapshot : (es : List Event) (reset : Reset) (ks : List SeriesKey) → map (was_active (es ++ snapshots reset ∷ [])) ks ≡ map idle (map (was_active es) ks)
active-snapshot es reset [] = refl
active-snapshot es reset (k ∷ ks) =
    ap (λ b. b ∷ map (was_active (es ++ snapshots reset ∷ [])) ks) (ap (list_any (touches k)) (after-last is_snapshot es (snapshots reset) refl))
    ∙ ap (λ bs. false ∷ bs) (active-snapshot es reset ks)
