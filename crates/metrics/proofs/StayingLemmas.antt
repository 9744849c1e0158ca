-- Acting on targets, seen in one book; each step leaves its series at their places.
use Rattle.std.proofs.Common.{◌≡◌, ℕ, zero, suc, ◌+◌, ◌<◌, Bool, true, false, cond, not, ◌||◌, List, [], ◌∷◌, ◌++◌, length, map, Option, refl, ap, sym, ◌∙◌, arith, nat_eq, true≢false}
use Rattle.std.proofs.lemmas.Bool.{or_left}
use Rattle.std.proofs.lemmas.Bool.Decides.{nat_tests}
use Rattle.std.proofs.lemmas.List.Folds.{list_any-append}
use Rattle.std.specs.List.{list_any, position_or_len}
use Rattle.metrics_names.specs.declared.kind.MetricKind.{MetricKind}
use Rattle.metrics_names.specs.declared.common.Unit.{Unit as Measure}
use Rattle.metrics.specs.declared.debugging.Reset.{Reset}
use Rattle.metrics.specs.declared.handles.Update.{Update}
use Rattle.metrics_names.specs.Names.{SeriesKey}
use Rattle.metrics.specs.Targets.{after_targets, change_at, in_book, AllBelow}
use Rattle.metrics.specs.TargetsLaws.{length-change_at}
use Rattle.metrics.specs.Book.{Content, Series, new_series, with_update, is_of, resets, after_reset, describe_in, register_in, reset_in, place, content_at}
use Rattle.metrics.specs.Meaning.{key_in_book, address_in, addresses}
use Rattle.metrics.specs.History.{updates}
use Rattle.metrics.proofs.ContentLemmas.{step, run}

-- ---- one book among the contents

pub content_at-change_at : (b k : ℕ) (g : Content → Content) (cs : List Content) → b < length cs →
    content_at b (change_at k g cs) ≡ cond (nat_eq k b) (g (content_at b cs)) (content_at b cs)
content_at-change_at b k g [] h = absurd (omega arith)
content_at-change_at zero zero g (c ∷ cs) h = refl
content_at-change_at (suc b) zero g (c ∷ cs) h =
    let ne : nat_eq zero (suc b) ≡ false = grind_ne b in
    ap (λ t. cond t (g (content_at (suc b) (c ∷ cs))) (content_at (suc b) (c ∷ cs))) (sym ne)
  where
    grind_ne : (b : ℕ) → nat_eq zero (suc b) ≡ false
    grind_ne b = grind (arith, nat_tests)
content_at-change_at zero (suc k) g (c ∷ cs) h =
    let ne : nat_eq (suc k) zero ≡ false = grind_ne k in
    ap (λ t. cond t (g c) c) (sym ne)
  where
    grind_ne : (k : ℕ) → nat_eq (suc k) zero ≡ false
    grind_ne k = grind (arith, nat_tests)
content_at-change_at (suc b) (suc k) g (c ∷ cs) h =
    content_at-change_at b k g cs (omega arith) ∙ ap (λ t. cond t (g (content_at b cs)) (content_at b cs)) (grind_same b k)
  where
    grind_same : (b k : ℕ) → nat_eq k b ≡ nat_eq (suc k) (suc b)
    grind_same b k = grind (arith, nat_tests)

-- acting on targets is, seen in one book, running what is meant there
pub content_at-after_targets : {X : Type 0} (f : X → Content → Content) (ts : List (ℕ × X)) (b : ℕ) (cs : List Content) → b < length cs →
    content_at b (after_targets f ts cs) ≡ run f (in_book b ts) (content_at b cs)
content_at-after_targets f [] b cs h = refl
content_at-after_targets f (t ∷ ts) b cs h =
    content_at-after_targets f ts b (change_at t.0 (f t.1) cs) (omega (arith, h, length-change_at t.0 (f t.1) cs))
    ∙ ap (run f (in_book b ts)) (content_at-change_at b t.0 (f t.1) cs h)
    ∙ elim (nat_eq t.0 b) as (λ q. run f (in_book b ts) (cond q (f t.1 (content_at b cs)) (content_at b cs)) ≡ run f (cond q (t.1 ∷ in_book b ts) (in_book b ts)) (content_at b cs)) [
      | true ↦ refl
      | false ↦ refl
    ]

pub change_at-same : (b : ℕ) (g h : Content → Content) (cs : List Content) → g (content_at b cs) ≡ h (content_at b cs) → change_at b g cs ≡ change_at b h cs
change_at-same b g h [] e = refl
change_at-same zero g h (c ∷ cs) e = ap (λ x. x ∷ cs) e
change_at-same (suc b) g h (c ∷ cs) e = ap (λ xs. c ∷ xs) (change_at-same b g h cs e)

-- ---- a series that is there stays at its place

abbrev pub is_there : SeriesKey → Content → Bool
is_there k c = list_any (is_of k) c.series

-- each step leaves the series that are there at their places
pub record Stays {X : Type 0} (f : X → Content → Content) : Type 0 where
  pub there : (x : X) (c : Content) (k : SeriesKey) → is_there k c ≡ true → is_there k (f x c) ≡ true
  pub placed : (x : X) (c : Content) (k : SeriesKey) → is_there k c ≡ true → place k (f x c) ≡ place k c

pub there-run : {X : Type 0} (f : X → Content → Content) → Stays f → (xs : List X) (c : Content) (k : SeriesKey) → is_there k c ≡ true → is_there k (run f xs c) ≡ true
there-run f s [] c k h = h
there-run f s (x ∷ xs) c k h = there-run f s xs (f x c) k (s.there x c k h)

placed-run : {X : Type 0} (f : X → Content → Content) → Stays f → (xs : List X) (c : Content) (k : SeriesKey) → is_there k c ≡ true → place k (run f xs c) ≡ place k c
placed-run f s [] c k h = refl
placed-run f s (x ∷ xs) c k h = placed-run f s xs (f x c) k (s.there x c k h) ∙ s.placed x c k h

-- each key is there in its target's book
abbrev pub AllThere : {X : Type 0} → (X → SeriesKey) → List (ℕ × X) → List Content → Type 0
AllThere key [] cs = Unit {0}
AllThere key (t ∷ ts) cs = (is_there (key t.1) (content_at t.0 cs) ≡ true) × AllThere key ts cs

pub there-after_targets : {X Y : Type 0} (f : X → Content → Content) → Stays f → (key : Y → SeriesKey) (us : List (ℕ × X)) (ts : List (ℕ × Y)) (cs : List Content) → AllBelow (length cs) ts →
    AllThere key ts cs → AllThere key ts (after_targets f us cs)
there-after_targets f s key us [] cs b h = tt
there-after_targets f s key us (t ∷ ts) cs b h = (
  ap (is_there (key t.1)) (content_at-after_targets f us t.0 cs b.0) ∙ there-run f s (in_book t.0 us) (content_at t.0 cs) (key t.1) h.0,
  there-after_targets f s key us ts cs b.1 h.1,
)

pub addresses-after_targets : {X : Type 0} (f : X → Content → Content) → Stays f → (kind : MetricKind) (labels : List (List ℕ × List ℕ)) (us : List (ℕ × X)) (ts : List (ℕ × List ℕ)) (cs : List Content) →
    AllBelow (length cs) ts → AllThere (key_in_book kind labels) ts cs → addresses kind labels ts (after_targets f us cs) ≡ addresses kind labels ts cs
addresses-after_targets f s kind labels us [] cs b h = refl
addresses-after_targets f s kind labels us (t ∷ ts) cs b h =
    let k = key_in_book kind labels t.1 in
    let same : place k (content_at t.0 (after_targets f us cs)) ≡ place k (content_at t.0 cs) =
    ap (place k) (content_at-after_targets f us t.0 cs b.0) ∙ placed-run f s (in_book t.0 us) (content_at t.0 cs) k h.0 in
    ap (λ p. record { book = t.0; series = p } ∷ addresses kind labels ts (after_targets f us cs)) same
    ∙ ap (λ as'. address_in kind labels cs t ∷ as') (addresses-after_targets f s kind labels us ts cs b.1 h.1)

pub stays-describe : (kind : MetricKind) (unit : Option Measure) (text : List ℕ) → Stays (describe_in kind unit text)
stays-describe kind unit text = record { there = λ x c k h. h; placed = λ x c k h. refl }

place-append : (k : SeriesKey) (xs ys : List Series) → list_any (is_of k) xs ≡ true → position_or_len (is_of k) (xs ++ ys) ≡ position_or_len (is_of k) xs
place-append k [] ys h = absurd (true≢false (sym h))
place-append k (x ∷ xs) ys h =
    elim (is_of k x) as (λ b. (b || list_any (is_of k) xs) ≡ true → cond (not b) (1 + position_or_len (is_of k) (xs ++ ys)) 0 ≡ cond (not b) (1 + position_or_len (is_of k) xs) 0) [
      | true ↦ λ e. refl
      | false ↦ λ e. ap (λ n. 1 + n) (place-append k xs ys e)
    ] h

pub stays-register : {X : Type 0} (key : X → SeriesKey) → Stays (λ x. register_in (key x))
stays-register key = record {
  there = λ x c k h. there x c k h (list_any (is_of (key x)) c.series);
  placed = λ x c k h. placed x c k h (list_any (is_of (key x)) c.series);
}
  where
    there : (x : _) (c : Content) (k : SeriesKey) → is_there k c ≡ true → (b : Bool) → list_any (is_of k) (cond b c.series (c.series ++ new_series (key x) ∷ [])) ≡ true
    there x c k h true = h
    there x c k h false = list_any-append (is_of k) c.series (new_series (key x) ∷ []) ∙ or_left (is_there k c) _ h

    placed : (x : _) (c : Content) (k : SeriesKey) → is_there k c ≡ true → (b : Bool) → position_or_len (is_of k) (cond b c.series (c.series ++ new_series (key x) ∷ [])) ≡ place k c
    placed x c k h true = refl
    placed x c k h false = place-append k c.series (new_series (key x) ∷ []) h

any-changed : (k : SeriesKey) (u : Update) (p : ℕ) (xs : List Series) → list_any (is_of k) (change_at p (with_update u) xs) ≡ list_any (is_of k) xs
any-changed k u p [] = refl
any-changed k u zero (x ∷ xs) = refl
any-changed k u (suc p) (x ∷ xs) = ap (λ b. is_of k x || b) (any-changed k u p xs)

pub place-changed : (k : SeriesKey) (u : Update) (p : ℕ) (xs : List Series) → position_or_len (is_of k) (change_at p (with_update u) xs) ≡ position_or_len (is_of k) xs
place-changed k u p [] = refl
place-changed k u zero (x ∷ xs) = refl
place-changed k u (suc p) (x ∷ xs) = ap (λ n. cond (not (is_of k x)) (1 + n) 0) (place-changed k u p xs)

pub stays-update : {X : Type 0} (key : X → SeriesKey) (u : Update) → Stays (λ x. step (updates (key x) u))
stays-update key u = record {
  there = λ x c k h. any-changed k u (place (key x) c) c.series ∙ h;
  placed = λ x c k h. place-changed k u (place (key x) c) c.series;
}

same-reset : (reset : Reset) (k : SeriesKey) (x : Series) → is_of k (after_reset reset x) ≡ is_of k x
same-reset reset k x = elim (resets reset x.key.kind) as (λ b. is_of k (cond b (new_series x.key) x) ≡ is_of k x) [
  | true ↦ refl
  | false ↦ refl
]

any-reset : (reset : Reset) (k : SeriesKey) (xs : List Series) → list_any (is_of k) (map (after_reset reset) xs) ≡ list_any (is_of k) xs
any-reset reset k [] = refl
any-reset reset k (x ∷ xs) = ap (λ b. b || list_any (is_of k) (map (after_reset reset) xs)) (same-reset reset k x) ∙ ap (λ b. is_of k x || b) (any-reset reset k xs)

place-reset : (reset : Reset) (k : SeriesKey) (xs : List Series) → position_or_len (is_of k) (map (after_reset reset) xs) ≡ position_or_len (is_of k) xs
place-reset reset k [] = refl
place-reset reset k (x ∷ xs) =
    ap (λ b. cond (not b) (1 + position_or_len (is_of k) (map (after_reset reset) xs)) 0) (same-reset reset k x)
    ∙ ap (λ n. cond (not (is_of k x)) (1 + n) 0) (place-reset reset k xs)

pub stays-reset : {X : Type 0} (reset : Reset) → Stays {X = X} (λ x. reset_in reset)
stays-reset reset = record { there = λ x c k h. any-reset reset k c.series ∙ h; placed = λ x c k h. place-reset reset k c.series }
