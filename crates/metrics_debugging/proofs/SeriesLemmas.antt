-- Lists of series.
use Rattle.std.proofs.Common.{◌≡◌, ℕ, zero, suc, ◌+◌, ◌<◌, ◌≤◌, Bool, true, false, cond, ◌||◌, not, inl, inr, List, [], ◌∷◌, ◌++◌, length, map, Option, Some, None, refl, ap, sym, ◌∙◌, arith, true≢false, nat_lt, length-append}
use Rattle.std.proofs.lemmas.Bool.{lt-ltb, cases_lt}
use Rattle.std.proofs.lemmas.List.Sums.{prefix_len-le-length}
use Rattle.std.specs.List.{position, position_or_len, list_any}
use Rattle.std.proofs.Math.Path.{fun_ext}
use Rattle.std.proofs.lemmas.Bool.Decides.{nat_tests}
use Rattle.std.proofs.lemmas.Grind.{common_steps}
use Rattle.metrics_names.specs.declared.kind.MetricKind.{MetricKind}
use Rattle.metrics_names.specs.Names.{SeriesKey, series_key_eq}
use Rattle.metrics.specs.Book.{Content, Series, Description, is_of, new_series, register_in, registered_at, active_at, place}

-- ---- contents

abbrev the_book : List Series → List Bool → (MetricKind → List ℕ → Description) → Content
the_book xs marks d = record { series = xs; active = marks; described = d }

book_same : (xs ys : List Series) (ms ns : List Bool) (d e : MetricKind → List ℕ → Description) → xs ≡ ys → ms ≡ ns → d ≡ e → the_book xs ms d ≡ the_book ys ns e
book_same xs ys ms ns d e p q r = ap (λ zs. the_book zs ms d) p ∙ ap (λ zs. the_book ys zs d) q ∙ ap (the_book ys ns) r

pub content_same : (xs ys : List Series) (ms ns : List Bool) (d e : MetricKind → List ℕ → Description) → xs ≡ ys → ms ≡ ns → ((k : MetricKind) (n : List ℕ) → d k n ≡ e k n) →
    the_book xs ms d ≡ the_book ys ns e
content_same xs ys ms ns d e p q r = book_same xs ys ms ns d e p q (fun_ext (λ k. fun_ext (r k)))

-- ---- places

abbrev below_or_none : ℕ → ℕ → Option ℕ
below_or_none k n = cond (nat_lt k n) (Some k) None

below_some : (k n : ℕ) → k < n → below_or_none k n ≡ Some k
below_some k n h = let t : nat_lt k n ≡ true = lt-ltb k n h in ap (λ b. cond b (Some k) None) t

past_none : (k n : ℕ) → n ≤ k → below_or_none k n ≡ None
past_none k n h = let t : nat_lt k n ≡ false = grind (arith, nat_tests) in ap (λ b. cond b (Some k) None) t

module _ {A : Type 0} (p : A → Bool) where
  place-le : (xs : List A) → position_or_len p xs ≤ length xs
  place-le xs = prefix_len-le-length (λ x. not (p x)) xs

  pub none-length : (xs : List A) → position p xs ≡ None → position_or_len p xs ≡ length xs
  none-length xs h =
      elim (cases_lt (position_or_len p xs) (length xs)) as (λ _. position_or_len p xs ≡ length xs) [
        | inl lt ↦ absurd (some≢none (sym (below_some (position_or_len p xs) (length xs) lt) ∙ h))
        | inr le ↦ omega (arith, le, place-le xs)
      ]
    where
      some≢none : {i : ℕ} → Some i ≡ None → ⊥
      some≢none e = cc

  pub some-place : (xs : List A) (i : ℕ) → position p xs ≡ Some i → (position_or_len p xs ≡ i) × (i < length xs)
  some-place xs i h =
      elim (cases_lt (position_or_len p xs) (length xs)) as (λ _. (position_or_len p xs ≡ i) × (i < length xs)) [
        | inl lt ↦ (same lt, omega (arith, lt, same lt))
        | inr le ↦ absurd (none≢some (sym (past_none (position_or_len p xs) (length xs) le) ∙ h))
      ]
    where
      same : position_or_len p xs < length xs → position_or_len p xs ≡ i
      same lt = let e : Some (position_or_len p xs) ≡ Some i = sym (below_some (position_or_len p xs) (length xs) lt) ∙ h in cc

      none≢some : None ≡ Some i → ⊥
      none≢some e = cc

  pub none-absent : (xs : List A) → position_or_len p xs ≡ length xs → list_any p xs ≡ false
  none-absent [] h = refl
  none-absent (x ∷ xs) h =
      elim (p x) as (λ b. cond (not b) (1 + position_or_len p xs) 0 ≡ suc (length xs) → (b || list_any p xs) ≡ false) [
        | true ↦ λ e. absurd (omega (arith, e))
        | false ↦ λ e. none-absent xs (omega (arith, e))
      ] h

  pub some-there : (xs : List A) → position_or_len p xs < length xs → list_any p xs ≡ true
  some-there [] h = absurd (omega arith)
  some-there (x ∷ xs) h =
      elim (p x) as (λ b. cond (not b) (1 + position_or_len p xs) 0 < suc (length xs) → (b || list_any p xs) ≡ true) [
        | true ↦ λ e. refl
        | false ↦ λ e. some-there xs (omega (arith, e))
      ] h

  -- a push adds a place after the others
  pub push-absent : (xs : List A) (x : A) → position p xs ≡ None → p x ≡ true → position p (xs ++ x ∷ []) ≡ Some (length xs)
  push-absent xs x h e =
      let all : position_or_len p xs ≡ length xs = none-length xs h in
      let at : position_or_len p (xs ++ x ∷ []) ≡ length xs = place_push xs x (none-absent xs all) e in
      let more : length (xs ++ x ∷ []) ≡ length xs + 1 = length-append xs (x ∷ []) in
      below_some (position_or_len p (xs ++ x ∷ [])) (length (xs ++ x ∷ [])) (omega (arith, at, more)) ∙ ap Some at
    where
      place_push : (xs : List A) (x : A) → list_any p xs ≡ false → p x ≡ true → position_or_len p (xs ++ x ∷ []) ≡ length xs
      place_push [] x n h = ap (λ b. cond (not b) (1 + 0) 0) h
      place_push (y ∷ xs) x n h =
          elim (p y) as (λ b. (b || list_any p xs) ≡ false → cond (not b) (1 + position_or_len p (xs ++ x ∷ [])) 0 ≡ suc (length xs)) [
            | true ↦ λ e. absurd (true≢false e)
            | false ↦ λ e. let r = place_push xs x e h in omega (arith, r)
          ] n

  push_past : (xs : List A) (x : A) → length xs ≤ position_or_len p xs → p x ≡ false → length xs + 1 ≤ position_or_len p (xs ++ x ∷ [])
  push_past [] x h e = let r : cond (not (p x)) (1 + 0) 0 ≡ 1 = ap (λ b. cond (not b) (1 + 0) 0) e in omega (arith, r)
  push_past (y ∷ xs) x h e =
      elim (p y) as (λ b. suc (length xs) ≤ cond (not b) (1 + position_or_len p xs) 0 → suc (length xs) + 1 ≤ cond (not b) (1 + position_or_len p (xs ++ x ∷ [])) 0) [
        | true ↦ λ g. absurd (omega (arith, g))
        | false ↦ λ g. omega (arith, push_past xs x (omega (arith, g)) e)
      ] h

  pub push-other : (xs : List A) (x : A) → p x ≡ false → position p (xs ++ x ∷ []) ≡ position p xs
  push-other xs x e =
      let more : length (xs ++ x ∷ []) ≡ length xs + 1 = length-append xs (x ∷ []) in
      elim (cases_lt (position_or_len p xs) (length xs)) as (λ _. position p (xs ++ x ∷ []) ≡ position p xs) [
        | inl lt ↦
            let same : position_or_len p (xs ++ x ∷ []) ≡ position_or_len p xs = grind (arith, common_steps) in
            below_some (position_or_len p (xs ++ x ∷ [])) (length (xs ++ x ∷ [])) (omega (arith, lt, same, more)) ∙ ap Some same ∙ sym (below_some (position_or_len p xs) (length xs) lt)
        | inr le ↦
            let past : length (xs ++ x ∷ []) ≤ position_or_len p (xs ++ x ∷ []) = omega (arith, more, push_past xs x le e) in
            past_none (position_or_len p (xs ++ x ∷ [])) (length (xs ++ x ∷ [])) past ∙ sym (past_none (position_or_len p xs) (length xs) le)
      ]

abbrev pub key_of : Series → SeriesKey
key_of s = s.key

-- the places of other series with the same keys
pub position-keys : (k : SeriesKey) (xs : List Series) → position (is_of k) xs ≡ position (series_key_eq k) (map key_of xs)
position-keys k xs =
    ap (λ i. below_or_none i (length xs)) (by_keys xs) ∙ ap (below_or_none (position_or_len (series_key_eq k) (map key_of xs))) (sym (as_long xs))
  where
    as_long : (xs : List Series) → length (map key_of xs) ≡ length xs
    as_long [] = refl
    as_long (x ∷ xs) = ap suc (as_long xs)

    by_keys : (xs : List Series) → position_or_len (is_of k) xs ≡ position_or_len (series_key_eq k) (map key_of xs)
    by_keys [] = refl
    by_keys (x ∷ xs) = ap (λ i. cond (not (series_key_eq k x.key)) (1 + i) 0) (by_keys xs)

-- whether a series is held, by the place of its key
pub held-some : (k : SeriesKey) (xs : List Series) (i : ℕ) → position (is_of k) xs ≡ Some i → list_any (is_of k) xs ≡ true
held-some k xs i h = let at = some-place (is_of k) xs i h in some-there (is_of k) xs (omega (arith, at.0, at.1))

pub held-none : (k : SeriesKey) (xs : List Series) → position (is_of k) xs ≡ None → list_any (is_of k) xs ≡ false
held-none k xs h = none-absent (is_of k) xs (none-length (is_of k) xs h)

-- ---- a register call

-- a series that is registered again, and a new one
there-active : (xs : List Bool) (n : ℕ) → n < length xs → active_at n xs ≡ registered_at n xs
there-active [] n small = absurd (omega (arith, small))
there-active (x ∷ xs) zero small = refl
there-active (x ∷ xs) (suc n) small = ap (λ ys. x ∷ ys) (there-active xs n (omega (arith, small)))

new-active : (xs : List Bool) (n : ℕ) → n ≡ length xs → xs ++ true ∷ [] ≡ registered_at n xs
new-active [] zero e = refl
new-active [] (suc n) e = absurd (omega (arith, e))
new-active (x ∷ xs) zero e = absurd (omega (arith, e))
new-active (x ∷ xs) (suc n) e = ap (λ ys. x ∷ ys) (new-active xs n (omega (arith, e)))

module _ (xs : List Series) (ms : List Bool) (d : MetricKind → List ℕ → Description) (k : SeriesKey) (long : length xs ≡ length ms) where
  abbrev old : Content
  old = the_book xs ms d

  pub register_there : (ys : List Series) (ns : List Bool) (i : ℕ) → position (is_of k) xs ≡ Some i → ys ≡ xs → ns ≡ active_at i ms →
      (i ≡ place k old) × (the_book ys ns d ≡ register_in k old)
  register_there ys ns i h p q =
      let at = some-place (is_of k) xs i h in
      let any : list_any (is_of k) xs ≡ true = some-there (is_of k) xs (omega (arith, at.0, at.1)) in
      let marks : ns ≡ registered_at (place k old) ms = q ∙ there-active ms i (omega (arith, at.1, long)) ∙ ap (λ n. registered_at n ms) (sym at.0) in
      (sym at.0, book_same _ _ _ _ _ _ (p ∙ sym (ap (λ b. cond b xs (xs ++ new_series k ∷ [])) any)) marks refl)

  pub register_new : (ys : List Series) (ns : List Bool) → position (is_of k) xs ≡ None → ys ≡ xs ++ new_series k ∷ [] → ns ≡ ms ++ true ∷ [] →
      (length xs ≡ place k old) × (the_book ys ns d ≡ register_in k old)
  register_new ys ns h p q =
      let at = none-length (is_of k) xs h in
      let none : list_any (is_of k) xs ≡ false = none-absent (is_of k) xs at in
      let marks : ns ≡ registered_at (place k old) ms = q ∙ new-active ms (place k old) (at ∙ long) in
      (sym at, book_same _ _ _ _ _ _ (p ∙ sym (ap (λ b. cond b xs (xs ++ new_series k ∷ [])) none)) marks refl)
