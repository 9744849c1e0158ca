-- Lists cut into chunks of 64, and one value more.
use Rattle.std.proofs.Common.{◌≡◌, ◌==◌, ℕ, zero, suc, ◌+◌, ◌%◌, ◌<◌, ◌≤◌, inl, inr, List, [], ◌∷◌, ◌++◌, length, take, drop, refl, ap, sym, ◌∙◌, subst, arith, length-append, length-drop, append-nil, append_assoc, take_at}
use Rattle.std.proofs.Math.Dec.{eqb-suc-zero}
use Rattle.std.proofs.lemmas.List.{take_all, drop_at}
use Rattle.std.proofs.Math.ListN.{drop_of_length-le}
use Rattle.metrics.specs.Book.{chunks_within, chunks, joined_lists}
use Rattle.metrics_storage.specs.Bucket.{AreChunks, AddsToLast, HasNoRoom}

module _ {A : Type 0} where
  -- a larger limit changes nothing
  within : (n m : ℕ) (xs : List A) → length xs ≤ n → length xs ≤ m → chunks_within n xs ≡ chunks_within m xs
  within zero zero [] h g = refl
  within zero (suc m) [] h g = refl
  within (suc n) zero [] h g = refl
  within (suc n) (suc m) [] h g = refl
  within zero m (x ∷ xs) h g = absurd (omega arith)
  within (suc n) zero (x ∷ xs) h g = absurd (omega arith)
  within (suc n) (suc m) (x ∷ xs) h g =
      let d : length (drop 64 (x ∷ xs)) + 1 ≤ length (x ∷ xs) = omega (arith, length-drop 64 (x ∷ xs)) in
      ap (λ rest. take 64 (x ∷ xs) ∷ rest) (within n m (drop 64 (x ∷ xs)) (omega (arith, d)) (omega (arith, d)))

  chunks-step : (xs : List A) → 0 < length xs → chunks xs ≡ take 64 xs ∷ chunks (drop 64 xs)
  chunks-step [] h = absurd (omega arith)
  chunks-step (x ∷ xs) h =
      let d : length (drop 64 (x ∷ xs)) + 1 ≤ length (x ∷ xs) = omega (arith, length-drop 64 (x ∷ xs)) in
      ap (λ rest. take 64 (x ∷ xs) ∷ rest) (within (length xs) (length (drop 64 (x ∷ xs))) (drop 64 (x ∷ xs)) (omega (arith, d)) (omega arith))

  chunks-one : (xs : List A) → 0 < length xs → length xs ≤ 64 → chunks xs ≡ xs ∷ []
  chunks-one xs h g = chunks-step xs h ∙ ap (λ ys. ys ∷ chunks (drop 64 xs)) (take_all 64 xs g) ∙ ap (λ ys. xs ∷ chunks ys) (drop_of_length-le xs g)

  -- the blocks of a bucket are the chunks of what they hold together
  pub chunks-joined : (cs : List (List A)) → AreChunks cs → chunks (joined_lists cs) ≡ cs
  chunks-joined [] h = refl
  chunks-joined (c ∷ []) h = ap chunks (append-nil c) ∙ chunks-one c h.0 h.1
  chunks-joined (c ∷ d ∷ cs) h =
      let rest = joined_lists (d ∷ cs) in
      chunks-step (c ++ rest) (omega (arith, length-append c rest, h.0))
      ∙ ap (λ ys. ys ∷ chunks (drop 64 (c ++ rest))) (take_at c rest 64 h.0)
      ∙ ap (λ ys. c ∷ chunks ys) (drop_at c rest 64 h.0)
      ∙ ap (λ ys. c ∷ ys) (chunks-joined (d ∷ cs) h.1)

  joined-append : (front : List (List A)) (c : List A) → joined_lists (front ++ c ∷ []) ≡ joined_lists front ++ c
  joined-append [] c = append-nil c
  joined-append (d ∷ front) c = ap (λ ys. d ++ ys) (joined-append front c) ∙ sym (append_assoc d (joined_lists front) c)

  -- the last chunk may become another one
  last_changes : (front : List (List A)) (c d : List A) → AreChunks (front ++ c ∷ []) → 0 < length d → length d ≤ 64 → AreChunks (front ++ d ∷ [])
  last_changes [] c d h some fits = (some, fits)
  last_changes (e ∷ []) c d h some fits = (h.0, last_changes [] c d h.1 some fits)
  last_changes (e ∷ f ∷ front) c d h some fits = (h.0, last_changes (f ∷ front) c d h.1 some fits)

  -- after a full chunk another one may follow
  one_follows : (front : List (List A)) (c d : List A) → AreChunks (front ++ c ∷ []) → length c ≡ 64 → 0 < length d → length d ≤ 64 → AreChunks ((front ++ c ∷ []) ++ d ∷ [])
  one_follows [] c d h full some fits = (full, (some, fits))
  one_follows (e ∷ []) c d h full some fits = (h.0, one_follows [] c d h.1 full some fits)
  one_follows (e ∷ f ∷ front) c d h full some fits = (h.0, one_follows (f ∷ front) c d h.1 full some fits)

  -- chunks whose last one is full hold a multiple of 64
  all_full : (front : List (List A)) (c : List A) → AreChunks (front ++ c ∷ []) → length c ≡ 64 → length (joined_lists (front ++ c ∷ [])) % 64 ≡ 0
  all_full [] c h full = omega (arith, length-append c [])
  all_full (e ∷ []) c h full = let rest = joined_lists (c ∷ []) in omega (arith, length-append e rest, h.0, all_full [] c h.1 full)
  all_full (e ∷ f ∷ front) c h full = let rest = joined_lists ((f ∷ front) ++ c ∷ []) in omega (arith, length-append e rest, h.0, all_full (f ∷ front) c h.1 full)

  -- ---- a push into the last block

  pub added_chunks : (old new : List (List A)) (x : A) → AddsToLast old x new → AreChunks old → AreChunks new
  added_chunks old new x a h =
      let last = a.1 in let more = length-append last (x ∷ []) in
      subst AreChunks (sym a.4) (last_changes a.0 last (last ++ x ∷ []) (subst AreChunks a.3 h) (omega (arith, a.2)) (omega (arith, a.2)))

  pub added_values : (old new : List (List A)) (x : A) → AddsToLast old x new → joined_lists new ≡ joined_lists old ++ x ∷ []
  added_values old new x a =
      ap joined_lists a.4 ∙ joined-append a.0 (a.1 ++ x ∷ []) ∙ sym (append_assoc (joined_lists a.0) a.1 (x ∷ []))
      ∙ ap (λ l. l ++ x ∷ []) (sym (joined-append a.0 a.1) ∙ ap joined_lists (sym a.3))

  -- ---- a push into a new block

  pub new_chunks : (old : List (List A)) (x : A) → HasNoRoom old → AreChunks old → AreChunks (old ++ (x ∷ []) ∷ [])
  new_chunks old x (inl e) h = subst (λ l. AreChunks (l ++ (x ∷ []) ∷ [])) (sym e) (omega arith, omega arith)
  new_chunks old x (inr f) h = subst (λ l. AreChunks (l ++ (x ∷ []) ∷ [])) (sym f.3) (one_follows f.0 f.1 (x ∷ []) (subst AreChunks f.3 h) f.2 (omega arith) (omega arith))

  pub new_values : (old : List (List A)) (x : A) → joined_lists (old ++ (x ∷ []) ∷ []) ≡ joined_lists old ++ x ∷ []
  new_values old x = joined-append old (x ∷ [])

  -- if no block has room, the values are a multiple of 64
  pub no_room : (old : List (List A)) → HasNoRoom old → AreChunks old → length (joined_lists old) % 64 ≡ 0
  no_room old (inl e) h = subst (λ l. length (joined_lists l) % 64 ≡ 0) (sym e) refl
  no_room old (inr f) h = subst (λ l. length (joined_lists l) % 64 ≡ 0) (sym f.3) (all_full f.0 f.1 (subst AreChunks f.3 h) f.2)

-- ---- nothing held

both_some : (m n : ℕ) → 0 < m → 0 < n → (m == 0) ≡ (n == 0)
both_some zero n h g = absurd (omega arith)
both_some (suc m) zero h g = absurd (omega arith)
both_some (suc m) (suc n) h g = eqb-suc-zero m ∙ sym (eqb-suc-zero n)

-- there is a block exactly if there is a value
pub empty_same : {A : Type 0} (cs : List (List A)) → AreChunks cs → (length cs == 0) ≡ (length (joined_lists cs) == 0)
empty_same [] h = refl
empty_same (c ∷ []) h = both_some 1 (length (c ++ [])) (omega arith) (omega (arith, length-append c [], h.0))
empty_same (c ∷ d ∷ cs) h = let rest = joined_lists (d ∷ cs) in both_some (length (c ∷ d ∷ cs)) (length (c ++ rest)) (omega arith) (omega (arith, length-append c rest, h.0))

-- if there is a block there is a value
pub some_same : {A : Type 0} (cs : List (List A)) → AreChunks cs → 0 < length cs → 0 < length (joined_lists cs)
some_same [] h some = absurd (omega (arith, some))
some_same (c ∷ []) h some = omega (arith, length-append c [], h.0)
some_same (c ∷ d ∷ cs) h some = let rest = joined_lists (d ∷ cs) in omega (arith, length-append c rest, h.0)
