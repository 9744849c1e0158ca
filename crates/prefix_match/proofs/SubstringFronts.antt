-- Prefixes and suffixes of the patterns, and the longest prefix of one that ends a list.
use Rattle.std.proofs.Common.{◌≡◌, ℕ, suc, ◌+◌, ◌-◌, ◌<◌, ◌≤◌, Bool, true, false, ◌||◌, ◌⊎◌, inl, inr, List, [], ◌∷◌, ◌++◌, length, take, drop, get_or, refl, sym, ◌∙◌, ap, arith, length-append}
use Rattle.std.specs.Str.{bytes_eq}
use Rattle.std.specs.List.{list_any}
use Rattle.std.proofs.lemmas.Bool.{cases_Bool, or_cases, or_left, or_right, false≢true, true≢false, cases_lt, false_from_ne_true}
use Rattle.std.proofs.lemmas.Slice.Eq.{bytes_eq-Decides}
use Rattle.std.proofs.lemmas.List.{take-take, take_at, take_all, take-append-drop, drop_at}
use Rattle.std.proofs.lemmas.List.Folds.{list_any_at}
use Rattle.prefix_match.specs.Substring.{is_front, some_ends, is_pattern, longest_front}

pub same_bytes : (xs ys : List ℕ) → bytes_eq xs ys ≡ true → xs ≡ ys
same_bytes xs ys h = (bytes_eq-Decides xs ys).0 h

pub bytes_same : (xs ys : List ℕ) → xs ≡ ys → bytes_eq xs ys ≡ true
bytes_same xs ys h = (bytes_eq-Decides xs ys).1 h

pub bytes_differ : (xs ys : List ℕ) → (xs ≡ ys → ⊥) → bytes_eq xs ys ≡ false
bytes_differ xs ys h = false_from_ne_true _ (λ e. h (same_bytes xs ys e))

-- if one test passes, so does the other
any_from_any : (p q : List ℕ → Bool) → ((x : List ℕ) → p x ≡ true → q x ≡ true) → (xs : List (List ℕ)) → list_any p xs ≡ true → list_any q xs ≡ true
any_from_any p q h [] e = e
any_from_any p q h (x ∷ xs) e =
    elim (or_cases (p x) (list_any p xs) e) [ inl a ↦ or_left _ _ (h x a) | inr b ↦ or_right _ _ (any_from_any p q h xs b) ]

any_or : (p q r : List ℕ → Bool) → ((x : List ℕ) → p x ≡ (q x || r x)) → (xs : List (List ℕ)) → list_any p xs ≡ (list_any q xs || list_any r xs)
any_or p q r h [] = refl
any_or p q r h (x ∷ xs) =
    rw (h x, any_or p q r h xs) (elim (q x) as (λ b. ((b || r x) || (list_any q xs || list_any r xs)) ≡ ((b || list_any q xs) || (r x || list_any r xs))) [
      | true ↦ refl
      | false ↦ elim (r x) as (λ b. (b || (list_any q xs || list_any r xs)) ≡ (list_any q xs || (b || list_any r xs))) [
        | true ↦ elim (list_any q xs) as (λ b. true ≡ (b || true)) [ true ↦ refl | false ↦ refl ]
        | false ↦ refl
      ]
    ])

any_place : (p : List ℕ → Bool) (xs : List (List ℕ)) → list_any p xs ≡ true → (k : ℕ) × (k < length xs) × (p (get_or xs k []) ≡ true)
any_place p [] e = absurd (false≢true e)
any_place p (x ∷ xs) e =
    elim (or_cases (p x) (list_any p xs) e) [
      | inl a ↦ (0, omega arith, a)
      | inr b ↦ (let h = any_place p xs b in (suc h.0, omega arith, h.2))
    ]

shorter_front : (p w v : List ℕ) → take (length (w ++ v)) p ≡ w ++ v → take (length w) p ≡ w
shorter_front p w v e =
    sym (take-take (length w) (length (w ++ v)) p (omega (arith, length-append w v))) ∙ ap (take (length w)) e ∙ take_at w v (length w) refl

pub is_front_shorter : (ps : List (List ℕ)) (w v : List ℕ) → is_front ps (w ++ v) ≡ true → is_front ps w ≡ true
unfolding is_front
is_front_shorter ps w v h =
    any_from_any (λ p. bytes_eq (take (length (w ++ v)) p) (w ++ v)) (λ p. bytes_eq (take (length w) p) w)
    (λ p e. bytes_same _ _ (shorter_front p w v (same_bytes _ _ e))) ps h

pub is_front_place : (ps : List (List ℕ)) (w : List ℕ) → is_front ps w ≡ true → (k : ℕ) × (k < length ps) × (take (length w) (get_or ps k []) ≡ w)
unfolding is_front
is_front_place ps w h =
    let a = any_place (λ p. bytes_eq (take (length w) p) w) ps h in (a.0, a.1, same_bytes _ _ a.2)

pub is_front_at : (ps : List (List ℕ)) (k : ℕ) (w : List ℕ) → k < length ps → take (length w) (get_or ps k []) ≡ w → is_front ps w ≡ true
unfolding is_front
is_front_at ps k w h e = list_any_at (λ p. bytes_eq (take (length w) p) w) ps k [] h (bytes_same _ _ e)

pub is_front-pattern : (ps : List (List ℕ)) (w : List ℕ) → is_pattern ps w ≡ true → is_front ps w ≡ true
is_front-pattern ps w h =
    let a = any_place (λ p. bytes_eq p w) ps h in
    let e : get_or ps a.0 [] ≡ w = same_bytes _ _ a.2 in
    is_front_at ps a.0 w a.1 (rw e (take_all (length w) w (omega arith)))

pub longest_front_nil : (ps : List (List ℕ)) → longest_front ps [] ≡ []
unfolding longest_front
longest_front_nil ps = refl

pub longest_front_itself : (ps : List (List ℕ)) (w : List ℕ) → is_front ps w ≡ true → longest_front ps w ≡ w
unfolding longest_front
longest_front_itself ps [] h = refl
longest_front_itself ps (b ∷ w) h = rw h refl

pub longest_front_tail : (ps : List (List ℕ)) (b : ℕ) (w : List ℕ) → is_front ps (b ∷ w) ≡ false → longest_front ps (b ∷ w) ≡ longest_front ps w
unfolding longest_front
longest_front_tail ps b w h = rw h refl

pub not_longer_front : (ps : List (List ℕ)) (w v : List ℕ) → is_front ps w ≡ false → is_front ps (w ++ v) ≡ false
not_longer_front ps w v h =
    false_from_ne_true _ (λ e. false≢true (sym h ∙ is_front_shorter ps w v e))

-- one byte more: only the longest prefix so far matters
pub longest_front_push : (ps : List (List ℕ)) (w : List ℕ) (b : ℕ) → longest_front ps (w ++ b ∷ []) ≡ longest_front ps (longest_front ps w ++ b ∷ [])
longest_front_push ps [] b = rw longest_front_nil refl
longest_front_push ps (c ∷ w) b =
    elim (cases_Bool (is_front ps (c ∷ w))) [
      | inl e ↦ sym (ap (λ u. longest_front ps (u ++ b ∷ [])) (longest_front_itself ps (c ∷ w) e))
      | inr n ↦ longest_front_tail ps c (w ++ b ∷ []) (not_longer_front ps (c ∷ w) (b ∷ []) n) ∙ longest_front_push ps w b ∙ sym (ap (λ u. longest_front ps (u ++ b ∷ [])) (longest_front_tail ps c w n))
    ]

pub length-longest_front : (ps : List (List ℕ)) (w : List ℕ) → length (longest_front ps w) ≤ length w
length-longest_front ps [] = rw longest_front_nil (omega arith)
length-longest_front ps (b ∷ w) =
    elim (cases_Bool (is_front ps (b ∷ w))) [
      | inl e ↦ rw (longest_front_itself ps (b ∷ w) e) (omega arith)
      | inr n ↦ rw (longest_front_tail ps b w n) (omega (arith, length-longest_front ps w))
    ]

pub length-longest_front_push : (ps : List (List ℕ)) (w : List ℕ) (b : ℕ) → length (longest_front ps (w ++ b ∷ [])) ≤ length (longest_front ps w) + 1
length-longest_front_push ps w b =
    rw (longest_front_push ps w b) (omega (arith, length-longest_front ps (longest_front ps w ++ b ∷ []), length-append (longest_front ps w) (b ∷ [])))

pub longest_front_is : (ps : List (List ℕ)) (w : List ℕ) → (is_front ps (longest_front ps w) ≡ true) ⊎ (longest_front ps w ≡ [])
longest_front_is ps [] = inr (longest_front_nil ps)
longest_front_is ps (b ∷ w) =
    elim (cases_Bool (is_front ps (b ∷ w))) [
      | inl e ↦ inl (rw (longest_front_itself ps (b ∷ w) e) e)
      | inr n ↦ rw (longest_front_tail ps b w n) (longest_front_is ps w)
    ]

ends_cons : (p : List ℕ) (c : ℕ) (w : List ℕ) → bytes_eq (drop (length (c ∷ w) - length p) (c ∷ w)) p ≡ (bytes_eq p (c ∷ w) || bytes_eq (drop (length w - length p) w) p)
ends_cons p c w =
    elim (cases_lt (length w) (length p)) [
      | inl long ↦ (
          let z : length (c ∷ w) - length p ≡ 0 = omega arith in
          let zz : length w - length p ≡ 0 = omega arith in
          let no : bytes_eq w p ≡ false = bytes_differ w p (λ e. absurd (omega (arith, ap length e))) in
          rw (z, zz, no)
          (elim (cases_Bool (bytes_eq p (c ∷ w))) [
            | inl e ↦ rw e (bytes_same (c ∷ w) p (sym (same_bytes p (c ∷ w) e)))
            | inr n ↦ rw n (bytes_differ _ _ (λ e. true≢false (sym (bytes_same p (c ∷ w) (sym e)) ∙ n)))
          ]))
      | inr short ↦ (
          let s : length (c ∷ w) - length p ≡ suc (length w - length p) = omega arith in
          let no : bytes_eq p (c ∷ w) ≡ false = bytes_differ p (c ∷ w) (λ e. absurd (omega (arith, ap length e))) in
          rw (s, no) refl)
    ]

pub some_ends_cons : (ps : List (List ℕ)) (c : ℕ) (w : List ℕ) → some_ends ps (c ∷ w) ≡ (is_pattern ps (c ∷ w) || some_ends ps w)
unfolding some_ends
some_ends_cons ps c w = any_or _ _ _ (λ p. ends_cons p c w) ps

no_more : (p : List ℕ) → drop (length (let w : List ℕ = [] in w) - length p) (let w : List ℕ = [] in w) ≡ []
no_more [] = refl
no_more (b ∷ p) = let z : 0 - suc (length p) ≡ 0 = omega arith in rw z refl

either_way : (p : List ℕ) → bytes_eq [] p ≡ bytes_eq p []
either_way [] = refl
either_way (b ∷ p) = refl

pub some_ends_nil : (ps : List (List ℕ)) → some_ends ps [] ≡ is_pattern ps []
unfolding some_ends
some_ends_nil [] = refl
some_ends_nil (p ∷ ps) = rw (no_more p, some_ends_nil ps) (ap (λ b. b || is_pattern ps []) (either_way p))

pub not_pattern : (ps : List (List ℕ)) (w : List ℕ) → is_front ps w ≡ false → is_pattern ps w ≡ false
not_pattern ps w h = false_from_ne_true _ (λ e. false≢true (sym h ∙ is_front-pattern ps w e))

-- what ends a list ends its longest prefix
pub some_ends_front : (ps : List (List ℕ)) (w : List ℕ) → some_ends ps w ≡ some_ends ps (longest_front ps w)
some_ends_front ps [] = rw longest_front_nil refl
some_ends_front ps (c ∷ w) =
    elim (cases_Bool (is_front ps (c ∷ w))) [
      | inl e ↦ rw (longest_front_itself ps (c ∷ w) e) refl
      | inr n ↦ rw (longest_front_tail ps c w n) (some_ends_cons ps c w ∙ ap (λ b. b || some_ends ps w) (not_pattern ps (c ∷ w) n) ∙ some_ends_front ps w)
    ]

-- the longest prefix is an end
pub longest_front_ends : (ps : List (List ℕ)) (w : List ℕ) → (a : List ℕ) × (w ≡ a ++ longest_front ps w)
longest_front_ends ps [] = ([], sym (longest_front_nil ps))
longest_front_ends ps (c ∷ w) =
    elim (cases_Bool (is_front ps (c ∷ w))) [
      | inl e ↦ ([], sym (longest_front_itself ps (c ∷ w) e))
      | inr n ↦ (let h = longest_front_ends ps w in (c ∷ h.0, rw (longest_front_tail ps c w n) (ap (λ u. c ∷ u) h.1)))
    ]

pub longest_front_again : (ps : List (List ℕ)) (w : List ℕ) → longest_front ps (longest_front ps w) ≡ longest_front ps w
longest_front_again ps w =
    elim (longest_front_is ps w) [
      | inl e ↦ longest_front_itself ps (longest_front ps w) e
      | inr n ↦ rw n (longest_front_nil ps)
    ]

-- a place of a pattern that is an end
pub some_ends_place : (ps : List (List ℕ)) (w : List ℕ) → some_ends ps w ≡ true → (k : ℕ) × (a : List ℕ) × ((k < length ps) × (w ≡ a ++ get_or ps k []))
unfolding some_ends
some_ends_place ps w h =
    let s = any_place (λ p. bytes_eq (drop (length w - length p) w) p) ps h in
    let p : List ℕ = get_or ps s.0 [] in
    let n : ℕ = length w - length p in
    (s.0, take n w, (s.1, sym (ap (λ u. take n w ++ u) (sym (same_bytes (drop n w) p s.2)) ∙ take-append-drop n w)))

pub some_ends_at : (ps : List (List ℕ)) (k : ℕ) (a : List ℕ) → k < length ps → some_ends ps (a ++ get_or ps k []) ≡ true
unfolding some_ends
some_ends_at ps k a h =
    let p : List ℕ = get_or ps k [] in
    list_any_at (λ q. bytes_eq (drop (length (a ++ p) - length q) (a ++ p)) q) ps k [] h
    (bytes_same _ p (drop_at a p (length (a ++ p) - length p) (omega (arith, length-append a p))))
