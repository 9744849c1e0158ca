-- Where a walk ends, what its answer means, and the moves so far.
use Rattle.std.proofs.Common.{◌≡◌, ℕ, zero, suc, ◌+◌, ◌<◌, ◌≤◌, Bool, true, false, not, inl, inr, cond, List, [], ◌∷◌, ◌++◌, length, take, drop, get_or, refl, sym, ◌∙◌, ap, subst, arith, length-append, add-zero, zero-add, add-one}
use Rattle.std.specs.Str.{bytes_eq}
use Rattle.std.specs.List.{count_by, range_with_len, position_or_len}
use Rattle.std.proofs.lemmas.Bool.{cases_Bool, true≢false, cases_lt}
use Rattle.std.proofs.lemmas.List.{take_at, take-append-drop, append_assoc, length-map, get_or-map, get_or_default, map-id, take_more}
use Rattle.std.proofs.lemmas.List.FromFn.{length-range_with_len, get_or-range_with_len, map-range_with_len_more}
use Rattle.std.proofs.lemmas.List.Sums.{position_or_len_is, fails_before_first, passes_at_first, sum_by_push, prefix_len-le-length}
use Rattle.prefix_match.specs.Substring.{Patterns, compared, lowered, lowered_byte, Occurs, OccursWithin, some_ends, longest_front, walk_end, moves_at, moves}
use Rattle.prefix_match.proofs.SubstringFronts.{same_bytes, bytes_same, bytes_differ, longest_front_nil, length-longest_front_push, longest_front_ends, some_ends_front, some_ends_place, some_ends_at}

pub walk_end_is : (ps : List (List ℕ)) (t : List ℕ) (n : ℕ) → n ≤ length t → ((k : ℕ) → k < n → some_ends ps (take k t) ≡ false) → (n < length t → some_ends ps (take n t) ≡ true) → walk_end ps t ≡ n
unfolding walk_end
walk_end_is ps t n h before hit =
    let p : ℕ → Bool = λ k. some_ends ps (take k t) in
    let xs : List ℕ = range_with_len 0 (length t) in
    let l : length xs ≡ length t = length-range_with_len 0 (length t) in
    let at : (k : ℕ) → k < length t → get_or xs k 0 ≡ k = λ k e. get_or-range_with_len 0 (length t) k 0 e ∙ zero-add k in
    position_or_len_is p xs n 0 (omega arith) (λ k e. ap p (at k (omega arith)) ∙ before k e) (λ e. ap p (at n (omega arith)) ∙ hit (omega arith))

pub walk_end-le : (ps : List (List ℕ)) (t : List ℕ) → walk_end ps t ≤ length t
unfolding walk_end
walk_end-le ps t =
    let xs : List ℕ = range_with_len 0 (length t) in
    omega (arith, length-range_with_len 0 (length t), prefix_len-le-length (λ k. not (some_ends ps (take k t))) xs)

before_end : (ps : List (List ℕ)) (t : List ℕ) (k : ℕ) → k < walk_end ps t → some_ends ps (take k t) ≡ false
unfolding walk_end
before_end ps t k h =
    let p : ℕ → Bool = λ k. some_ends ps (take k t) in
    let xs : List ℕ = range_with_len 0 (length t) in
    let le : walk_end ps t ≤ length t = walk_end-le ps t in
    ap p (sym (get_or-range_with_len 0 (length t) k 0 (omega arith) ∙ zero-add k)) ∙ fails_before_first p xs k 0 h

at_end : (ps : List (List ℕ)) (t : List ℕ) → walk_end ps t < length t → some_ends ps (take (walk_end ps t) t) ≡ true
unfolding walk_end
at_end ps t h =
    let p : ℕ → Bool = λ k. some_ends ps (take k t) in
    let xs : List ℕ = range_with_len 0 (length t) in
    let l : length xs ≡ length t = length-range_with_len 0 (length t) in
    ap p (sym (get_or-range_with_len 0 (length t) (position_or_len p xs) 0 h ∙ zero-add _)) ∙ passes_at_first p xs 0 (omega arith)

-- a pattern that ends somewhere ends where the walk does
pub ends_at_end : (ps : List (List ℕ)) (t : List ℕ) (n : ℕ) → n ≤ length t → some_ends ps (take n t) ≡ true → some_ends ps (take (walk_end ps t) t) ≡ true
ends_at_end ps t n h e =
    elim (cases_lt (walk_end ps t) (length t)) [
      | inl early ↦ at_end ps t early
      | inr late ↦ elim (cases_lt n (walk_end ps t)) [
        | inl a ↦ absurd (true≢false (sym e ∙ before_end ps t n a))
        | inr b ↦ (let same : walk_end ps t ≡ n = omega (arith, walk_end-le ps t) in rw same e)
      ]
    ]

-- what occurs in the text ends at some place of it
pub ends_from_occurs : (s : Patterns) (text : List ℕ) → Occurs s text → some_ends (compared s) (take (walk_end (compared s) (lowered s.fold_case text)) (lowered s.fold_case text)) ≡ true
ends_from_occurs s text o =
    let ps : List (List ℕ) = compared s in
    let t : List ℕ = lowered s.fold_case text in
    let k : ℕ = o.3.0.0 in
    let lp : List ℕ = lowered s.fold_case o.0 in
    let inside : k < length s.listed = o.3.0.1 in
    let same : get_or s.listed k [] ≡ o.0 = get_or_default s.listed k [] o.0 inside ∙ o.3.0.2 in
    let there : get_or ps k [] ≡ lp = get_or-map (lowered s.fold_case) s.listed k [] [] inside ∙ ap (lowered s.fold_case) same in
    let n : ℕ = length (o.1 ++ lp) in
    let cut : take n t ≡ o.1 ++ lp = ap (take n) o.3.1 ∙ take_at (o.1 ++ lp) o.2 n refl in
    let within : k < length ps = omega (arith, length-map s.listed (lowered s.fold_case)) in
    let e : some_ends ps (o.1 ++ lp) ≡ true = ap (λ u. some_ends ps (o.1 ++ u)) (sym there) ∙ some_ends_at ps k o.1 within in
    ends_at_end ps t n (omega (arith, ap length o.3.1, length-append (o.1 ++ lp) o.2)) (ap (some_ends ps) cut ∙ e)

-- a pattern that ends at a place has at most the bytes of the longest prefix there
pub occurs_within : (s : Patterns) (text : List ℕ) (n m : ℕ) → some_ends (compared s) (take n (lowered s.fold_case text)) ≡ true → length (longest_front (compared s) (take n (lowered s.fold_case text))) ≤ m → OccursWithin s text m
occurs_within s text n m e short =
    let ps : List (List ℕ) = compared s in
    let t : List ℕ = lowered s.fold_case text in
    let w : List ℕ = take n t in
    let u : List ℕ = longest_front ps w in
    let end = longest_front_ends ps w in
    let h = some_ends_place ps u (sym (some_ends_front ps w) ∙ e) in
    let k : ℕ = h.0 in
    let p : List ℕ = get_or s.listed k [] in
    let inside : k < length s.listed = omega (arith, h.2.0, length-map s.listed (lowered s.fold_case)) in
    let there : get_or ps k [] ≡ lowered s.fold_case p = get_or-map (lowered s.fold_case) s.listed k [] [] inside in
    let lp : List ℕ = lowered s.fold_case p in
    let ends : u ≡ h.1 ++ lp = h.2.1 ∙ ap (λ v. h.1 ++ v) there in
    let whole : t ≡ ((end.0 ++ h.1) ++ lp) ++ drop n t =
    sym (take-append-drop n t) ∙ ap (λ v. v ++ drop n t) (end.1 ∙ ap (λ v. end.0 ++ v) ends ∙ sym (append_assoc end.0 h.1 lp)) in
    (p, end.0 ++ h.1, drop n t, ((k, inside, get_or_default s.listed k p [] inside), whole, omega (arith, ap length ends, length-append h.1 lp, length-map p (lowered_byte s.fold_case))))

-- the moves among the first n bytes
abbrev pub moves_to : List (List ℕ) → List ℕ → ℕ → ℕ
moves_to ps t n = count_by (moves_at ps t) (range_with_len 0 n)

range_more : (n : ℕ) → range_with_len 0 (n + 1) ≡ range_with_len 0 n ++ n ∷ []
range_more n =
    sym (map-id (range_with_len 0 (n + 1))) ∙ map-range_with_len_more (λ k. k) 0 n n (zero-add n) ∙ ap (λ xs. xs ++ n ∷ []) (map-id (range_with_len 0 n))

moves_to_more : (ps : List (List ℕ)) (t : List ℕ) (n : ℕ) → moves_to ps t (n + 1) ≡ moves_to ps t n + cond (moves_at ps t n) 1 0
moves_to_more ps t n = ap (count_by (moves_at ps t)) (range_more n) ∙ sum_by_push (λ k. cond (moves_at ps t k) 1 0) (range_with_len 0 n) n

pub moves_to_stay : (ps : List (List ℕ)) (t : List ℕ) (n : ℕ) → longest_front ps (take (n + 1) t) ≡ longest_front ps (take n t) → moves_to ps t (n + 1) ≡ moves_to ps t n
unfolding moves_at
moves_to_stay ps t n e =
    moves_to_more ps t n ∙ ap (λ b. moves_to ps t n + cond (not b) 1 0) (bytes_same _ _ e) ∙ add-zero _

pub moves_to_go : (ps : List (List ℕ)) (t : List ℕ) (n : ℕ) → (longest_front ps (take (n + 1) t) ≡ longest_front ps (take n t) → ⊥) → moves_to ps t (n + 1) ≡ moves_to ps t n + 1
unfolding moves_at
moves_to_go ps t n h =
    moves_to_more ps t n ∙ ap (λ b. moves_to ps t n + cond (not b) 1 0) (bytes_differ _ _ h)

-- as many moves as the longest prefix has bytes
pub length-le-moves_to : (ps : List (List ℕ)) (t : List ℕ) (n : ℕ) → n ≤ length t → length (longest_front ps (take n t)) ≤ moves_to ps t n
length-le-moves_to ps t zero h = rw longest_front_nil (omega arith)
length-le-moves_to ps t (suc n) h =
    let before : length (longest_front ps (take n t)) ≤ moves_to ps t n = length-le-moves_to ps t n (omega arith) in
    let more : take (n + 1) t ≡ take n t ++ get_or t n 0 ∷ [] = take_more t n 0 (omega arith) in
    let grows : length (longest_front ps (take (n + 1) t)) ≤ length (longest_front ps (take n t)) + 1 =
    omega (arith, ap (λ w. length (longest_front ps w)) more, length-longest_front_push ps (take n t) (get_or t n 0)) in
    subst (λ k. length (longest_front ps (take k t)) ≤ moves_to ps t k) (add-one n) (elim (cases_Bool (bytes_eq (longest_front ps (take (n + 1) t)) (longest_front ps (take n t)))) [
      | inl e ↦ (let same : longest_front ps (take (n + 1) t) ≡ longest_front ps (take n t) = same_bytes _ _ e in omega (arith, ap length same, moves_to_stay ps t n same))
      | inr d ↦ omega (arith, moves_to_go ps t n (λ e. true≢false (sym (bytes_same _ _ e) ∙ d)))
    ])

pub moves_is : (ps : List (List ℕ)) (t : List ℕ) (n : ℕ) → walk_end ps t ≡ n → moves_to ps t n ≡ moves ps t
unfolding moves
moves_is ps t n e = rw e refl
