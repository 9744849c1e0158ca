-- The shards of a map, seen as one list of entries.
use Rattle.std.proofs.Common.{◌≡◌, ℕ, zero, suc, ◌+◌, ◌<◌, ◌%◌, Bool, true, false, cond, List, [], ◌∷◌, ◌++◌, Option, None, Some, refl, sym, ◌∙◌, ap, subst, length, get_or, set, take, add-one, arith}
use Rattle.std.specs.Cmp.{IsEquivalence}
use Rattle.std.specs.List.{IsDistinct, AllByRecursion, FoldsTo}
use Rattle.std.specs.Map.{lookup, keys_of}
use Rattle.std.proofs.lemmas.Bool.{cond-true, cond-false}
use Rattle.std.proofs.lemmas.List.{get_or-set_same, get_or-set_other, get_or_default, length-set, append-nil, append_assoc}
use Rattle.std.proofs.Math.Nat.{mod-lt}
use Rattle.std.proofs.lemmas.Map.{NonePasses, none_passes_from_lookup}
use Rattle.metrics_registry.specs.Held.{Sets, entries_of, AreOf, ArePlaced}

pub by_answer : {P : Type 0} (b : Bool) → (b ≡ true → P) → (b ≡ false → P) → P
by_answer true p q = p refl
by_answer false p q = q refl

pub by_place : {P : Type 0} (i j : ℕ) → (i ≡ j → P) → ((i ≡ j → ⊥) → P) → P
by_place zero zero p q = p refl
by_place zero (suc j) p q = q (λ e. omega (arith, e))
by_place (suc i) zero p q = q (λ e. omega (arith, e))
by_place (suc i) (suc j) p q = by_place i j (λ e. p (ap suc e)) (λ ne. q (λ e. ne (omega (arith, e))))

pub lookup-append_none : {K C : Type 0} (test : K → Bool) (xs ys : List (K × C)) → lookup test xs ≡ None → lookup test (xs ++ ys) ≡ lookup test ys
lookup-append_none test [] ys none = refl
lookup-append_none test (x ∷ xs) ys none =
    by_answer (test x.0)
    (λ t. cc (cond-true (test x.0) (Some x.1) (lookup test xs) t, none))
    (λ f. cond-false (test x.0) (Some x.1) (lookup test (xs ++ ys)) f ∙ lookup-append_none test xs ys (sym (cond-false (test x.0) (Some x.1) (lookup test xs) f) ∙ none))

pub lookup-append_rest : {K C : Type 0} (test : K → Bool) (xs ys : List (K × C)) → lookup test ys ≡ None → lookup test (xs ++ ys) ≡ lookup test xs
lookup-append_rest test [] ys none = none
lookup-append_rest test (x ∷ xs) ys none = ap (λ l. cond (test x.0) (Some x.1) l) (lookup-append_rest test xs ys none)

module _ {K C : Type 0} {eq : K → K → Bool} (laws : IsEquivalence eq) (number : K → ℕ) (same : (x y : K) → eq x y ≡ true → number x ≡ number y) (count : ℕ) where
  -- no key of another shard is found
  pub none-elsewhere : (shard : ℕ) (es : List (K × C)) (q : K) → (number q % count ≡ shard → ⊥) → AreOf number count shard es → lookup (eq q) es ≡ None
  none-elsewhere shard [] q apart of = refl
  none-elsewhere shard (e ∷ es) q apart of =
      by_answer (eq q e.0)
      (λ t. absurd (apart (ap (λ n. n % count) (same q e.0 t) ∙ of.0)))
      (λ f. cond-false (eq q e.0) (Some e.1) (lookup (eq q) es) f ∙ none-elsewhere shard es q apart of.1)

  -- what is found shows where the keys belong
  pub are-of : (shard : ℕ) (es : List (K × C)) → ((q : K) → (lookup (eq q) es ≡ None → ⊥) → number q % count ≡ shard) → AreOf number count shard es
  are-of shard [] found = tt
  are-of shard (e ∷ es) found = (
    found e.0 (λ none. cc (cond-true (eq e.0 e.0) (Some e.1) (lookup (eq e.0) es) (laws.refl e.0), none)),
    are-of shard es (λ q some. found q (λ none. by_answer (eq q e.0)
        (λ t. cc (cond-true (eq q e.0) (Some e.1) (lookup (eq q) es) t, none))
        (λ f. some (sym (cond-false (eq q e.0) (Some e.1) (lookup (eq q) es) f) ∙ none)))),
  )

  pub are-of-set : (shard : ℕ) (old new : List (K × C)) (key : K) (w : Option C) → number key % count ≡ shard → AreOf number count shard old → Sets eq key w old new → AreOf number count shard new
  are-of-set shard old new key w at of sets =
      are-of shard new (λ q some. by_answer (eq key q)
      (λ t. ap (λ n. n % count) (sym (same key q t)) ∙ at)
      (λ f. by_place (number q % count) shard (λ e. e)
      (λ apart. absurd (some (sets q ∙ (cond-false (eq key q) w (lookup (eq q) old) f ∙ none-elsewhere shard old q apart of))))))

module _ {K C : Type 0} {eq : K → K → Bool} (laws : IsEquivalence eq) (number : K → ℕ) (same : (x y : K) → eq x y ≡ true → number x ≡ number y) (count : ℕ) where
  pub none-later : (shard : ℕ) (ms : List (List (K × C))) (q : K) → number q % count < shard → ArePlaced eq number count shard ms → lookup (eq q) (entries_of ms) ≡ None
  none-later shard [] q before placed = refl
  none-later shard (m ∷ ms) q before placed =
      lookup-append_none (eq q) m (entries_of ms) (none-elsewhere laws number same count shard m q (λ e. omega (arith, e, before)) placed.0)
      ∙ none-later (suc shard) ms q (omega (arith, before)) placed.2

  -- a look-up in all shards is the look-up in its own
  pub lookup-placed : (shard i : ℕ) (ms : List (List (K × C))) (m : List (K × C)) (q : K) → ArePlaced eq number count shard ms → i < length ms → m ≡ get_or ms i m → number q % count ≡ shard + i → lookup (eq q) (entries_of ms) ≡ lookup (eq q) m
  lookup-placed shard i [] m q placed small is at = absurd (omega (arith, small))
  lookup-placed shard zero (x ∷ ms) m q placed small is at =
      lookup-append_rest (eq q) x (entries_of ms) (none-later (suc shard) ms q (omega (arith, at)) placed.2)
      ∙ ap (λ n. lookup (eq q) n) (sym is)
  lookup-placed shard (suc i) (x ∷ ms) m q placed small is at =
      lookup-append_none (eq q) x (entries_of ms) (none-elsewhere laws number same count shard x q (λ e. omega (arith, e, at)) placed.0)
      ∙ lookup-placed (suc shard) i ms m q placed.2 (omega (arith, small)) is (omega (arith, at))

  pub placed-set : (shard i : ℕ) (ms : List (List (K × C))) (n : List (K × C)) → ArePlaced eq number count shard ms → AreOf number count (shard + i) n → IsDistinct eq (keys_of n) → ArePlaced eq number count shard (set ms i n)
  placed-set shard i [] n placed of distinct = tt
  placed-set shard zero (x ∷ ms) n placed of distinct = (let P : ℕ → Type 0 = λ k. AreOf number count k n in subst P (omega arith) of, distinct, placed.2)
  placed-set shard (suc i) (x ∷ ms) n placed of distinct =
      (placed.0, placed.1, placed-set (suc shard) i ms n placed.2 (let P : ℕ → Type 0 = λ k. AreOf number count k n in subst P (omega arith) of) distinct)

  pub placed-at : (shard i : ℕ) (ms : List (List (K × C))) (m : List (K × C)) → ArePlaced eq number count shard ms → i < length ms → m ≡ get_or ms i m → AreOf number count (shard + i) m
  placed-at shard i [] m placed small is = absurd (omega (arith, small))
  placed-at shard zero (x ∷ ms) m placed small is =
      let P : List (K × C) → ℕ → Type 0 = λ n k. AreOf number count k n in
      subst (λ n. P n (shard + zero)) (sym is) (subst (P x) (omega arith) placed.0)
  placed-at shard (suc i) (x ∷ ms) m placed small is =
      let P : ℕ → Type 0 = λ k. AreOf number count k m in
      subst P (omega arith) (placed-at (suc shard) i ms m placed.2 (omega (arith, small)) is)

  -- a change of one key in its shard is that change of all entries
  pub sets-placed : (i : ℕ) (ms : List (List (K × C))) (m n : List (K × C)) (key : K) (w : Option C) → ArePlaced eq number count 0 ms → count ≡ length ms → i < length ms → m ≡ get_or ms i m → number key % count ≡ i → Sets eq key w m n → IsDistinct eq (keys_of n) → Sets eq key w (entries_of ms) (entries_of (set ms i n)) × ArePlaced eq number count 0 (set ms i n)
  sets-placed i ms m n key w placed count_is small is at sets distinct =
      let of' = are-of-set laws number same count i m n key w at (let P : ℕ → Type 0 = λ k. AreOf number count k m in subst P (omega arith) (placed-at 0 i ms m placed small is)) sets in
      let placed' = placed-set 0 i ms n placed (let P : ℕ → Type 0 = λ k. AreOf number count k n in subst P (omega arith) of') distinct in
      let same_length : length (set ms i n) ≡ length ms = length-set ms i n in (
        (λ q. by_place (number q % count) i
            (λ here.
            lookup-placed 0 i (set ms i n) n q placed' (omega (arith, small, same_length)) (sym (get_or-set_same ms i n n small)) (omega (arith, here))
            ∙ (sets q ∙ ap (λ l. cond (eq key q) w l) (sym (lookup-placed 0 i ms m q placed small is (omega (arith, here))))))
            (λ apart.
            let other : eq key q ≡ false = by_answer (eq key q) (λ t. absurd (apart (ap (λ k. k % count) (sym (same key q t)) ∙ at))) (λ f. f) in
            let j = number q % count in
            let within : j < length ms = subst (λ k. j < k) count_is (mod-lt (number q) (omega (arith, small, count_is))) in
            let x = get_or ms j m in
            lookup-placed 0 j (set ms i n) x q placed' (omega (arith, within, same_length)) (sym (get_or-set_other ms i j n x apart ∙ get_or_default ms j x m within)) (omega arith)
            ∙ (sym (lookup-placed 0 j ms x q placed within (get_or_default ms j m x within) (omega arith)) ∙ sym (cond-false (eq key q) w (lookup (eq q) (entries_of ms)) other)))),
        placed',
      )

-- ---- calls at each entry

pub FoldsTo-append : {P A : Type 0} (R : P → A → P → Type 0) (p : P) (xs ys : List A) (q r : P) → FoldsTo R p xs q → FoldsTo R q ys r → FoldsTo R p (xs ++ ys) r
FoldsTo-append R p [] ys q r first second = let Q : _ → Type 0 = λ s. FoldsTo R s ys r in subst Q (sym first) second
FoldsTo-append R p (x ∷ xs) ys q r first second = (first.0, first.1, FoldsTo-append R first.0 xs ys q r first.2 second)

entries-suc : {K C : Type 0} (ms : List (List (K × C))) (i : ℕ) (m : List (K × C)) → i < length ms → m ≡ get_or ms i m → entries_of (take (suc i) ms) ≡ entries_of (take i ms) ++ m
entries-suc [] i m small is = absurd (omega (arith, small))
entries-suc (x ∷ ms) zero m small is = append-nil x ∙ sym is
entries-suc (x ∷ ms) (suc i) m small is = ap (λ es. x ++ es) (entries-suc ms i m (omega (arith, small)) is) ∙ sym (append_assoc x (entries_of (take i ms)) m)

pub entries-more : {K C : Type 0} (ms : List (List (K × C))) (i : ℕ) (m : List (K × C)) → i < length ms → m ≡ get_or ms i m → entries_of (take (i + 1) ms) ≡ entries_of (take i ms) ++ m
entries-more ms i m small is = ap (λ k. entries_of (take k ms)) (add-one i) ∙ entries-suc ms i m small is

-- ---- a shard with the same entries

pub entries-same : {K C : Type 0} (ms : List (List (K × C))) (i : ℕ) (m n : List (K × C)) → m ≡ get_or ms i m → n ≡ m → entries_of (set ms i n) ≡ entries_of ms
entries-same [] i m n is same = refl
entries-same (x ∷ ms) zero m n is same = ap (λ es. es ++ entries_of ms) (same ∙ is)
entries-same (x ∷ ms) (suc i) m n is same = ap (λ es. x ++ es) (entries-same ms i m n is same)

pub placed-same : {K C : Type 0} (eq : K → K → Bool) (number : K → ℕ) (count shard : ℕ) (ms : List (List (K × C))) (i : ℕ) (m n : List (K × C)) → m ≡ get_or ms i m → n ≡ m → ArePlaced eq number count shard ms → ArePlaced eq number count shard (set ms i n)
placed-same eq number count shard [] i m n is same placed = tt
placed-same {K} {C} eq number count shard (x ∷ ms) zero m n is same placed =
    let there = same ∙ is in
    let Of : List (K × C) → Type 0 = λ es. AreOf number count shard es in
    let Differ : List (K × C) → Type 0 = λ es. IsDistinct eq (keys_of es) in
    (subst Of (sym there) placed.0, subst Differ (sym there) placed.1, placed.2)
placed-same eq number count shard (x ∷ ms) (suc i) m n is same placed = (placed.0, placed.1, placed-same eq number count (suc shard) ms i m n is same placed.2)

-- ---- no key twice

distinct-cons : {K C : Type 0} (eq : K → K → Bool) (e : K × C) (xs ys : List (K × C)) → AllByRecursion (λ k. eq e.0 k ≡ false) (keys_of xs) → NonePasses (eq e.0) ys → AllByRecursion (λ k. eq e.0 k ≡ false) (keys_of (xs ++ ys))
distinct-cons eq e [] [] none rest = tt
distinct-cons eq e [] (y ∷ ys) none rest = (rest.0, distinct-cons eq e [] ys none rest.1)
distinct-cons eq e (x ∷ xs) ys none rest = (none.0, distinct-cons eq e xs ys none.1 rest)

module _ {K C : Type 0} {eq : K → K → Bool} (laws : IsEquivalence eq) (number : K → ℕ) (same : (x y : K) → eq x y ≡ true → number x ≡ number y) (count : ℕ) where
  distinct-append : (xs ys : List (K × C)) → IsDistinct eq (keys_of xs) → IsDistinct eq (keys_of ys) → AllByRecursion (λ x. lookup (eq x.0) ys ≡ None) xs → IsDistinct eq (keys_of (xs ++ ys))
  unfolding IsDistinct
  distinct-append [] ys dx dy apart = dy
  distinct-append (x ∷ xs) ys dx dy apart = (distinct-cons eq x xs ys dx.0 (none_passes_from_lookup (eq x.0) ys apart.0), distinct-append xs ys dx.1 dy apart.1)

module _ {K C : Type 0} {eq : K → K → Bool} (laws : IsEquivalence eq) (number : K → ℕ) (same : (x y : K) → eq x y ≡ true → number x ≡ number y) (count : ℕ) where
  apart-later : (shard : ℕ) (es : List (K × C)) (ms : List (List (K × C))) → AreOf number count shard es → ArePlaced eq number count (suc shard) ms → AllByRecursion (λ x. lookup (eq x.0) (entries_of ms) ≡ None) es
  apart-later shard [] ms of placed = tt
  apart-later shard (e ∷ es) ms of placed = (none-later laws number same count (suc shard) ms e.0 (omega (arith, of.0)) placed, apart-later shard es ms of.1 placed)

  -- all shards together have no key twice
  pub distinct-placed : (shard : ℕ) (ms : List (List (K × C))) → ArePlaced eq number count shard ms → IsDistinct eq (keys_of (entries_of ms))
  unfolding IsDistinct
  distinct-placed shard [] placed = tt
  distinct-placed shard (m ∷ ms) placed = distinct-append laws number same count m (entries_of ms) placed.1 (distinct-placed (suc shard) ms placed.2) (apart-later shard m ms placed.0 placed.2)

-- ---- what a call on one shard is to all

pub are-of-keys : {K C : Type 0} (number : K → ℕ) (count shard : ℕ) (xs ys : List (K × C)) → keys_of ys ≡ keys_of xs → AreOf number count shard xs → AreOf number count shard ys
are-of-keys number count shard xs [] e of = tt
are-of-keys number count shard [] (y ∷ ys) e of = cc
are-of-keys number count shard (x ∷ xs) (y ∷ ys) e of =
    let first : y.0 ≡ x.0 = cc in
    let rest : keys_of ys ≡ keys_of xs = cc in
    (ap (λ k. number k % count) first ∙ of.0, are-of-keys number count shard xs ys rest of.1)

pub keys-append : {K C : Type 0} (xs ys : List (K × C)) → keys_of (xs ++ ys) ≡ keys_of xs ++ keys_of ys
keys-append [] ys = refl
keys-append (x ∷ xs) ys = ap (λ ks. x.0 ∷ ks) (keys-append xs ys)

-- a shard with the same keys
pub keys-same : {K C : Type 0} (ms : List (List (K × C))) (i : ℕ) (m n : List (K × C)) → m ≡ get_or ms i m → keys_of n ≡ keys_of m → keys_of (entries_of (set ms i n)) ≡ keys_of (entries_of ms)
keys-same [] i m n is same = refl
keys-same (x ∷ ms) zero m n is same =
    keys-append n (entries_of ms)
    ∙ (ap (λ ks. ks ++ keys_of (entries_of ms)) (same ∙ ap (λ k. keys_of k) is) ∙ sym (keys-append x (entries_of ms)))
keys-same (x ∷ ms) (suc i) m n is same =
    keys-append x (entries_of (set ms i n))
    ∙ (ap (λ ks. keys_of x ++ ks) (keys-same ms i m n is same) ∙ sym (keys-append x (entries_of ms)))

-- the entries of a single shard
pub entries-alone : {K C : Type 0} (ms : List (List (K × C))) (i : ℕ) (m : List (K × C)) → length ms ≡ 1 → i < length ms → m ≡ get_or ms i m → entries_of ms ≡ m
entries-alone [] i m one small is = absurd (omega (arith, one))
entries-alone (x ∷ []) zero m one small is = append-nil x ∙ sym is
entries-alone (x ∷ []) (suc i) m one small is = absurd (omega (arith, small))
entries-alone (x ∷ y ∷ ms) i m one small is = absurd (omega (arith, one))

-- equal keys are found alike
pub lookup-equal : {K C : Type 0} (p q : K → Bool) (es : List (K × C)) → ((k : K) → p k ≡ q k) → lookup p es ≡ lookup q es
lookup-equal p q [] e = refl
lookup-equal p q (x ∷ es) e = ap (λ b. cond b (Some x.1) (lookup p es)) (e x.0) ∙ ap (λ l. cond (q x.0) (Some x.1) l) (lookup-equal p q es e)
