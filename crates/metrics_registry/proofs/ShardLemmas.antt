-- The shards of a registry, of one kind.
use Rattle.std.proofs.Common.{◌≡◌, ℕ, zero, suc, ◌+◌, ◌<◌, ◌≤◌, ◌%◌, Bool, true, false, List, [], ◌∷◌, ◌++◌, Option, None, Some, Result, Ok, Err, OnOk, refl, sym, ◌∙◌, ap, subst, length, get_or, set, take, map, is_some, arith, add-one}
use Rattle.std.specs.Option.{IsSome}
use Rattle.std.specs.Cmp.{IsEquivalence}
use Rattle.std.specs.List.{IsDistinct, All, FoldsTo}
use Rattle.std.specs.Fn.{Mut}
use denote.Ref.{Bor}
use Rattle.std.specs.Map.{keys_of, update}
use Rattle.std.proofs.lemmas.List.{get_or-set_same, length-set, take_all}
use Rattle.metrics.specs.declared.error.Error.{Error}
use Rattle.metrics_registry.specs.Held.{Registry, held, Sets, Removes, IsCellOf, Appends, GetsOrCreates, MayCall, SomeCallAtEntry, TakesEach, Retains, entries_of, AreOf, ArePlaced}
use Rattle.metrics_registry.specs.Recency.{Rules, Table}
use Rattle.metrics_registry.specs.RecencyEntries.{IsChecked, check_of}
use Rattle.metrics_names.specs.declared.kind.MetricKind.{MetricKind}
use Rattle.metrics_registry.proofs.HeldLemmas.{sets-placed, placed-same, entries-same, entries-more, keys-same, entries-alone, lookup-placed}
use Rattle.metrics_registry.proofs.RetainLemmas.{SameFrom, shard-retained}
use Rattle.metrics_registry.proofs.WalkLemmas.{entries-split, takes-part}

-- ---- what a registry shows

module _ {S K C G H : Type 0} {r s : Registry S K C G H} (e : r ≡ s) where
  pub storage_is : r.storage ≡ s.storage
  storage_is = ap (λ (v : Registry S K C G H). v.storage) e

  pub count_is : r.count ≡ s.count
  count_is = ap (λ (v : Registry S K C G H). v.count) e

  pub counters_are : r.counters ≡ s.counters
  counters_are = ap (λ (v : Registry S K C G H). v.counters) e

  pub gauges_are : r.gauges ≡ s.gauges
  gauges_are = ap (λ (v : Registry S K C G H). v.gauges) e

  pub histograms_are : r.histograms ≡ s.histograms
  histograms_are = ap (λ (v : Registry S K C G H). v.histograms) e

-- ---- lists of parts

pub map-length : {A B : Type 0} (p : A → B) (xs : List A) → length (map p xs) ≡ length xs
map-length p [] = refl
map-length p (x ∷ xs) = ap suc (map-length p xs)

pub map-set : {A B : Type 0} (p : A → B) (xs : List A) (i : ℕ) (b : A) → map p (set xs i b) ≡ set (map p xs) i (p b)
map-set p [] i b = refl
map-set p (x ∷ xs) zero b = refl
map-set p (x ∷ xs) (suc i) b = ap (λ l. p x ∷ l) (map-set p xs i b)

pub map-get : {A B : Type 0} (p : A → B) (xs : List A) (i : ℕ) (a : A) → p (get_or xs i a) ≡ get_or (map p xs) i (p a)
map-get p [] i a = refl
map-get p (x ∷ xs) zero a = refl
map-get p (x ∷ xs) (suc i) a = map-get p xs i a

pub map-take : {A B : Type 0} (p : A → B) (n : ℕ) (xs : List A) → map p (take n xs) ≡ take n (map p xs)
map-take p zero xs = refl
map-take p (suc n) [] = refl
map-take p (suc n) (x ∷ xs) = ap (λ l. p x ∷ l) (map-take p n xs)

-- the keys of one shard are distinct
distinct-at : {K C : Type 0} (eq : K → K → Bool) (number : K → ℕ) (count shard i : ℕ) (ms : List (List (K × C))) (m : List (K × C)) → ArePlaced eq number count shard ms → i < length ms → m ≡ get_or ms i m → IsDistinct eq (keys_of m)
distinct-at eq number count shard i [] m placed small is = absurd (omega (arith, small))
distinct-at {K} {C} eq number count shard zero (x ∷ ms) m placed small is = let P : List (K × C) → Type 0 = λ es. IsDistinct eq (keys_of es) in subst P (sym is) placed.1
distinct-at eq number count shard (suc i) (x ∷ ms) m placed small is = distinct-at eq number count (suc shard) i ms m placed.2 (omega (arith, small)) is

-- ---- a change in one shard

module _ {A K C : Type 0} (eq : K → K → Bool) (number : K → ℕ) (count i : ℕ) (xs : List A) (a b : A) (is : a ≡ get_or xs i a) (p : A → List (K × C)) where
  at_is : p a ≡ get_or (map p xs) i (p a)
  at_is = ap p is ∙ map-get p xs i a

  -- a kind that is as it was
  pub kept-placed : ArePlaced eq number count 0 (map p xs) → p b ≡ p a → ArePlaced eq number count 0 (map p (set xs i b))
  kept-placed placed e = subst (λ ms. ArePlaced eq number count 0 ms) (sym (map-set p xs i b)) (placed-same eq number count 0 (map p xs) i (p a) (p b) at_is e placed)

  pub kept-entries : p b ≡ p a → entries_of (map p (set xs i b)) ≡ entries_of (map p xs)
  kept-entries e = ap entries_of (map-set p xs i b) ∙ entries-same (map p xs) i (p a) (p b) at_is e

module _ {A K C : Type 0} {eq : K → K → Bool} (laws : IsEquivalence eq) (number : K → ℕ) (alike : (x y : K) → eq x y ≡ true → number x ≡ number y) (count i : ℕ) (xs : List A) (a b : A)
    (p : A → List (K × C)) (old : List (K × C)) (view : entries_of (map p xs) ≡ old) (placed : ArePlaced eq number count 0 (map p xs)) (long : count ≡ length xs) (small : i < length xs) (is : a ≡ get_or xs i a) where
  fits : i < length (map p xs)
  fits = omega (arith, small, map-length p xs)

  there : p a ≡ get_or (map p xs) i (p a)
  there = ap p is ∙ map-get p xs i a

  abbrev after : List (K × C)
  after = entries_of (map p (set xs i b))

  Placed : Type 0
  Placed = ArePlaced eq number count 0 (map p (set xs i b))

  module _ (key : K) (at : number key % count ≡ i) where
    pub held-there : held eq old key ≡ held eq (p a) key
    held-there = ap (λ es. held eq es key) (sym view) ∙ lookup-placed laws number alike count 0 i (map p xs) (p a) key placed fits there (omega (arith, at))

    pub sets-there : (w : Option C) → Sets eq key w (p a) (p b) → IsDistinct eq (keys_of (p b)) → ArePlaced eq number count 0 (map p (set xs i b)) × Sets eq key w old (entries_of (map p (set xs i b)))
    sets-there w sets distinct =
        let both = sets-placed laws number alike count i (map p xs) (p a) (p b) key w placed (omega (arith, long, map-length p xs)) fits there at sets distinct in
        let P : List (List (K × C)) → Type 0 = λ ms. ArePlaced eq number count 0 ms × Sets eq key w old (entries_of ms) in
        subst P (sym (map-set p xs i b)) (both.1, λ q. both.0 q ∙ ap (λ es. update eq (held eq es) key w q) view)

    pub removes-there : (was_held : Bool) → Removes eq key was_held (p a) (p b) → IsDistinct eq (keys_of (p b)) → ArePlaced eq number count 0 (map p (set xs i b)) × Removes eq key was_held old (entries_of (map p (set xs i b)))
    removes-there was_held removes distinct =
        let all = sets-there None removes.0 distinct in
        (all.0, (all.1, removes.1 ∙ ap is_some (sym held-there), λ e. kept-entries eq number count i xs a b is p (removes.2 e) ∙ view))

    -- if there is one shard
    alone : count ≡ 1 → (R : List (K × C) → List (K × C) → Type 0) → R (p a) (p b) → R old (entries_of (map p (set xs i b)))
    alone one R r =
        let before : old ≡ p a = sym view ∙ entries-alone (map p xs) i (p a) (omega (arith, one, long, map-length p xs)) fits there in
        let now : entries_of (map p (set xs i b)) ≡ p b =
        ap entries_of (map-set p xs i b) ∙ entries-alone (set (map p xs) i (p b)) i (p b) (omega (arith, one, long, map-length p xs, length-set (map p xs) i (p b))) (omega (arith, fits, length-set (map p xs) i (p b))) (sym (get_or-set_same (map p xs) i (p b) (p b) fits)) in
        subst (λ es. R es (entries_of (map p (set xs i b)))) (sym before) (subst (R (p a)) (sym now) r)

    pub gets-there : {V S : Type 0} (result : Result V Error) (clone : K → K → Type 0) (Makes : S → K → C → Type 0) (inside shown : S) (call : C → V → C → Type 0) (number_shown : ℕ) → inside ≡ shown → count ≡ number_shown
        → GetsOrCreates eq clone (Makes inside) call (Unit {0}) key result (p a) (p b) → OnOk result (IsDistinct eq (keys_of (p b)))
        → ArePlaced eq number count 0 (map p (set xs i b)) × GetsOrCreates eq clone (Makes shown) call (number_shown ≡ 1) key result old (entries_of (map p (set xs i b)))
    gets-there (Err e) clone Makes inside shown call n same_storage same_count got distinct = (kept-placed eq number count i xs a b is p placed got.1, (got.0, kept-entries eq number count i xs a b is p got.1 ∙ view, held-there ∙ got.2))
    gets-there {V} {S} (Ok v) clone Makes inside shown call n same_storage same_count got distinct =
        let calls = got.0 in
        let all = sets-there (Some calls.1) calls.4 distinct in
        let Of : S → Option C → Type 0 = λ s o. IsCellOf (Makes s key) o calls.0 in
        let Is : Option C → Type 0 = λ o. IsSome o in (
          all.0,
          (
            (calls.0, calls.1, subst (Of shown) (sym held-there) (subst (λ s. Of s (held eq (p a) key)) same_storage calls.2), calls.3, all.1),
            (
              λ some. ap (λ ms. keys_of (entries_of ms)) (map-set p xs i b) ∙ (keys-same (map p xs) i (p a) (p b) there (got.1.0 (subst Is held-there some)) ∙ ap (λ es. keys_of es) view),
              λ none one.
                  let made = got.1.1 (sym held-there ∙ none) tt in
                  let Made : S → Type 0 = λ s. Makes s key made.0 in
                  (made.0, subst Made same_storage made.1, alone (same_count ∙ one) (λ es fs. Appends clone call key made.0 v es fs) made.2),
            ),
          ),
        )

    -- what may be called in the shard
    pub may-call-there : {S : Type 0} (Takes : C → Type 0) (Makes : S → K → C → Type 0) (inside shown : S) → inside ≡ shown → MayCall eq (Makes shown) Takes key old → MayCall eq (Makes inside) Takes key (p a)
    may-call-there {S} Takes Makes inside shown same_storage may =
        let P : S → Option C → Type 0 = λ s o. (cell : C) → IsCellOf (Makes s key) o cell → Takes cell in
        subst (P inside) held-there (subst (λ s. P s (held eq old key)) (sym same_storage) may)

    -- a check in the shard
    pub checks-there : (rules : Rules) (kind : MetricKind) (generation moment : ℕ) (result : Result Bool Error) (table table' : Table K)
        → IsChecked eq rules (check_of kind key generation moment (is_some (held eq (p a) key))) result table table' (p a) (p b) → (IsDistinct eq (keys_of (p a)) → IsDistinct eq (keys_of (p b)))
        → ArePlaced eq number count 0 (map p (set xs i b)) × IsChecked eq rules (check_of kind key generation moment (is_some (held eq old key))) result table table' old (entries_of (map p (set xs i b)))
    checks-there rules kind generation moment result table table' checked distinct =
        let P : Bool → Type 0 = λ h. IsChecked eq rules (check_of kind key generation moment h) result table table' (p a) (p b) in
        by_result result (subst P (ap is_some (sym held-there)) checked)
      where
        by_result : (r : Result Bool Error) → IsChecked eq rules (check_of kind key generation moment (is_some (held eq old key))) r table table' (p a) (p b)
            → ArePlaced eq number count 0 (map p (set xs i b)) × IsChecked eq rules (check_of kind key generation moment (is_some (held eq old key))) r table table' old (entries_of (map p (set xs i b)))
        by_result (Err e) c = (kept-placed eq number count i xs a b is p placed c.2, (c.0, c.1, kept-entries eq number count i xs a b is p c.2 ∙ view, c.3, c.4))
        by_result (Ok true) c = (kept-placed eq number count i xs a b is p placed c.2, (c.0, c.1, kept-entries eq number count i xs a b is p c.2 ∙ view))
        by_result (Ok false) c = let all = sets-there None c.2 (distinct (distinct-at eq number count 0 i (map p xs) (p a) placed fits there)) in (all.0, (c.0, c.1, all.1))

-- ---- a shard with something in it

none-append : {A : Type 0} (xs ys : List A) → xs ++ ys ≡ [] → (xs ≡ []) × (ys ≡ [])
none-append [] ys e = (refl, e)
none-append (x ∷ xs) ys e = absurd (cc e)

none-at : {A K C : Type 0} (xs : List A) (p : A → List (K × C)) (i : ℕ) (a : A) → i < length xs → a ≡ get_or xs i a → entries_of (map p xs) ≡ [] → p a ≡ []
none-at [] p i a small is none = absurd (omega (arith, small))
none-at (x ∷ xs) p zero a small is none = ap p is ∙ (none-append (p x) (entries_of (map p xs)) none).0
none-at (x ∷ xs) p (suc i) a small is none = none-at xs p i a (omega (arith, small)) is (none-append (p x) (entries_of (map p xs)) none).1

-- then there are entries
pub some-entry : {A K C : Type 0} (xs : List A) (p : A → List (K × C)) (i : ℕ) (a : A) (front : List (K × C)) (next : K × C) (rest : List (K × C))
    → i < length xs → a ≡ get_or xs i a → p a ≡ front ++ next ∷ rest → ¬ (entries_of (map p xs) ≡ [])
some-entry xs p i a front next rest small is split none =
    let bare : front ++ next ∷ rest ≡ [] = sym split ∙ none-at xs p i a small is none in
    let apart : next ∷ rest ≡ [] = (none-append front (next ∷ rest) bare).1 in
    cc apart

-- ---- shards with nothing in them

abbrev pub IsBare : {A K C : Type 0} → (A → List (K × C)) → A → Type 0
IsBare p a = p a ≡ []

abbrev pub AreBare : {A K C : Type 0} → List A → (A → List (K × C)) → Type 0
AreBare xs p = All (IsBare p) xs

pub bare-entries : {A K C : Type 0} (xs : List A) (p : A → List (K × C)) → AreBare xs p → entries_of (map p xs) ≡ []
bare-entries [] p bare = refl
bare-entries (x ∷ xs) p bare = ap (λ es. es ++ entries_of (map p xs)) (bare 0 x (omega arith)) ∙ bare-entries xs p (λ k d small. bare (suc k) d (omega (arith, small)))

pub bare-placed : {A K C : Type 0} (eq : K → K → Bool) (number : K → ℕ) (count shard : ℕ) (xs : List A) (p : A → List (K × C)) → AreBare xs p → ArePlaced eq number count shard (map p xs)
unfolding IsDistinct
bare-placed eq number count shard [] p bare = tt
bare-placed {A} {K} {C} eq number count shard (x ∷ xs) p bare =
    let none = bare 0 x (omega arith) in
    let Of : List (K × C) → Type 0 = λ es. AreOf number count shard es in
    let Differ : List (K × C) → Type 0 = λ es. IsDistinct eq (keys_of es) in
    (subst Of (sym none) tt, subst Differ (sym none) tt, bare-placed eq number count (suc shard) xs p (λ k d small. bare (suc k) d (omega (arith, small))))

pub bare-push : {A K C : Type 0} (xs ys : List A) (p : A → List (K × C)) (x : A) → ys ≡ xs ++ x ∷ [] → AreBare xs p → p x ≡ [] → AreBare ys p
bare-push {A} {K} {C} xs ys p x is bare none = subst (λ l. AreBare l p) (sym is) (pushed xs bare)
  where
    pushed : (xs : List A) → AreBare xs p → AreBare (xs ++ x ∷ []) p
    pushed [] bare zero d small = none
    pushed [] bare (suc k) d small = absurd (omega (arith, small))
    pushed (y ∷ xs) bare zero d small = bare zero d (omega arith)
    pushed (y ∷ xs) bare (suc k) d small = pushed xs (λ j e less. bare (suc j) e (omega (arith, less))) k d (omega (arith, small))

bare-suc : {A K C : Type 0} (n : ℕ) (xs : List A) (x : A) (p : A → List (K × C)) → n < length xs → p x ≡ [] → AreBare (take n xs) p → AreBare (take (suc n) (set xs n x)) p
bare-suc zero (y ∷ xs) x p small none bare zero d first = none
bare-suc zero (y ∷ xs) x p small none bare (suc k) d first = absurd (omega (arith, first))
bare-suc (suc n) (y ∷ xs) x p small none bare zero d first = bare zero d (omega arith)
bare-suc (suc n) (y ∷ xs) x p small none bare (suc k) d first = bare-suc n xs x p (omega (arith, small)) none (λ j e less. bare (suc j) e (omega (arith, less))) k d (omega (arith, first))
bare-suc n [] x p small none bare k d first = absurd (omega (arith, small))

pub bare-more : {A K C : Type 0} (n : ℕ) (xs : List A) (x : A) (p : A → List (K × C)) → n < length xs → p x ≡ [] → AreBare (take n xs) p → AreBare (take (n + 1) (set xs n x)) p
bare-more n xs x p small none bare = let P : ℕ → Type 0 = λ k. AreBare (take k (set xs n x)) p in subst P (sym (add-one n)) (bare-suc n xs x p small none bare)

pub bare-all : {A K C : Type 0} (n : ℕ) (xs : List A) (p : A → List (K × C)) → length xs ≤ n → AreBare (take n xs) p → AreBare xs p
bare-all n xs p long bare = subst (λ ys. AreBare ys p) (take_all n xs long) bare

-- a registry that shows nothing
pub shows-nothing : {S K C G H : Type 0} (s s' : S) (n n' : ℕ) (cs : List (K × C)) (gs : List (K × G)) (hs : List (K × H)) → s ≡ s' → n ≡ n' → cs ≡ [] → gs ≡ [] → hs ≡ []
    → ◌≡◌ {A = Registry S K C G H} (record { storage = s; count = n; counters = cs; gauges = gs; histograms = hs }) (record { storage = s'; count = n'; counters = []; gauges = []; histograms = [] })
shows-nothing {S} {K} {C} {G} {H} s s' n n' cs gs hs es en ec eg eh =
    let R : S → ℕ → List (K × C) → List (K × G) → List (K × H) → Registry S K C G H = λ a b c d e. record { storage = a; count = b; counters = c; gauges = d; histograms = e } in
    ap (λ a. R a n cs gs hs) es ∙ (ap (λ b. R s' b cs gs hs) en ∙ (ap (λ c. R s' n' c gs hs) ec ∙ (ap (λ d. R s' n' [] d hs) eg ∙ ap (λ e. R s' n' [] [] e) eh)))

-- ---- walks over the shards

pub map-kept : {A B : Type 0} (q : A → B) (xs : List A) (i : ℕ) (a b : A) → a ≡ get_or xs i a → q b ≡ q a → map q (set xs i b) ≡ map q xs
map-kept q [] i a b is same = refl
map-kept q (x ∷ xs) zero a b is same = ap (λ y. y ∷ map q xs) (same ∙ ap q is)
map-kept q (x ∷ xs) (suc i) a b is same = ap (λ ys. q x ∷ ys) (map-kept q xs i a b is same)

module _ {A K C : Type 0} (xs : List A) (p : A → List (K × C)) (i : ℕ) (a : A) (small : i < length xs) (is : a ≡ get_or xs i a) where
  within : i < length (map p xs)
  within = omega (arith, small, map-length p xs)

  shown : p a ≡ get_or (map p xs) i (p a)
  shown = ap p is ∙ map-get p xs i a

  pub entries-here : entries_of (take (i + 1) (map p xs)) ≡ entries_of (take i (map p xs)) ++ p a
  entries-here = entries-more (map p xs) i (p a) within shown

  pub takes-here : {F R : Type 0} (g : Mut F (Bor K × (Bor C × Unit {0})) R) (f f' : F) (old : List (K × C)) → entries_of (map p xs) ≡ old → TakesEach g f old → FoldsTo (SomeCallAtEntry g) f (entries_of (take i (map p xs))) f' → TakesEach g f' (p a)
  takes-here g f f' old view takes folds =
      let split = entries-split (map p xs) i (p a) within shown in
      takes-part g f f' old (entries_of (take i (map p xs))) (p a) split.0 takes (sym view ∙ split.1) folds

-- all entries, at the end
pub entries-all : {A K C : Type 0} (xs : List A) (p : A → List (K × C)) (n : ℕ) → length xs ≤ n → entries_of (take n (map p xs)) ≡ entries_of (map p xs)
entries-all xs p n long = ap entries_of (take_all n (map p xs) (omega (arith, long, map-length p xs)))

-- one more shard of a retain
pub retained-here : {F A K C : Type 0} (call : F → K × C → Bool → F → Type 0) {eq : K → K → Bool} (laws : IsEquivalence eq) (number : K → ℕ) (alike : (x y : K) → eq x y ≡ true → number x ≡ number y) (count i : ℕ) (f f' f'' : F) (xs ys : List A) (a b : A) (p : A → List (K × C))
    → length ys ≡ length xs → i < length ys → a ≡ get_or ys i a → SameFrom i (map p xs) (map p ys) → ArePlaced eq number count 0 (map p ys) → Retains call f (entries_of (take i (map p xs))) (entries_of (take i (map p ys))) f'
    → Retains call f' (p a) (p b) f'' → IsDistinct eq (keys_of (p b))
    → ArePlaced eq number count 0 (map p (set ys i b)) × Retains call f (entries_of (take (i + 1) (map p xs))) (entries_of (take (i + 1) (map p (set ys i b)))) f'' × SameFrom (i + 1) (map p xs) (map p (set ys i b))
retained-here {F} {A} {K} {C} call {eq} laws number alike count i f f' f'' xs ys a b p long small is from placed was now distinct =
    let P : List (List (K × C)) → Type 0 = λ ms. ArePlaced eq number count 0 ms × Retains call f (entries_of (take (i + 1) (map p xs))) (entries_of (take (i + 1) ms)) f'' × SameFrom (i + 1) (map p xs) ms in
    subst P (sym (map-set p ys i b))
    (shard-retained call laws number alike count i f f' f'' (map p xs) (map p ys) (p a) (p b) (omega (arith, long, map-length p xs, map-length p ys)) (omega (arith, small, map-length p ys)) from placed was (ap p is ∙ map-get p ys i a) now distinct)

-- what may be called at the next shard of a retain, which is as it was before
pub takes-next : {A K C : Type 0} (xs ys : List A) (p : A → List (K × C)) (i : ℕ) (a : A) → length ys ≡ length xs → i < length ys → a ≡ get_or ys i a → SameFrom i (map p xs) (map p ys)
    → {F R : Type 0} (g : Mut F (Bor K × (Bor C × Unit {0})) R) (f f' : F) (old : List (K × C)) → entries_of (map p xs) ≡ old → TakesEach g f old → FoldsTo (SomeCallAtEntry g) f (entries_of (take i (map p xs))) f' → TakesEach g f' (p a)
takes-next xs ys p i a long small is from g f f' old view takes folds =
    let split = entries-split (map p xs) i (p a) (omega (arith, small, long, map-length p xs)) ((ap p is ∙ map-get p ys i a) ∙ from i (p a) (omega arith)) in
    takes-part g f f' old (entries_of (take i (map p xs))) (p a) split.0 takes (sym view ∙ split.1) folds

-- a kind whose parts are as they were
pub as-before : {K C : Type 0} (eq : K → K → Bool) (number : K → ℕ) (count count' : ℕ) (ms ns : List (List (K × C))) → count' ≡ count → ns ≡ ms → ArePlaced eq number count 0 ms → ArePlaced eq number count' 0 ns
as-before {K} {C} eq number count count' ms ns same e placed =
    let P : ℕ → List (List (K × C)) → Type 0 = λ n l. ArePlaced eq number n 0 l in
    subst (λ n. P n ns) (sym same) (subst (P count) (sym e) placed)
