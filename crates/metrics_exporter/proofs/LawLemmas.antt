-- There is a list of the held series in composite key order, and one alone.
use Rattle.std.proofs.Common.{◌≡◌, ℕ, zero, suc, ◌<◌, List, [], ◌∷◌, length, get_or, Contains, refl, ap, sym, ◌∙◌, subst, arith, inl, inr}
use Rattle.std.specs.Prelude.{◌⊎◌, ◌↔◌}
use Rattle.std.specs.List.{AllByRecursion}
use Rattle.std.specs.List.Sorted.{IsStrictlySortedBy}
use Rattle.std.specs.Cmp.{IsTotalOrder}
use Rattle.std.specs.Ordering.{ordering_reverse, is_eq, eq_by_cmp}
use Rattle.std.specs.declared.cmp.Ordering.{Ordering}
use Rattle.std.specs.declared.cmp.Ordering.TheVariants.{Less, Equal, Greater}
use Rattle.std.proofs.lemmas.Map.Keys.{sorted_head, sorted_tail}
use Rattle.metrics_names.specs.Names.{SeriesKey, series_key_eq, series_key_cmp}
use Rattle.metrics_names.specs.Equality.{key_exact}
use Rattle.metrics_exporter.specs.Exporting.{Cells, AreSeries, HaveFirst, HoldsSome, IsHeldNumber, Setup, Step, IsExpiry, checks_of, answers_of, removed_by, cells_after, check_of_held, checks_in}
use Rattle.metrics_registry.specs.Idleness.{Answered, run_answers}
use Rattle.metrics_names.specs.Names.{KeyParts, key_eq}
use Rattle.std.proofs.Common.{Result, Ok, Err, map, reverse}
use Rattle.std.specs.Prelude.{MatchResult, OnErr}
use Rattle.metrics_exporter.specs.ExporterText.{series_text, IsText}

module _ {K : Type 0} (R : K → K → Ordering) (total : IsTotalOrder R) where
  never : (x : K) → R x x ≡ Less → ⊥
  never x e = absurd (let g : Less ≡ Greater = sym e ∙ total.antisymm x x ∙ ap ordering_reverse e in cc)

  among : (x : K) (xs : List K) (s : K) (k : ℕ) → k < length xs → get_or xs k s ≡ s → AllByRecursion (λ y. R x y ≡ Less) xs → R x s ≡ Less
  among x [] s k small is all = absurd (omega (arith, small))
  among x (y ∷ ys) s zero small is all = ap (R x) (sym is) ∙ all.0
  among x (y ∷ ys) s (suc k) small is all = among x ys s k (omega (arith, small)) is all.1

  split : (x : K) (xs : List K) (s : K) (k : ℕ) → k < length (x ∷ xs) → get_or (x ∷ xs) k s ≡ s → (x ≡ s) ⊎ Contains xs s
  split x xs s zero small is = inl is
  split x xs s (suc k) small is = inr (k, omega (arith, small), is)

  cases : (x : K) (xs : List K) (s : K) → Contains (x ∷ xs) s → (x ≡ s) ⊎ Contains xs s
  cases x xs s (k, small, is) = split x xs s k small is

  remaining : (x : K) (xs : List K) (s : K) → IsStrictlySortedBy R (x ∷ xs) → Contains xs s → R x s ≡ Less
  remaining x xs s up (k, small, is) = among x xs s k small is (sorted_head R x xs up)

  first : (x : K) (xs : List K) → Contains (x ∷ xs) x
  first x xs = (zero, omega arith, refl)

  later : (x : K) (xs : List K) (s : K) → Contains xs s → Contains (x ∷ xs) s
  later x xs s (k, small, is) = (suc k, omega (arith, small), is)

  heads : (x y : K) (xs ys : List K) → IsStrictlySortedBy R (x ∷ xs) → IsStrictlySortedBy R (y ∷ ys) → Contains (y ∷ ys) x → Contains (x ∷ xs) y → x ≡ y
  heads x y xs ys up vp h g = elim (cases y ys x h) [
    | inl e ↦ sym e
    | inr d ↦ elim (cases x xs y g) [
      | inl e ↦ e
      | inr c ↦ absurd (never x (total.trans x y x (remaining x xs y up c) (remaining y ys x vp d)))
    ]
  ]

  tails : (x : K) (xs ys : List K) → IsStrictlySortedBy R (x ∷ xs) → (s : K) → Contains xs s → Contains (x ∷ ys) s → Contains ys s
  tails x xs ys up s h g = elim (cases x ys s g) [
    | inl e ↦ absurd (never x (ap (R x) e ∙ remaining x xs s up h))
    | inr c ↦ c
  ]

  pub one-sorted : (xs ys : List K) → IsStrictlySortedBy R xs → IsStrictlySortedBy R ys → ((s : K) → Contains xs s → Contains ys s) → ((s : K) → Contains ys s → Contains xs s) → xs ≡ ys
  one-sorted [] [] up vp to from = refl
  one-sorted [] (y ∷ ys) up vp to from = absurd (let c = from y (first y ys) in omega (arith, c.1))
  one-sorted (x ∷ xs) [] up vp to from = absurd (let c = to x (first x xs) in omega (arith, c.1))
  one-sorted (x ∷ xs) (y ∷ ys) up vp to from =
      let same : x ≡ y = heads x y xs ys up vp (to x (first x xs)) (from y (first y ys)) in
      let P : K → Type 0 = λ z. IsStrictlySortedBy R (z ∷ ys) in
      let wp : IsStrictlySortedBy R (x ∷ ys) = subst P (sym same) vp in
      let Q : K → List K → K → Type 0 = λ z l s. Contains (z ∷ l) s in
      ap (λ z. z ∷ xs) same
      ∙ ap (λ l. y ∷ l) (one-sorted xs ys (sorted_tail R x xs up) (sorted_tail R y ys vp)
      (λ s h. tails x xs ys up s h (subst (λ z. Q z ys s) (sym same) (to s (later x xs s h))))
      (λ s h. tails x ys xs wp s h (from s (later y ys s h))))

module _ {K : Type 0} (R : K → K → Ordering) (total : IsTotalOrder R) (exact : (a b : K) → R a b ≡ Equal → a ≡ b) where
  -- keys in order, and one more inserted among them
  record Put (k : K) (xs : List K) : Type 0 where
    pub keys : List K
    pub ascending : IsStrictlySortedBy R keys
    pub same : (s : K) → Contains keys s ↔ Contains (k ∷ xs) s
    pub below : (x : K) → R x k ≡ Less → AllByRecursion (λ y. R x y ≡ Less) xs → AllByRecursion (λ y. R x y ≡ Less) keys

  less : (k x : K) (xs : List K) → R k x ≡ Less → AllByRecursion (λ y. R x y ≡ Less) xs → AllByRecursion (λ y. R k y ≡ Less) xs
  less k x [] e h = tt
  less k x (y ∷ ys) e h = (total.trans k x y e h.0, less k x ys e h.1)

  here : (x : K) (xs : List K) (s : K) → x ≡ s → Contains (x ∷ xs) s
  here x xs s e = (zero, omega arith, e)

  after : (x : K) (xs ys : List K) (s : K) → (Contains xs s → Contains ys s) → Contains (x ∷ xs) s → Contains (x ∷ ys) s
  after x xs ys s f c = elim (cases R total x xs s c) [ inl e ↦ here x ys s e | inr d ↦ later R total x ys s (f d) ]

  swapped : (x y : K) (xs : List K) (s : K) → Contains (x ∷ y ∷ xs) s → Contains (y ∷ x ∷ xs) s
  swapped x y xs s c = elim (cases R total x (y ∷ xs) s c) [
    | inl e ↦ later R total y (x ∷ xs) s (here x xs s e)
    | inr d ↦ after y xs (x ∷ xs) s (later R total x xs s) d
  ]

  put : (k : K) (xs : List K) → IsStrictlySortedBy R xs → Put k xs
  unfolding IsStrictlySortedBy
  put k [] up = record { keys = k ∷ []; ascending = (tt, tt); same = λ s. (λ c. c, λ c. c); below = λ x l h. (l, tt) }
  put k (x ∷ xs) up = by (put k xs up.1) (R k x) refl
    where
      by : Put k xs → (r : Ordering) → R k x ≡ r → Put k (x ∷ xs)
      by more Less e = record {
        keys = k ∷ x ∷ xs;
        ascending = ((e, less k x xs e up.0), up);
        same = λ s. (λ c. c, λ c. c);
        below = λ y l h. (l, h);
      }
      by more Equal e = record {
        keys = x ∷ xs;
        ascending = up;
        same = λ s. (later R total k (x ∷ xs) s, λ c. elim (cases R total k (x ∷ xs) s c) [ inl is ↦ here x xs s (sym (exact k x e) ∙ is) | inr d ↦ d ]);
        below = λ y l h. h;
      }
      by more Greater e = record {
        keys = x ∷ more.keys;
        ascending = (more.below x (total.antisymm x k ∙ ap ordering_reverse e) up.0, more.ascending);
        same = λ s. (
          λ c. swapped x k xs s (after x more.keys (k ∷ xs) s (more.same s).0 c),
          λ c. after x (k ∷ xs) more.keys s (more.same s).1 (swapped k x xs s c),
        );
        below = λ y l h. (h.0, more.below y l h.1);
      }

  -- the same keys in order
  record InOrder (xs : List K) : Type 0 where
    pub keys : List K
    pub ascending : IsStrictlySortedBy R keys
    pub same : (s : K) → Contains keys s ↔ Contains xs s

  in-order : (xs : List K) → InOrder xs
  unfolding IsStrictlySortedBy
  in-order [] = record { keys = []; ascending = tt; same = λ s. (λ c. c, λ c. c) }
  in-order (x ∷ xs) =
      let rest = in-order xs in
      let more = put x rest.keys rest.ascending in record {
        keys = more.keys;
        ascending = more.ascending;
        same = λ s. (
          λ c. after x rest.keys xs s (rest.same s).0 ((more.same s).0 c),
          λ c. (more.same s).1 (after x xs rest.keys s (rest.same s).1 c),
        );
      }

-- the held series have an order
pub some-order : IsTotalOrder series_key_cmp → ((a b : SeriesKey) → series_key_eq a b ≡ eq_by_cmp series_key_cmp a b) → (cells : Cells) (n : ℕ) → IsHeldNumber cells n → (keys : List SeriesKey) × AreSeries cells keys
some-order total ties cells n held =
    let order = in-order series_key_cmp total exact held.keys in (
      order.keys,
      record {
        ascending = order.ascending;
        held = λ s. (λ c. (held.held s).0 ((order.same s).0 c), λ h. (order.same s).1 ((held.held s).1 h));
      },
    )
  where
    exact : (a b : SeriesKey) → series_key_cmp a b ≡ Equal → a ≡ b
    exact a b e = key_exact a b (ties a b ∙ ap is_eq e)

-- of series that are held there is a first one in order
pub have-first : IsTotalOrder series_key_cmp → ((a b : SeriesKey) → series_key_eq a b ≡ eq_by_cmp series_key_cmp a b) → (cells : Cells) (n : ℕ) → IsHeldNumber cells n → 0 < n → HaveFirst cells
have-first total ties cells n held some = let order = some-order total ties cells n held in from order.0 order.1
  where
    none : (ks : List SeriesKey) → 0 < length ks → ((s : SeriesKey) → Contains ks s → Contains [] s) → ⊥
    none [] small to = absurd (omega (arith, small))
    none (k ∷ ks) small to = absurd (let c = to k (zero, omega arith, refl) in omega (arith, c.1))

    from : (ks : List SeriesKey) → AreSeries cells ks → HaveFirst cells
    from [] series = absurd (none held.keys (omega (arith, some, held.number)) (λ s c. (series.held s).1 ((held.held s).0 c)))
    from (k ∷ ks) series = (k, ks, series)

-- what follows of a result, or of its error
pub ok-as : {A E : Type 0} (P Q : A → Type 0) (F : E → Type 0) (r : Result A E) → ((a : A) → P a → Q a) → MatchResult r P F → MatchResult r Q F
ok-as P Q F (Ok a) to h = to a h
ok-as P Q F (Err e) to h = h

pub refused-as : {A E : Type 0} (F G : Type 0) (r : Result A E) → (F → G) → OnErr r F → OnErr r G
refused-as F G (Ok a) to h = tt
refused-as F G (Err e) to h = to h

-- some series is held
pub holds-some : (cells : Cells) → HaveFirst cells → HoldsSome cells
holds-some cells (first, rest, series) = (first, (series.held first).0 (zero, omega arith, refl))

pub one-text : IsTotalOrder series_key_cmp → (cells : Cells) (a b : List ℕ) → IsText cells a → IsText cells b → a ≡ b
one-text total cells a b h g =
    let same : h.keys ≡ g.keys = one-sorted series_key_cmp total h.keys g.keys h.series.ascending g.series.ascending
    (λ s c. (g.series.held s).1 ((h.series.held s).0 c)) (λ s c. (h.series.held s).1 ((g.series.held s).0 c)) in
    h.lines ∙ ap (series_text cells) same ∙ sym g.lines

head_or : {A : Type 0} → A → List A → A
head_or d [] = d
head_or d (x ∷ xs) = x

tail_of : {A : Type 0} → List A → List A
tail_of [] = []
tail_of (x ∷ xs) = xs

same-answered : (a b : List (Answered KeyParts)) → checks_of a ≡ checks_of b → answers_of a ≡ answers_of b → a ≡ b
unfolding head_or tail_of
same-answered [] [] h g = refl
same-answered [] (y ∷ ys) h g = absurd (let e : 0 ≡ suc (length (answers_of ys)) = ap length g in omega (arith, e))
same-answered (x ∷ xs) [] h g = absurd (let e : suc (length (answers_of xs)) ≡ 0 = ap length g in omega (arith, e))
same-answered (x ∷ xs) (y ∷ ys) h g =
    ap (λ c. record { check = c; answer = x.answer } ∷ xs) (ap (head_or x.check) h)
    ∙ ap (λ b. record { check = y.check; answer = b } ∷ xs) (ap (head_or x.answer) g)
    ∙ ap (λ l. y ∷ l) (same-answered xs ys (ap tail_of h) (ap tail_of g))

pub one-expiry : IsTotalOrder series_key_cmp → (setup : Setup) (before : List Step) (now : ℕ) (a b : List (Answered KeyParts)) (n m : ℕ)
    → IsExpiry setup before now a (Ok n) → IsExpiry setup before now b (Ok m) → (a ≡ b) × (n ≡ m)
one-expiry total setup before now a b n m h g =
    let hs = h.ended.0.1 in
    let gs = g.ended.0.1 in
    let keys : h.ended.0.0 ≡ g.ended.0.0 = one-sorted series_key_cmp total h.ended.0.0 g.ended.0.0 hs.ascending gs.ascending
    (λ s c. (gs.held s).1 ((hs.held s).0 c)) (λ s c. (hs.held s).1 ((gs.held s).0 c)) in
    let checks : checks_of a ≡ checks_of b = h.ended.0.2 ∙ ap (map (check_of_held (cells_after setup before) now)) keys ∙ sym g.ended.0.2 in
    let same : a ≡ b = same-answered a b checks (h.answers ∙ ap (run_answers key_eq setup.rules (reverse (checks_in before))) checks ∙ sym g.answers) in
    (same, h.ended.1 ∙ ap removed_by same ∙ sym g.ended.1)
