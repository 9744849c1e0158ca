-- The names of histograms: those of rows in order are in order, and a search finds what is among them.
use Rattle.std.proofs.Common.{◌≡◌, ◌∙◌, ◌+◌, ◌<◌, inl, inr, ℕ, zero, suc, Bool, true, false, cond, ◌||◌, List, [], ◌∷◌, ◌++◌, drop, length, get_or, map, Err, Option, Some, None, refl, ap, sym, subst, arith}
use Rattle.std.specs.Prelude.{bytes_eq}
use Rattle.std.specs.Borrow.{Bor}
use Rattle.std.specs.List.{list_any, AllByRecursion}
use Rattle.std.specs.List.Sorted.{IsSorted, IsSortedBy, IsBinarySearchResult}
use Rattle.std.specs.Ordering.{is_lt}
use Rattle.std.specs.declared.cmp.Ordering.TheVariants.{Less, Equal, Greater}
use Rattle.std.proofs.lemmas.Bool.{cases_lt}
use Rattle.std.proofs.lemmas.Cmp.{nat_list_cmp_total, tied_itself}
use Rattle.std.proofs.lemmas.List.{get_or_default, drop_more, map-append}
use Rattle.std.proofs.lemmas.List.Sorted.{searchable_from_sorted}
use Rattle.std.proofs.lemmas.Map.Lookups.{exact_bytes}
use Rattle.metrics_prometheus.specs.declared.rows.Place.{Place}
use Rattle.metrics_prometheus.specs.Places.{rows_placed}
use Rattle.metrics_prometheus.specs.Rows.{row_shown, rows_shown, names_shown}
use Rattle.metrics_prometheus.specs.Exposition.{Row, row_cmp, last_number, uses_name, names_used, found_in}
use Rattle.metrics_exposition.proofs.PairLemmas.{each-map, each-append, Pairs, pairs-append, pairs-places}
use Rattle.metrics_prometheus.proofs.RowLemmas.{map-length, map-get}
use Rattle.metrics_exposition.proofs.SameLemmas.{bytes-same, same-bytes}
use Rattle.metrics_prometheus.proofs.SampleLemmas.{or-first, or-second}
use Rattle.metrics_prometheus.proofs.WrittenLemmas.{IsUp, rows-up, row_total}
use Rattle.metrics_exposition.proofs.OrderLemmas.{names, first-part}

-- ---- the names are in order

-- one name is not above another
abbrev pub NotAbove : List ℕ → List ℕ → Type 0
NotAbove a b = is_lt (names b a) ≡ false

-- names in order, of which none is above a row's, and rows in order
pub record AreUp (done : List (List ℕ)) (rs : List Row) : Type 0 where
  pub own : Pairs NotAbove done
  pub below : AllByRecursion (λ n. AllByRecursion (λ r. NotAbove n r.name) rs) done
  pub rows : Pairs IsUp rs

pub up-start : (rows : List Row) → IsSorted row_cmp rows → AreUp [] rows
up-start rows up = record { own = tt; below = tt; rows = rows-up row_total rows up }

-- with the first row's name or without it
pub up-more : (b : Bool) (done : List (List ℕ)) (r : Row) (rs : List Row) → AreUp done (r ∷ rs) → AreUp (cond b (done ++ r.name ∷ []) done) rs
up-more true done r rs up = record {
  own = pairs-append NotAbove done (r.name ∷ []) up.own (tt, tt)
      (each-map (λ n. AllByRecursion (λ q. NotAbove n q.name) (r ∷ rs)) (λ n. AllByRecursion (NotAbove n) (r.name ∷ [])) (λ n h. (h.0, tt)) done up.below);
  below = each-append (λ n. AllByRecursion (λ q. NotAbove n q.name) rs) done (r.name ∷ [])
      (each-map (λ n. AllByRecursion (λ q. NotAbove n q.name) (r ∷ rs)) (λ n. AllByRecursion (λ q. NotAbove n q.name) rs) (λ n h. h.1) done up.below)
      (each-map (IsUp r) (λ q. NotAbove r.name q.name) (λ q h. first-part (names q.name r.name) _ h) rs up.rows.0, tt);
  rows = up.rows.1;
}
up-more false done r rs up = record {
  own = up.own;
  below = each-map (λ n. AllByRecursion (λ q. NotAbove n q.name) (r ∷ rs)) (λ n. AllByRecursion (λ q. NotAbove n q.name) rs) (λ n h. h.1) done up.below;
  rows = up.rows.1;
}

pub up-sorted : (done : List (List ℕ)) (rs : List Row) → AreUp done rs → IsSorted names done
up-sorted done rs up k d first small = pairs-places NotAbove done up.own k (k + 1) d (omega arith) small

-- what these names and the rows to come use together
abbrev pub Uses : List (List ℕ) → Option (List ℕ) → List (List ℕ) → List Place → Type 0
Uses done last whole places = (names_used done last (rows_shown (rows_placed places)) ≡ whole) × AreUp done (rows_shown (rows_placed places))

-- with one more place
pub uses-more : (xs : List Place) (i : ℕ) (x : Place) (done after whole : List (List ℕ)) (last next : Option (List ℕ)) → i < length xs → x ≡ get_or xs i x
    → after ≡ cond (uses_name done last (row_shown x.row.now)) (done ++ (row_shown x.row.now).name ∷ []) done → next ≡ last_number last (row_shown x.row.now)
    → Uses done last whole (drop i xs) → Uses after next whole (drop (i + 1) xs)
uses-more xs i x done after whole last next small at is-after is-next h =
    let rest = drop (i + 1) xs in
    let r = row_shown x.row.now in
    let g = subst (Uses done last whole) (drop_more xs i x small ∙ ap (λ y. y ∷ rest) (sym at)) h in
    let b = uses_name done last r in
    subst (λ d. Uses d next whole rest) (sym is-after)
    (subst (λ l. Uses (cond b (done ++ r.name ∷ []) done) l whole rest) (sym is-next) (g.0, up-more b done r (rows_shown (rows_placed rest)) g.1))

-- a name was added
pub used-then : (items after : List (Bor (List ℕ))) (n : Bor (List ℕ)) (b : Bool) (name : List ℕ) → after ≡ items ++ n ∷ [] → n.now ≡ name → b ≡ true
    → names_shown after ≡ cond b (names_shown items ++ name ∷ []) (names_shown items)
used-then items after n b name added is used =
    ap names_shown added ∙ map-append (λ (m : Bor (List ℕ)). m.now) items (n ∷ []) ∙ ap (λ m. names_shown items ++ m ∷ []) is
    ∙ sym (ap (λ c. cond c (names_shown items ++ name ∷ []) (names_shown items)) used)

-- ---- a search among names in order

module _ {A : Type 0} (f : A → List ℕ) where
  any-at : (p : List ℕ → Bool) (xs : List A) (i : ℕ) → i < length xs → ((d : A) → p (f (get_or xs i d)) ≡ true) → list_any p (map f xs) ≡ true
  any-at p [] i small g = absurd (omega (arith, small))
  any-at p (x ∷ xs) zero small g = or-first (p (f x)) (list_any p (map f xs)) (g x)
  any-at p (x ∷ xs) (suc i) small g = or-second (p (f x)) (list_any p (map f xs)) (any-at p xs i (omega (arith, small)) g)

  neither : (a b : Bool) → a ≡ false → b ≡ false → (a || b) ≡ false
  neither false b e g = g
  neither true b e g = absurd (let h : true ≡ false = e in cc)

  none-at : (p : List ℕ → Bool) (xs : List A) → ((k : ℕ) (d : A) → k < length xs → p (f (get_or xs k d)) ≡ false) → list_any p (map f xs) ≡ false
  none-at p [] g = refl
  none-at p (x ∷ xs) g = neither (p (f x)) (list_any p (map f xs)) (g 0 x (omega arith)) (none-at p xs (λ k d small. g (suc k) d (omega (arith, small))))

  sorted-by : (xs : List A) → IsSorted names (map f xs) → IsSortedBy (λ a b. is_lt (names (f a) (f b))) xs
  sorted-by xs up k d first small =
      let e = f d in
      let fits : k + 1 < length (map f xs) = omega (arith, small, map-length f xs) in
      let P : List ℕ → List ℕ → Type 0 = λ b a. is_lt (names b a) ≡ false in
      subst (λ a. P (f (get_or xs (k + 1) d)) a) (map-get f xs k e d (omega (arith, small)))
      (subst (λ b. P b (get_or (map f xs) k e)) (map-get f xs (k + 1) e d small) (up k e (omega arith) fits))

  not-equal : (name n : List ℕ) → (names n name ≡ Equal → ⊥) → bytes_eq name n ≡ false
  not-equal name n h = go (bytes_eq name n) refl
    where
      go : (b : Bool) → bytes_eq name n ≡ b → bytes_eq name n ≡ false
      go false e = e
      go true e = absurd (h (ap (names n) (same-bytes name n e) ∙ tied_itself nat_list_cmp_total n))

  -- the place that a search came to
  pub searched-there : (xs : List A) (name : List ℕ) (i : ℕ) (x : A) → i < length xs → x ≡ get_or xs i x → names (f x) name ≡ Equal → Some (f x) ≡ found_in (map f xs) name
  searched-there xs name i x small at equal =
      let same : f x ≡ name = exact_bytes (f x) name equal in
      let any : list_any (bytes_eq name) (map f xs) ≡ true = any-at (bytes_eq name) xs i small (λ d. bytes-same name (f (get_or xs i d)) (sym same ∙ ap f (at ∙ get_or_default xs i x d small))) in
      ap (λ n. Some n) same ∙ sym (ap (λ b. cond b (Some name) None) any)

  pub searched-none : (xs : List A) (name : List ℕ) (i : ℕ) → IsSorted names (map f xs) → IsBinarySearchResult (λ y. names (f y) name) xs (Err i) → None ≡ found_in (map f xs) name
  searched-none xs name i up point =
      let parts = point (searchable_from_sorted nat_list_cmp_total f xs name (sorted-by xs up)) in
      let none : list_any (bytes_eq name) (map f xs) ≡ false = none-at (bytes_eq name) xs (λ k d within. not-equal name (f (get_or xs k d)) (λ e. elim (cases_lt k i) [
        | inl below ↦ absurd (let g : Less ≡ Equal = sym (parts.0 k d (omega arith) below) ∙ e in cc)
        | inr above ↦ absurd (let g : Greater ≡ Equal = sym (parts.1 k d above within) ∙ e in cc)
      ])) in
      sym (ap (λ b. cond b (Some name) None) none)
