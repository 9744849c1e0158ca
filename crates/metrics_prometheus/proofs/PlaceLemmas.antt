-- Rows in order of their places.
use Rattle.std.proofs.Common.{◌≡◌, ◌∙◌, ◌+◌, ◌<◌, ℕ, Bool, true, false, not, ◌&&◌, cond, List, [], ◌∷◌, ◌++◌, Option, None, Some, is_some, map, length, get_or, take, refl, ap, sym, subst, arith}
use Rattle.std.specs.Prelude.{IsPermutation, IsTrue, IfSome}
use Rattle.std.specs.Borrow.{Bor}
use Rattle.std.specs.List.{AllByRecursion, All, dedup, dedup_from}
use Rattle.std.specs.List.Sorted.{IsSorted}
use Rattle.std.specs.Cmp.Lexicographic.{slice_cmp}
use Rattle.std.specs.Ordering.{is_lt, nat_cmp, ordering_then}
use Rattle.std.specs.declared.cmp.Ordering.{Ordering}
use Rattle.std.specs.declared.cmp.Ordering.TheVariants.{Less, Equal, Greater}
use Rattle.std.proofs.lemmas.Cmp.{nat_list_cmp_total, tied_itself}
use Rattle.std.proofs.lemmas.List.{take_more, map-append}
use Rattle.std.proofs.lemmas.List.Elements.{All-from_recursion, recursion_from_All}
use Rattle.std.proofs.lemmas.List.Filters.{All-dedup}
use Rattle.std.proofs.lemmas.List.Sorted.{All-permutation}
use Rattle.metrics_names.specs.declared.kind.MetricKind.{MetricKind}
use Rattle.metrics_names.specs.declared.kind.MetricKind.TheVariants.{Counter, Gauge, Histogram}
use Rattle.metrics_names.specs.Names.{LabelParts, kind_number, kind_eq, label_cmp, key_cmp}
use Rattle.metrics_prometheus.specs.declared.row.Head.{Head}
use Rattle.metrics_prometheus.specs.declared.row.ShownRow.{ShownRow}
use Rattle.metrics_prometheus.specs.declared.rows.Place.{Place}
use Rattle.metrics_prometheus.specs.Exposition.{Row, row_cmp, last_number, names_used, whole_of}
use Rattle.metrics_prometheus.specs.Rows.{row_shown, rows_shown}
use Rattle.metrics_prometheus.specs.Places.{rows_placed, place_cmp, value_placed, IsPlaced, are_led, IsLed, AreLed, AreAlike, line_head}
use Rattle.metrics_prometheus.specs.Heads.{HaveHead, HaveOneHead}
use Rattle.metrics_exposition.specs.Labels.{are_fit, is_last, first_key, first_value}
use Rattle.metrics_exposition.specs.Heads.{sample_head}
use Rattle.metrics_exposition.proofs.PairLemmas.{each-at, each-map, each-append, each-both}
use Rattle.metrics_prometheus.proofs.RowLemmas.{map-length, map-get}
use Rattle.metrics_exposition.proofs.SameLemmas.{same-bytes}
use Rattle.metrics_exposition.proofs.OrderLemmas.{names}

-- ---- lists that are mapped

module _ {A B : Type 0} (f : A → B) where
  dedup-from-map : (same : B → B → Bool) (k : A) (xs : List A) → map f (dedup_from (λ x y. same (f x) (f y)) k xs) ≡ dedup_from same (f k) (map f xs)
  dedup-from-map same k [] = refl
  dedup-from-map same k (x ∷ xs) = go (same (f x) (f k)) (dedup-from-map same k xs) (dedup-from-map same x xs)
    where
      go : (b : Bool) → map f (dedup_from (λ x y. same (f x) (f y)) k xs) ≡ dedup_from same (f k) (map f xs) → map f (dedup_from (λ x y. same (f x) (f y)) x xs) ≡ dedup_from same (f x) (map f xs)
          → map f (cond b (dedup_from (λ x y. same (f x) (f y)) k xs) (k ∷ dedup_from (λ x y. same (f x) (f y)) x xs)) ≡ cond b (dedup_from same (f k) (map f xs)) (f k ∷ dedup_from same (f x) (map f xs))
      go true e g = e
      go false e g = ap (λ l. f k ∷ l) g

  pub dedup-map : (same : B → B → Bool) (xs : List A) → map f (dedup (λ x y. same (f x) (f y)) xs) ≡ dedup same (map f xs)
  dedup-map same [] = refl
  dedup-map same (x ∷ xs) = dedup-from-map same x xs

  -- what is sorted stays so where it is shown, if the orders agree at what is known of each element
  pub sorted-where : (P : A → Type 0) (C : A → A → Ordering) (D : B → B → Ordering) → ((a b : A) → P a → P b → C a b ≡ D (f a) (f b)) → (xs : List A) → AllByRecursion P xs → IsSorted C xs → IsSorted D (map f xs)
  sorted-where P C D same [] each up k d first small = absurd (omega (arith, small))
  sorted-where P C D same (x ∷ xs) each up k d first small =
      let fits : k + 1 < length (x ∷ xs) = omega (arith, small, map-length f xs) in
      let below : k < length (x ∷ xs) = omega (arith, fits) in
      let a = get_or (x ∷ xs) (k + 1) x in
      let b = get_or (x ∷ xs) k x in
      ap is_lt (ap (λ s. D s (get_or (map f (x ∷ xs)) k d)) (map-get f (x ∷ xs) (k + 1) d x fits) ∙ ap (D (f a)) (map-get f (x ∷ xs) k d x below) ∙ sym (same a b (each-at P (x ∷ xs) (k + 1) x each fits) (each-at P (x ∷ xs) k x each below)))
      ∙ up k x (omega arith) fits

  pub each-mapped : (P : B → Type 0) (xs : List A) → AllByRecursion P (map f xs) → AllByRecursion (λ x. P (f x)) xs
  each-mapped P [] h = tt
  each-mapped P (x ∷ xs) h = (h.0, each-mapped P xs h.1)

-- ---- places

-- one place more
pub placed-more : (rows : List ShownRow) (ps qs : List Place) (i : ℕ) (r : ShownRow) (p : Place) → i < length rows → r ≡ get_or rows i r → p.row.now ≡ r
    → qs ≡ ps ++ p ∷ [] → rows_placed ps ≡ take i rows → rows_placed qs ≡ take (i + 1) rows
placed-more rows ps qs i r p small at is more so =
    let f : Place → ShownRow = λ p. p.row.now in
    ap (map f) more ∙ map-append f ps (p ∷ []) ∙ ap (λ l. l ++ f p ∷ []) so ∙ ap (λ x. take i rows ++ x ∷ []) (is ∙ at) ∙ sym (take_more rows i r small)

pub is-placed : (alike : Bool) (r : ShownRow) (p : Place) → p.row.now ≡ r → p.value.now ≡ value_placed alike r → IsPlaced alike p
is-placed alike r p is value = value ∙ ap (value_placed alike) (sym is)

pub each-more : (alike : Bool) (ps qs : List Place) (p : Place) → qs ≡ ps ++ p ∷ [] → AllByRecursion (IsPlaced alike) ps → IsPlaced alike p → AllByRecursion (IsPlaced alike) qs
each-more alike ps qs p more each one = subst (AllByRecursion (IsPlaced alike)) (sym more) (each-append (IsPlaced alike) ps (p ∷ []) each (one, tt))

twice : (o p q : Ordering) → ordering_then o (ordering_then (ordering_then o p) q) ≡ ordering_then (ordering_then o p) q
twice Less p q = refl
twice Equal p q = refl
twice Greater p q = refl

kind-tied : (k : MetricKind) → nat_cmp (kind_number k) (kind_number k) ≡ Equal
kind-tied Counter = refl
kind-tied Gauge = refl
kind-tied Histogram = refl

-- rows of one name and kind go by their labels
by-labels : (a b : Row) → a.name ≡ b.name → a.kind ≡ b.kind → row_cmp a b ≡ ordering_then (slice_cmp label_cmp a.labels b.labels) (key_cmp a.key b.key)
by-labels a b name kind =
    let rest : Ordering = ordering_then (slice_cmp label_cmp a.labels b.labels) (key_cmp a.key b.key) in
    let kinds : nat_cmp (kind_number a.kind) (kind_number b.kind) ≡ Equal = ap (λ k. nat_cmp (kind_number k) (kind_number b.kind)) kind ∙ kind-tied b.kind in
    let tied : names a.name b.name ≡ Equal = ap (λ n. names n b.name) name ∙ tied_itself nat_list_cmp_total b.name in
    ap (λ o. ordering_then o (ordering_then (nat_cmp (kind_number a.kind) (kind_number b.kind)) rest)) tied ∙ ap (λ o. ordering_then o rest) kinds

-- labels of one first key go by their first values
by-value : (fs ls ms : List LabelParts) → are_led fs ls ≡ true → are_led fs ms ≡ true → (o : Ordering) → ordering_then (names (first_value ls) (first_value ms)) (ordering_then (slice_cmp label_cmp ls ms) o) ≡ ordering_then (slice_cmp label_cmp ls ms) o
by-value [] ls ms h g o = absurd (let e : false ≡ true = h in cc)
by-value (f ∷ fs) [] ms h g o = absurd (let e : false ≡ true = h in cc)
by-value (f ∷ fs) (l ∷ ls) [] h g o = absurd (let e : false ≡ true = g in cc)
by-value (f ∷ fs) (l ∷ ls) (m ∷ ms) h g o =
    let key : l.0 ≡ m.0 = sym (same-bytes f.0 l.0 h) ∙ same-bytes f.0 m.0 g in
    let tied : names l.0 m.0 ≡ Equal = ap (λ n. names n m.0) key ∙ tied_itself nat_list_cmp_total m.0 in
    let value = names l.1 m.1 in
    let rest = slice_cmp label_cmp ls ms in
    let same : slice_cmp label_cmp (l ∷ ls) (m ∷ ms) ≡ ordering_then value rest = ap (λ k. ordering_then (ordering_then k value) rest) tied in
    ap (λ s. ordering_then value (ordering_then s o)) same ∙ twice value rest o ∙ sym (ap (λ s. ordering_then s o) same)

-- a place by the first label's value, of a row with this head and the first label's key of these labels
abbrev IsKnown : Head → List LabelParts → Place → Type 0
IsKnown h labels p = IsPlaced true p × ((p.row.now.head.value ≡ h) × IsLed labels p.row.now)

alike-cmp : (h : Head) (labels : List LabelParts) (a b : Place) → IsKnown h labels a → IsKnown h labels b → place_cmp a b ≡ row_cmp (row_shown a.row.now) (row_shown b.row.now)
alike-cmp h labels a b ka kb =
    let x = row_shown a.row.now in
    let y = row_shown b.row.now in
    let head : a.row.now.head.value ≡ b.row.now.head.value = ka.1.0 ∙ sym kb.1.0 in
    let value : Ordering = names (first_value x.labels) (first_value y.labels) in
    let keys : Ordering = key_cmp x.key y.key in
    let same : row_cmp x y ≡ ordering_then (slice_cmp label_cmp x.labels y.labels) keys = by-labels x y (ap (λ (h : Head). h.name) head) (ap (λ (h : Head). h.kind) head) in
    ap (λ l. ordering_then (names l b.value.now) (row_cmp x y)) ka.0 ∙ ap (λ l. ordering_then (names (first_value x.labels) l) (row_cmp x y)) kb.0
    ∙ ap (ordering_then value) same ∙ by-value labels x.labels y.labels ka.1.1 kb.1.1 keys ∙ sym same

other-cmp : (a b : Place) → IsPlaced false a → IsPlaced false b → place_cmp a b ≡ row_cmp (row_shown a.row.now) (row_shown b.row.now)
other-cmp a b ka kb =
    let o = row_cmp (row_shown a.row.now) (row_shown b.row.now) in
    ap (λ l. ordering_then (names l b.value.now) o) ka ∙ ap (λ l. ordering_then (names [] l) o) kb

pub placed-sorted : (C : Place → Place → Ordering) (R : ShownRow → ShownRow → Ordering) → ((a b : Place) → C a b ≡ place_cmp a b) → ((a b : ShownRow) → R a b ≡ row_cmp (row_shown a) (row_shown b))
    → (alike : Bool) (rows : List ShownRow) (us ps : List Place) → rows_placed us ≡ rows → IsPermutation us ps → AllByRecursion (IsPlaced alike) us
    → (IsTrue alike → HaveOneHead rows) → (IsTrue alike → AreLed rows) → IsSorted C ps → IsSorted R (rows_placed ps)
placed-sorted C R places order false rows us ps are moved each heads keys up =
    let f : Place → ShownRow = λ p. p.row.now in
    let P : Place → Type 0 = IsPlaced false in
    let known : AllByRecursion P ps = recursion_from_All P ps (All-permutation P us ps moved (All-from_recursion P us each)) in
    sorted-where f P C R (λ a b ka kb. places a b ∙ other-cmp a b ka kb ∙ sym (order (f a) (f b))) ps known up
placed-sorted C R places order true rows us ps are moved each heads keys up =
    let f : Place → ShownRow = λ p. p.row.now in
    let one : HaveOneHead rows = heads refl in
    let led : AreLed rows = keys refl in
    let H : ShownRow → Type 0 = λ r. r.head.value ≡ one.0 in
    let L : ShownRow → Type 0 = IsLed led.0 in
    let P : Place → Type 0 = IsKnown one.0 led.0 in
    let has : AllByRecursion (λ p. H (f p)) us = each-mapped f H us (subst (AllByRecursion H) (sym are) one.1) in
    let keyed : AllByRecursion (λ p. L (f p)) us = each-mapped f L us (recursion_from_All L (rows_placed us) (subst (All L) (sym are) led.1)) in
    let both : AllByRecursion P us = each-both (IsPlaced true) (λ p. H (f p) × L (f p)) us each (each-both (λ p. H (f p)) (λ p. L (f p)) us has keyed) in
    let known : AllByRecursion P ps = recursion_from_All P ps (All-permutation P us ps moved (All-from_recursion P us both)) in
    sorted-where f P C R (λ a b ka kb. places a b ∙ alike-cmp one.0 led.0 a b ka kb ∙ sym (order (f a) (f b))) ps known up

-- rows that are alike stay so in another order, and without repeats
pub alike-kept : (same : ShownRow → ShownRow → Bool) (rows xs ys : List ShownRow) → IsPermutation rows xs → ys ≡ dedup same xs → HaveOneHead rows → AreLed rows → AreAlike ys
alike-kept same rows xs ys moved left one led =
    let H : ShownRow → Type 0 = λ r. r.head.value ≡ one.0 in
    let kept : (P : ShownRow → Type 0) → All P rows → All P ys = λ P each. subst (All P) (sym left) (All-dedup same P xs (All-permutation P rows xs moved each)) in
    ((one.0, recursion_from_All H ys (kept H (All-from_recursion H rows one.1))), (led.0, kept (IsLed led.0) led.1))

-- ---- what lines begin with

first-led : (fs ls : List LabelParts) → are_led fs ls ≡ true → first_key ls ≡ first_key fs
first-led [] ls h = absurd (let e : false ≡ true = h in cc)
first-led (f ∷ fs) [] h = absurd (let e : false ≡ true = h in cc)
first-led (f ∷ fs) (l ∷ ls) h = sym (same-bytes f.0 l.0 h)

-- the lines of rows that are alike begin as that of one of them
pub begun-alike : (ps : List Place) (i : ℕ) (p : Place) → i < length ps → p ≡ get_or ps i p → AreAlike (rows_placed ps) → AllByRecursion (λ q. line_head p.row.now ≡ line_head q.row.now) ps
begun-alike ps i p small at alike =
    let f : Place → ShownRow = λ p. p.row.now in
    let one = alike.0 in
    let led = alike.1 in
    let L : ShownRow → Type 0 = λ r. line_head r ≡ sample_head one.0.name (first_key led.0) in
    let H : ShownRow → Type 0 = λ r. r.head.value ≡ one.0 in
    let both : AllByRecursion (λ r. H r × IsLed led.0 r) (rows_placed ps) = each-both H (IsLed led.0) (rows_placed ps) one.1 (recursion_from_All (IsLed led.0) (rows_placed ps) led.1) in
    let all : AllByRecursion L (rows_placed ps) = each-map (λ r. H r × IsLed led.0 r) L (λ r h. ap (λ (x : Head). sample_head x.name (first_key r.labels)) h.0 ∙ ap (sample_head one.0.name) (first-led led.0 r.labels h.1)) (rows_placed ps) both in
    let each : AllByRecursion (λ q. L (f q)) ps = each-mapped f L ps all in
    let here : L (f p) = subst (λ q. L (f q)) (sym at) (each-at (λ q. L (f q)) ps i p each small) in
    each-map (λ q. L (f q)) (λ q. line_head p.row.now ≡ line_head q.row.now) (λ q h. here ∙ sym h) ps each

-- ---- rows of one head

pub head-at : (h : Head) (ps : List Place) (i : ℕ) (p : Place) → i < length ps → p ≡ get_or ps i p → HaveHead h (rows_placed ps) → p.row.now.head.value ≡ h
head-at h ps i p small at each =
    let H : Place → Type 0 = λ p. p.row.now.head.value ≡ h in
    subst H (sym at) (each-at H ps i p (each-mapped (λ p. p.row.now) (λ r. r.head.value ≡ h) ps each) small)

-- the one that was written last has a row's name
pub some-named : (h : Head) (last : Option (Bor ShownRow)) (r : ShownRow) → r.head.value ≡ h → IfSome last (λ w. w.now.head.value ≡ h) → IfSome last (λ w. w.now.head.value.name ≡ r.head.value.name)
some-named h None r is last = tt
some-named h (Some w) r is last = ap (λ (x : Head). x.name) (last ∙ sym is)

-- rows of a head of another kind are no histograms
pub numbers-alike : (ps : List Place) (i : ℕ) (p : Place) → i < length ps → p ≡ get_or ps i p → HaveOneHead (rows_placed ps) → kind_eq p.row.now.head.value.kind Histogram ≡ false
    → AllByRecursion (λ q. kind_eq q.row.now.head.value.kind Histogram ≡ false) ps
numbers-alike ps i p small at one other =
    let H : Place → Type 0 = λ q. q.row.now.head.value ≡ one.0 in
    let here : H p = head-at one.0 ps i p small at one.1 in
    each-map H (λ q. kind_eq q.row.now.head.value.kind Histogram ≡ false) (λ q e. ap (λ (x : Head). kind_eq x.kind Histogram) (e ∙ sym here) ∙ other) ps (each-mapped (λ q. q.row.now) (λ r. r.head.value ≡ one.0) ps one.1)

-- they use no names
pub numbers-used : (ps : List Place) (done : List (List ℕ)) (last : Option (List ℕ)) → AllByRecursion (λ p. kind_eq p.row.now.head.value.kind Histogram ≡ false) ps → names_used done last (rows_shown (rows_placed ps)) ≡ done
numbers-used [] done last each = refl
numbers-used (p ∷ ps) done last each =
    let r = row_shown p.row.now in
    ap (λ b. names_used (cond ((b && are_fit r.kind r.labels) && (not (is_last last r.name) && not (is_some (whole_of done r.name)))) (done ++ r.name ∷ []) done) (last_number last r) (rows_shown (rows_placed ps))) each.0
    ∙ numbers-used ps done (last_number last r) each.1
