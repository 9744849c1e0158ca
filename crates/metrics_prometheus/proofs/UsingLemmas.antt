-- The names that histograms use are those of the histograms that are written.
use Rattle.std.proofs.Common.{◌≡◌, ◌∙◌, ◌⊎◌, ◌↔◌, ◌-◌, inl, inr, ℕ, Bool, true, false, not, ◌&&◌, ◌||◌, cond, nat_eq, List, [], ◌∷◌, ◌++◌, take, length, codes, Option, Some, None, is_some, Contains, refl, ap, sym, subst}
use Rattle.std.specs.Prelude.{bytes_eq}
use Rattle.std.specs.Option.{option_or}
use Rattle.std.specs.List.{AllByRecursion, list_any, ends_with}
use Rattle.std.specs.List.Sorted.{IsSorted}
use Rattle.std.specs.Cmp.Lexicographic.{pointwise}
use Rattle.std.specs.Ordering.{nat_cmp, is_lt, ordering_then}
use Rattle.std.specs.declared.cmp.Ordering.TheVariants.{Less, Equal}
use Rattle.std.proofs.lemmas.Bool.{cond_both}
use Rattle.std.proofs.lemmas.Bool.Decides.{Decides-eqb}
use Rattle.std.proofs.lemmas.Slice.Eq.{ends_is}
use Rattle.std.proofs.lemmas.Cmp.{nat_cmp_total, nat_list_cmp_total, tied_itself}
use Rattle.std.proofs.lemmas.List.Folds.{list_any-append}
use Rattle.std.proofs.lemmas.Map.Lookups.{exact_bytes}
use Rattle.metrics_names.specs.declared.kind.MetricKind.{MetricKind}
use Rattle.metrics_names.specs.declared.kind.MetricKind.TheVariants.{Counter, Gauge, Histogram}
use Rattle.metrics_names.specs.Names.{kind_eq, kind_number, label_eq}
use Rattle.metrics_exposition.specs.Labels.{are_fit, is_last}
use Rattle.metrics_prometheus.specs.Exposition.{Row, row_cmp, is_fit_histogram, is_fit_number, last_number, uses_name, names_used, histogram_names, found_in, part_of, whole_of, is_taken, is_left_out}
use Rattle.metrics_prometheus.specs.Written.{written, HasHistogram}
use Rattle.metrics_exposition.proofs.PairLemmas.{each-map, each-in, in-first, in-later, in-split, in-none, Pairs}
use Rattle.metrics_prometheus.proofs.SearchLemmas.{NotAbove}
use Rattle.metrics_exposition.proofs.SameLemmas.{both-true, bytes-same, same-bytes, same-kind}
use Rattle.metrics_prometheus.proofs.SampleLemmas.{End, bucket, sum, number, end_text, IsAmong, or-first, or-second, both}
use Rattle.metrics_prometheus.proofs.WrittenLemmas.{in-order, IsUp, rows-up, row_total, clashes, left-is, left-case, some-or}
use Rattle.metrics_exposition.proofs.OrderLemmas.{names, first-part, second-part, turn, never}

-- ---- names that are used

none-true : (b : Bool) → (b ≡ true → ⊥) → b ≡ false
none-true true h = absurd (h refl)
none-true false h = refl

two : (b : Bool) → (b ≡ true) ⊎ (b ≡ false)
two true = inl refl
two false = inr refl

any-first : (n : List ℕ) (xs ys : List (List ℕ)) → list_any (bytes_eq n) xs ≡ true → list_any (bytes_eq n) (xs ++ ys) ≡ true
any-first n xs ys h = list_any-append (bytes_eq n) xs ys ∙ or-first (list_any (bytes_eq n) xs) (list_any (bytes_eq n) ys) h

any-last : (n : List ℕ) (xs : List (List ℕ)) → list_any (bytes_eq n) (xs ++ n ∷ []) ≡ true
any-last n xs = list_any-append (bytes_eq n) xs (n ∷ []) ∙ or-second (list_any (bytes_eq n) xs) (list_any (bytes_eq n) (n ∷ [])) (or-first (bytes_eq n n) false (bytes-same n n refl))

-- a name that is used stays so
used-keeps : (rs : List Row) (done : List (List ℕ)) (last : Option (List ℕ)) (n : List ℕ) → list_any (bytes_eq n) done ≡ true → list_any (bytes_eq n) (names_used done last rs) ≡ true
used-keeps [] done last n h = h
used-keeps (r ∷ rs) done last n h =
    used-keeps rs (cond (uses_name done last r) (done ++ r.name ∷ []) done) (last_number last r) n
    (cond_both (uses_name done last r) (done ++ r.name ∷ []) done (λ d. list_any (bytes_eq n) d ≡ true) (λ _. any-first n done (r.name ∷ []) h) (λ _. h))

-- ---- parts of names that are used

-- what comes before an end
abbrev front_of : List ℕ → End → List ℕ
front_of name e = take (length name - length (end_text e)) name

-- names have no more parts than others, if those have what comes before an end of it
abbrev FrontsIn : List ℕ → List (List ℕ) → List (List ℕ) → Type 0
FrontsIn name hs gs = (e : End) → ends_with nat_eq name (end_text e) ≡ true → list_any (bytes_eq (front_of name e)) hs ≡ true → list_any (bytes_eq (front_of name e)) gs ≡ true

part-keeps : (name : List ℕ) (hs gs : List (List ℕ)) (e : End) → FrontsIn name hs gs → is_some (part_of hs name (end_text e)) ≡ true → is_some (part_of gs name (end_text e)) ≡ true
part-keeps name hs gs e fronts h = by (ends_with nat_eq name (end_text e)) refl h
  where
    found : (b c : Bool) → (b ≡ true → c ≡ true) → is_some (cond b (Some (front_of name e)) None) ≡ true → is_some (cond c (Some (front_of name e)) None) ≡ true
    found true c f h = ap (λ d. is_some (cond d (Some (front_of name e)) None)) (f refl)
    found false c f h = absurd (let g : false ≡ true = h in cc)

    by : (b : Bool) → ends_with nat_eq name (end_text e) ≡ b → is_some (cond b (found_in hs (front_of name e)) None) ≡ true → is_some (cond b (found_in gs (front_of name e)) None) ≡ true
    by true is h = found (list_any (bytes_eq (front_of name e)) hs) (list_any (bytes_eq (front_of name e)) gs) (fronts e is) h
    by false is h = absurd (let g : false ≡ true = h in cc)

whole-keeps : (name : List ℕ) (hs gs : List (List ℕ)) → FrontsIn name hs gs → is_some (whole_of hs name) ≡ true → is_some (whole_of gs name) ≡ true
whole-keeps name hs gs fronts h =
    tests gs ∙ keeps (test hs bucket) (test hs sum) (test hs number) (test gs bucket) (test gs sum) (test gs number) (part-keeps name hs gs bucket fronts) (part-keeps name hs gs sum fronts) (part-keeps name hs gs number fronts)
    (sym (tests hs) ∙ h)
  where
    test : List (List ℕ) → End → Bool
    test ns e = is_some (part_of ns name (end_text e))

    tests : (ns : List (List ℕ)) → is_some (whole_of ns name) ≡ (is_some (part_of ns name (end_text bucket)) || (is_some (part_of ns name (end_text sum)) || is_some (part_of ns name (end_text number))))
    tests ns =
        some-or (part_of ns name (end_text bucket)) (option_or (part_of ns name (end_text sum)) (part_of ns name (end_text number)))
        ∙ ap (λ b. is_some (part_of ns name (end_text bucket)) || b) (some-or (part_of ns name (end_text sum)) (part_of ns name (end_text number)))

    keeps : (a b c x y z : Bool) → (a ≡ true → x ≡ true) → (b ≡ true → y ≡ true) → (c ≡ true → z ≡ true) → (a || (b || c)) ≡ true → (x || (y || z)) ≡ true
    keeps true b c x y z f g k h = or-first x (y || z) (f refl)
    keeps false true c x y z f g k h = or-second x (y || z) (or-first y z (g refl))
    keeps false false c x y z f g k h = or-second x (y || z) (or-second y z (k h))

-- ---- fit counters and gauges

-- rows of one name go by kind, and histograms come last
kinds-up : (k j : MetricKind) → is_lt (nat_cmp (kind_number k) (kind_number j)) ≡ false → kind_eq k Histogram ≡ false → kind_eq j Histogram ≡ false
kinds-up k Counter up other = refl
kinds-up k Gauge up other = refl
kinds-up Counter Histogram up other = absurd (let g : true ≡ false = up in cc)
kinds-up Gauge Histogram up other = absurd (let g : true ≡ false = up in cc)
kinds-up Histogram Histogram up other = other

number-up : (w x : Row) → IsUp w x → w.name ≡ x.name → kind_eq x.kind Histogram ≡ false → kind_eq w.kind Histogram ≡ false
number-up w x up same other =
    let tied : names x.name w.name ≡ Equal = ap (names x.name) same ∙ tied_itself nat_list_cmp_total x.name in
    kinds-up x.kind w.kind (first-part (nat_cmp (kind_number x.kind) (kind_number w.kind)) _ (second-part (names x.name w.name) _ tied up)) other

less-next : (n m k : List ℕ) → names n m ≡ Less → is_lt (names k m) ≡ false → names n k ≡ Less
less-next n m k less up = elim (turn (names m k) (names k m) (nat_list_cmp_total.antisymm m k) up) [
  | inl next ↦ nat_list_cmp_total.trans n m k less next
  | inr equal ↦ ap (names n) (exact_bytes k m equal) ∙ less
]

-- the row that was written last is not above those to come
abbrev Above : Option Row → List Row → Type 0
Above None rs = Unit {0}
Above (Some w) rs = AllByRecursion (IsUp w) rs

above-next : (last : Option Row) (x : Row) (xs : List Row) → Above last (x ∷ xs) → Above last xs
above-next None x xs h = tt
above-next (Some w) x xs h = h.1

is-number : (x : Row) → is_fit_number x ≡ true → kind_eq x.kind Histogram ≡ false
is-number x h = by (kind_eq x.kind Histogram) (both-true (not (kind_eq x.kind Histogram)) (are_fit x.kind x.labels) h).0
  where
    by : (b : Bool) → not b ≡ true → b ≡ false
    by true e = absurd (let g : false ≡ true = e in cc)
    by false e = refl

-- the row that was written last has the name of a row and is no histogram, or has a later name
abbrev Other : Row → Option Row → Type 0
Other x None = ⊥
Other x (Some w) = ((w.name ≡ x.name) × (kind_eq w.kind Histogram ≡ false)) ⊎ (names x.name w.name ≡ Less)

module _ (all : List Row) where
  abbrev whole_names : List (List ℕ)
  whole_names = histogram_names all

  -- the last fit counter or gauge with a name of its own is the row that was written last, or that is of a later name
  abbrev Noted : Option (List ℕ) → Option Row → Type 0
  Noted None w = Unit {0}
  Noted (Some n) None = is_taken all n ≡ false → ⊥
  Noted (Some n) (Some w) = is_taken all n ≡ false → ((w.name ≡ n) × (kind_eq w.kind Histogram ≡ false)) ⊎ (names n w.name ≡ Less)

  -- a row that is written is fit, its name is free, and it doesn't clash
  record Stands (last : Option Row) (x : Row) : Type 0 where
    fit : are_fit x.kind x.labels ≡ true
    free : is_taken all x.name ≡ false
    apart : clashes last x ≡ false

  stands : (last : Option Row) (x : Row) → is_left_out all last x ≡ false → Stands last x
  stands last x e =
      let test = sym (left-is all last x) ∙ e in
      let parts = left-case (are_fit x.kind x.labels) (is_taken all x.name) (clashes last x) test in
      record { fit = fit-case (are_fit x.kind x.labels) (is_taken all x.name || clashes last x) test; free = parts.0; apart = parts.1 }
    where
      fit-case : (b c : Bool) → (not b || c) ≡ false → b ≡ true
      fit-case true c e = refl
      fit-case false c e = absurd (let g : true ≡ false = e in cc)

  -- one that is left out, though it is fit and its name is free, clashes
  left-clash : (fit taken clash : Bool) → fit ≡ true → taken ≡ false → (not fit || (taken || clash)) ≡ true → clash ≡ true
  left-clash true false clash f t e = e
  left-clash true true clash f t e = absurd (let g : true ≡ false = t in cc)
  left-clash false taken clash f t e = absurd (let g : false ≡ true = f in cc)

  clash-of : (last : Option Row) (x : Row) → are_fit x.kind x.labels ≡ true → is_taken all x.name ≡ false → is_left_out all last x ≡ true → clashes last x ≡ true
  clash-of last x fit free out = left-clash (are_fit x.kind x.labels) (is_taken all x.name) (clashes last x) fit free (sym (left-is all last x) ∙ out)

  clash-name : (w x : Row) → clashes (Some w) x ≡ true → w.name ≡ x.name
  clash-name w x h = same-bytes w.name x.name (both-true (bytes_eq w.name x.name) (not (kind_eq w.kind x.kind) || pointwise label_eq w.labels x.labels) h).0

  -- a fit counter or gauge that is left out
  number-out : (last : Option Row) (x : Row) (xs : List Row) → is_fit_number x ≡ true → is_left_out all last x ≡ true → Above last (x ∷ xs) → Noted (Some x.name) last
  number-out None x xs counts out above = λ free.
      let g : false ≡ true = clash-of None x (both-true (not (kind_eq x.kind Histogram)) (are_fit x.kind x.labels) counts).1 free out in
      absurd cc
  number-out (Some w) x xs counts out above = λ free.
      let same = clash-name w x (clash-of (Some w) x (both-true (not (kind_eq x.kind Histogram)) (are_fit x.kind x.labels) counts).1 free out) in
      inl (same, number-up w x above.0 same (is-number x counts))

  noted-out : (last : Option Row) (x : Row) (xs : List Row) (n : Option (List ℕ)) → is_left_out all last x ≡ true → Above last (x ∷ xs) → Noted n last → Noted (last_number n x) last
  noted-out last x xs n out above h = cond_both (is_fit_number x) (Some x.name) n (λ o. Noted o last) (λ counts. number-out last x xs counts out above) (λ _. h)

  -- a row that is written and is no counter or gauge comes after the last one with another name
  noted-past : (last : Option Row) (x : Row) (xs : List Row) (n : Option (List ℕ)) → is_fit_number x ≡ false → Stands last x → Above last (x ∷ xs) → Noted n last → Noted n (Some x)
  noted-past last x xs None other s above h = tt
  noted-past None x xs (Some n) other s above h = λ free. absurd (h free)
  noted-past (Some w) x xs (Some n) other s above h = λ free. elim (h free) [
    | inl (same, counts) ↦ elim (in-order w x above.0 s.apart) [
      | inl less ↦ inr (ap (λ m. names m x.name) (sym same) ∙ less)
      | inr equal ↦ absurd (let g : true ≡ false = sym (histogram s.fit other) ∙ ap (λ k. kind_eq k Histogram) (sym equal.1.0) ∙ counts in cc)
    ]
    | inr less ↦ inr (less-next n w.name x.name less (first-part (names x.name w.name) _ above.0))
  ]
    where
      histogram : are_fit x.kind x.labels ≡ true → is_fit_number x ≡ false → kind_eq x.kind Histogram ≡ true
      histogram fit e = by (kind_eq x.kind Histogram) (are_fit x.kind x.labels) fit e
        where
          by : (k f : Bool) → f ≡ true → (not k && f) ≡ false → k ≡ true
          by true f is e = refl
          by false f is e = absurd (let g : true ≡ false = sym is ∙ e in cc)

  noted-in : (last : Option Row) (x : Row) (xs : List Row) (n : Option (List ℕ)) → Stands last x → Above last (x ∷ xs) → Noted n last → Noted (last_number n x) (Some x)
  noted-in last x xs n s above h =
      cond_both (is_fit_number x) (Some x.name) n (λ o. Noted o (Some x))
      (λ counts free. inl (refl, is-number x counts))
      (λ other. noted-past last x xs n other s above h)

  -- a histogram that is written has a name that no fit counter or gauge before it has
  own-name : (last : Option Row) (x : Row) (xs : List Row) (n : Option (List ℕ)) → kind_eq x.kind Histogram ≡ true → Stands last x → Above last (x ∷ xs) → Noted n last → is_last n x.name ≡ false
  own-name last x xs None hist s above h = refl
  own-name last x xs (Some n) hist s above h = none-true (bytes_eq x.name n) (λ e. let same = same-bytes x.name n e in clash last same above s (h' last same h))
    where
      h' : (o : Option Row) → x.name ≡ n → Noted (Some n) o → Other x o
      h' None same h = h (ap (is_taken all) (sym same) ∙ s.free)
      h' (Some w) same h = elim (h (ap (is_taken all) (sym same) ∙ s.free)) [
        | inl is ↦ inl (is.0 ∙ sym same, is.1)
        | inr less ↦ inr (ap (λ m. names m w.name) same ∙ less)
      ]

      clash : (o : Option Row) → x.name ≡ n → Above o (x ∷ xs) → Stands o x → Other x o → ⊥
      clash None same above s other = other
      clash (Some w) same above s (inr less) = absurd (let g : true ≡ false = sym (ap is_lt less) ∙ first-part (names x.name w.name) _ above.0 in cc)
      clash (Some w) same above s (inl is) = elim (in-order w x above.0 s.apart) [
        | inl less ↦ absurd (never names nat_list_cmp_total x.name (ap (λ m. names m x.name) (sym is.0) ∙ less))
        | inr equal ↦ absurd (let g : true ≡ false = sym hist ∙ ap (λ k. kind_eq k Histogram) (sym equal.1.0) ∙ is.1 in cc)
      ]

  -- so it uses that
  uses-own : (last : Option Row) (x : Row) (xs : List Row) (done : List (List ℕ)) (n : Option (List ℕ)) → names_used done n (x ∷ xs) ≡ whole_names → kind_eq x.kind Histogram ≡ true
      → Stands last x → Above last (x ∷ xs) → Noted n last → uses_name done n x ≡ true
  uses-own last x xs done n is hist s above h =
      both (is_fit_histogram x) (not (is_last n x.name) && not (is_some (whole_of done x.name))) (both (kind_eq x.kind Histogram) (are_fit x.kind x.labels) hist s.fit)
      (both (not (is_last n x.name)) (not (is_some (whole_of done x.name))) (ap not (own-name last x xs n hist s above h))
      (ap not (none-true (is_some (whole_of done x.name)) (λ part.
      let kept : is_taken all x.name ≡ true = whole-keeps x.name done whole_names (λ e ends used. ap (λ l. list_any (bytes_eq (front_of x.name e)) l) (sym is) ∙ used-keeps (x ∷ xs) done n (front_of x.name e) used) part in
      let g : true ≡ false = sym kept ∙ s.free in
      absurd cc))))

  among-here : (last : Option Row) (x : Row) (xs : List Row) (done : List (List ℕ)) (n : Option (List ℕ)) → names_used done n (x ∷ xs) ≡ whole_names
      → Stands last x → Above last (x ∷ xs) → Noted n last → IsAmong all x
  among-here last x xs done n is s above h = λ hist.
      ap (list_any (bytes_eq x.name)) (sym is)
      ∙ used-keeps xs (cond (uses_name done n x) (done ++ x.name ∷ []) done) (last_number n x) x.name
      (ap (λ b. list_any (bytes_eq x.name) (cond b (done ++ x.name ∷ []) done)) (uses-own last x xs done n is hist s above h) ∙ any-last x.name done)

  among-from : (xs : List Row) (last : Option Row) (done : List (List ℕ)) (n : Option (List ℕ)) → names_used done n xs ≡ whole_names → Pairs IsUp xs → Above last xs → Noted n last
      → AllByRecursion (IsAmong all) (written all last xs)
  among-from [] last done n is ups above h = tt
  among-from (x ∷ xs) last done n is ups above h =
      let next = cond (uses_name done n x) (done ++ x.name ∷ []) done in
      cond_both (is_left_out all last x) (written all last xs) (x ∷ written all (Some x) xs) (AllByRecursion (IsAmong all))
      (λ out. among-from xs last next (last_number n x) is ups.1 (above-next last x xs above) (noted-out last x xs n out above h))
      (λ stays.
      let s = stands last x stays in
      (among-here last x xs done n is s above h, among-from xs (Some x) next (last_number n x) is ups.1 ups.0 (noted-in last x xs n s above h)))

-- the names of the histograms that are written are used
pub written-among : (rows : List Row) → IsSorted row_cmp rows → AllByRecursion (IsAmong rows) (written rows None rows)
written-among rows up = among-from rows rows None [] None refl (rows-up row_total rows up) tt tt

-- ---- each name that is used is that of a histogram that is written

any-parts : (m n : List ℕ) (ns : List (List ℕ)) → list_any (bytes_eq m) (ns ++ n ∷ []) ≡ true → (list_any (bytes_eq m) ns ≡ true) ⊎ (m ≡ n)
any-parts m n ns h = by (list_any (bytes_eq m) ns) (bytes_eq m n) refl refl (sym (list_any-append (bytes_eq m) ns (n ∷ [])) ∙ h)
  where
    by : (a b : Bool) → list_any (bytes_eq m) ns ≡ a → bytes_eq m n ≡ b → (a || (b || false)) ≡ true → (list_any (bytes_eq m) ns ≡ true) ⊎ (m ≡ n)
    by true b e f h = inl e
    by false true e f h = inr (same-bytes m n f)
    by false false e f h = absurd (let g : false ≡ true = h in cc)

any-contains : (m : List ℕ) (ns : List (List ℕ)) → list_any (bytes_eq m) ns ≡ true → Contains ns m
any-contains m [] h = absurd (let g : false ≡ true = h in cc)
any-contains m (n ∷ ns) h = by (bytes_eq m n) refl (λ k. any-contains m ns k) h
  where
    by : (b : Bool) → bytes_eq m n ≡ b → (list_any (bytes_eq m) ns ≡ true → Contains ns m) → (b || list_any (bytes_eq m) ns) ≡ true → Contains (n ∷ ns) m
    by true e rest h = subst (Contains (n ∷ ns)) (sym (same-bytes m n e)) (in-first n ns)
    by false e rest h = in-later n ns m (rest h)

contains-any : (m : List ℕ) (ns : List (List ℕ)) → Contains ns m → list_any (bytes_eq m) ns ≡ true
contains-any m [] has = absurd (in-none m has)
contains-any m (n ∷ ns) has = elim (in-split n ns m has) [
  | inl e ↦ or-first (bytes_eq m n) (list_any (bytes_eq m) ns) (bytes-same m n (sym e))
  | inr its ↦ or-second (bytes_eq m n) (list_any (bytes_eq m) ns) (contains-any m ns its)
]

-- rows of other names don't use it
used-only : (rs : List Row) (done : List (List ℕ)) (last : Option (List ℕ)) (m : List ℕ) → AllByRecursion (λ r. bytes_eq m r.name ≡ false) rs
    → list_any (bytes_eq m) (names_used done last rs) ≡ true → list_any (bytes_eq m) done ≡ true
used-only [] done last m others h = h
used-only (r ∷ rs) done last m others h =
    cond_both (uses_name done last r) (done ++ r.name ∷ []) done (λ d. list_any (bytes_eq m) d ≡ true → list_any (bytes_eq m) done ≡ true)
    (λ _ k. elim (any-parts m r.name done k) [
      | inl there ↦ there
      | inr same ↦ absurd (let g : true ≡ false = sym (bytes-same m r.name same) ∙ others.0 in cc)
    ])
    (λ _ k. k)
    (used-only rs (cond (uses_name done last r) (done ++ r.name ∷ []) done) (last_number last r) m others.1 h)

-- what comes before an end of a name comes before the name
less-more : (x : List ℕ) (c : ℕ) (cs : List ℕ) → names x (x ++ c ∷ cs) ≡ Less
less-more [] c cs = refl
less-more (a ∷ x) c cs = ap (λ o. ordering_then o (names x (x ++ c ∷ cs))) (tied_itself nat_cmp_total a) ∙ less-more x c cs

less-end : (x : List ℕ) (e : End) → names x (x ++ end_text e) ≡ Less
less-end x bucket = less-more x 95 (codes "bucket")
less-end x sum = less-more x 95 (codes "sum")
less-end x number = less-more x 95 (codes "count")

front-less : (name : List ℕ) (e : End) → ends_with nat_eq name (end_text e) ≡ true → names (front_of name e) name ≡ Less
front-less name e ends =
    let is : name ≡ front_of name e ++ end_text e = (ends_is Decides-eqb name (end_text e) (ends_with nat_eq name (end_text e)) refl).0 ends in
    ap (names (front_of name e)) is ∙ less-end (front_of name e) e

not-same : (m n : List ℕ) → names m n ≡ Less → bytes_eq m n ≡ false
not-same m n less = none-true (bytes_eq m n) (λ e. never names nat_list_cmp_total n (ap (λ l. names l n) (sym (same-bytes m n e)) ∙ less))

-- the last fit counter or gauge isn't before a counter or gauge that was written
abbrev CoveredBy : Option (List ℕ) → List ℕ → Type 0
CoveredBy None m = ⊥
CoveredBy (Some k) m = NotAbove m k

abbrev Covered : Option (List ℕ) → Option Row → Type 0
Covered n None = Unit {0}
Covered n (Some w) = kind_eq w.kind Histogram ≡ false → CoveredBy n w.name

-- nor after a row to come
abbrev Below : Option (List ℕ) → List Row → Type 0
Below None rs = Unit {0}
Below (Some k) rs = AllByRecursion (λ r. NotAbove k r.name) rs

below-next : (n : Option (List ℕ)) (x : Row) (xs : List Row) → AllByRecursion (IsUp x) xs → Below n (x ∷ xs) → Below (last_number n x) xs
below-next n x xs up below =
    cond_both (is_fit_number x) (Some x.name) n (λ o. Below o xs)
    (λ _. each-map (IsUp x) (λ q. NotAbove x.name q.name) (λ q h. first-part (names q.name x.name) _ h) xs up)
    (λ _. rest n below)
  where
    rest : (n : Option (List ℕ)) → Below n (x ∷ xs) → Below n xs
    rest None h = tt
    rest (Some k) h = h.1

covered-out : (n : Option (List ℕ)) (last : Option Row) (x : Row) (xs : List Row) → Above last (x ∷ xs) → Covered n last → Covered (last_number n x) last
covered-out n None x xs above h = tt
covered-out n (Some w) x xs above h = λ other. cond_both (is_fit_number x) (Some x.name) n (λ o. CoveredBy o w.name) (λ _. first-part (names x.name w.name) _ above.0) (λ _. h other)

covered-in : (n : Option (List ℕ)) (x : Row) → are_fit x.kind x.labels ≡ true → Covered (last_number n x) (Some x)
covered-in n x fit = λ other.
    let is : is_fit_number x ≡ true = both (not (kind_eq x.kind Histogram)) (are_fit x.kind x.labels) (ap not other) fit in
    subst (λ b. CoveredBy (cond b (Some x.name) n) x.name) (sym is) (ap is_lt (tied_itself nat_list_cmp_total x.name))

-- a counter or gauge that was written, of a row's name, gives it to no histogram
covered-name : (n : Option (List ℕ)) (w x : Row) (xs : List Row) → kind_eq w.kind Histogram ≡ false → w.name ≡ x.name → Covered n (Some w) → Below n (x ∷ xs) → is_last n x.name ≡ true
covered-name None w x xs other same h below = absurd (h other)
covered-name (Some k) w x xs other same h below =
    elim (turn (names x.name k) (names k x.name) (nat_list_cmp_total.antisymm x.name k) (ap (λ m. is_lt (names k m)) (sym same) ∙ h other)) [
      | inl less ↦ absurd (let g : true ≡ false = sym (ap is_lt less) ∙ below.0 in cc)
      | inr equal ↦ bytes-same x.name k (sym (exact_bytes k x.name equal))
    ]

module _ (all : List Row) where
  abbrev all_written : List Row
  all_written = written all None all

  abbrev HasRows : List (List ℕ) → Type 0
  HasRows ns = (m : List ℕ) → list_any (bytes_eq m) ns ≡ true → HasHistogram all_written m

  abbrev IsIn : Option Row → Type 0
  IsIn None = Unit {0}
  IsIn (Some w) = Contains all_written w

  abbrev AreIn : List Row → Type 0
  AreIn rows = (q : Row) → Contains rows q → Contains all_written q

  -- a name that is used in turn is no part of one that is used later
  free-name : (x : Row) (xs : List Row) (done : List (List ℕ)) (n : Option (List ℕ)) → names_used done n (x ∷ xs) ≡ whole_names all → AllByRecursion (IsUp x) xs
      → is_some (whole_of done x.name) ≡ false → is_taken all x.name ≡ false
  free-name x xs done n is up none = none-true (is_taken all x.name) (λ part.
      let there : is_some (whole_of done x.name) ≡ true = whole-keeps x.name (whole_names all) done (λ e ends used.
      let less = front-less x.name e ends in
      used-only (x ∷ xs) done n (front_of x.name e)
      (not-same (front_of x.name e) x.name less, each-map (IsUp x) (λ r. bytes_eq (front_of x.name e) r.name ≡ false) (λ r h. not-same (front_of x.name e) r.name (less-next (front_of x.name e) x.name r.name less (first-part (names r.name x.name) _ h))) xs up)
      (ap (list_any (bytes_eq (front_of x.name e))) is ∙ used)) part in
      let g : true ≡ false = sym there ∙ none in
      absurd cc)

  not-true : (b : Bool) → not b ≡ true → b ≡ false
  not-true true e = absurd (let g : false ≡ true = e in cc)
  not-true false e = refl

  -- the histogram of a name that is used
  user : (last : Option Row) (x : Row) (xs : List Row) (n : Option (List ℕ)) → kind_eq x.kind Histogram ≡ true → are_fit x.kind x.labels ≡ true → is_taken all x.name ≡ false → is_last n x.name ≡ false
      → Covered n last → Below n (x ∷ xs) → IsIn last → AreIn (written all last (x ∷ xs)) → HasHistogram all_written x.name
  user last x xs n hist fit free own covered below known among = by (is_left_out all last x) refl
    where
      clashing : (o : Option Row) → clashes o x ≡ true → Covered n o → IsIn o → HasHistogram all_written x.name
      clashing None h covered known = absurd (let g : false ≡ true = h in cc)
      clashing (Some w) h covered known = kind-of (kind_eq w.kind Histogram) refl
        where
          same : w.name ≡ x.name
          same = clash-name all w x h

          kind-of : (b : Bool) → kind_eq w.kind Histogram ≡ b → HasHistogram all_written x.name
          kind-of true e = (w, known, same-kind w.kind Histogram e, same)
          kind-of false e = absurd (let g : true ≡ false = sym (covered-name n w x xs e same covered below) ∙ own in cc)

      by : (b : Bool) → is_left_out all last x ≡ b → HasHistogram all_written x.name
      by true out = clashing last (clash-of all last x fit free out) covered known
      by false stays =
          (x, among x (subst (λ b. Contains (cond b (written all last xs) (x ∷ written all (Some x) xs)) x) (sym stays) (in-first x (written all (Some x) xs))), same-kind x.kind Histogram hist, refl)

  rows-next : (last : Option Row) (x : Row) (xs : List Row) (done : List (List ℕ)) (n : Option (List ℕ)) → names_used done n (x ∷ xs) ≡ whole_names all → AllByRecursion (IsUp x) xs
      → Covered n last → Below n (x ∷ xs) → IsIn last → AreIn (written all last (x ∷ xs)) → HasRows done → HasRows (cond (uses_name done n x) (done ++ x.name ∷ []) done)
  rows-next last x xs done n is up covered below known among rows =
      cond_both (uses_name done n x) (done ++ x.name ∷ []) done HasRows
      (λ used m has.
      let parts = both-true (is_fit_histogram x) (not (is_last n x.name) && not (is_some (whole_of done x.name))) used in
      let fits = both-true (kind_eq x.kind Histogram) (are_fit x.kind x.labels) parts.0 in
      let rest = both-true (not (is_last n x.name)) (not (is_some (whole_of done x.name))) parts.1 in
      elim (any-parts m x.name done has) [
        | inl there ↦ rows m there
        | inr same ↦ subst (HasHistogram all_written) (sym same)
            (user last x xs n fits.0 fits.1 (free-name x xs done n is up (not-true (is_some (whole_of done x.name)) rest.1)) (not-true (is_last n x.name) rest.0) covered below known among)
      ])
      (λ _. rows)

  names-from : (xs : List Row) (last : Option Row) (done : List (List ℕ)) (n : Option (List ℕ)) → names_used done n xs ≡ whole_names all → Pairs IsUp xs → Above last xs
      → Covered n last → Below n xs → IsIn last → AreIn (written all last xs) → HasRows done → HasRows (whole_names all)
  names-from [] last done n is ups above covered below known among rows = λ m h. rows m (ap (list_any (bytes_eq m)) is ∙ h)
  names-from (x ∷ xs) last done n is ups above covered below known among rows =
      let next = cond (uses_name done n x) (done ++ x.name ∷ []) done in
      let later : HasRows next = rows-next last x xs done n is ups.0 covered below known among rows in
      let noted = last_number n x in
      elim (two (is_left_out all last x)) [
        | inl out ↦
            names-from xs last next noted is ups.1 (above-next last x xs above) (covered-out n last x xs above covered) (below-next n x xs ups.0 below) known
            (subst (λ b. AreIn (cond b (written all last xs) (x ∷ written all (Some x) xs))) out among) later
        | inr stays ↦
            let here = subst (λ b. AreIn (cond b (written all last xs) (x ∷ written all (Some x) xs))) stays among in
            names-from xs (Some x) next noted is ups.1 ups.0 (covered-in n x (stands all last x stays).fit) (below-next n x xs ups.0 below)
            (here x (in-first x (written all (Some x) xs))) (λ q its. here q (in-later x (written all (Some x) xs) q its)) later
      ]

pub names-written : (rows : List Row) → IsSorted row_cmp rows → (name : List ℕ) → Contains (histogram_names rows) name ↔ HasHistogram (written rows None rows) name
names-written rows up name = (
  λ has. names-from rows rows None [] None refl (rows-up row_total rows up) tt tt tt tt (λ q its. its) (λ m h. absurd (let g : false ≡ true = h in cc)) name (contains-any name (histogram_names rows) has),
  λ h. any-contains name (histogram_names rows) (subst (λ m. list_any (bytes_eq m) (histogram_names rows) ≡ true) h.3
      (each-in (IsAmong rows) (written rows None rows) h.0 (written-among rows up) h.1 (ap (λ k. kind_eq k Histogram) h.2))),
)
