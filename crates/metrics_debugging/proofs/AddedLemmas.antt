-- A new series at the end keeps the agreement.
use Rattle.std.proofs.Common.{◌≡◌, ℕ, zero, suc, ◌+◌, false, cond, ◌&&◌, List, [], ◌∷◌, ◌++◌, length, map, get_or, None, Some, position, refl, ap, sym, ◌∙◌, subst, arith, length-append, slice_get, inl, inr}
use Rattle.std.specs.Map.{lookup}
use Rattle.std.proofs.lemmas.Bool.{cases_lt}
use Rattle.std.proofs.lemmas.List.{length-map, map-append, append-nil, get_or_append_left}
use Rattle.std.proofs.lemmas.Option.{slice_get-get_or}
use Rattle.std.proofs.Math.Seq.{get_or-append_seam}
use Rattle.metrics_names.specs.declared.kind.MetricKind.{MetricKind}
use Rattle.metrics_names.specs.declared.kind.MetricKind.TheVariants.{Counter, Gauge, Histogram}
use Rattle.metrics_names.specs.Names.{KeyParts, SeriesKey, kind_eq, key_eq, series_key_eq}
use Rattle.metrics_names.specs.Equality.{kind_eq-Decides, key_eq-Decides, series_key_eq-Decides}
use Rattle.metrics.specs.declared.kind.PerKind.{PerKind}
use Rattle.metrics.specs.Book.{is_of, new_series, new_value}
use Rattle.metrics.specs.Kinds.{of_kind, with_kind}
use Rattle.metrics_debugging.specs.declared.debugging.series.Stored.{Stored}
use Rattle.metrics_debugging.specs.DebuggingCells.{value_of, kind_of_value}
use Rattle.metrics_debugging.specs.DebuggingSeries.{Numbers, series_key, spot, no_key, key_at, series_at, all_series, IsWithin, Agrees}
use Rattle.metrics_debugging.proofs.SeriesLemmas.{key_of, push-absent, push-other}
use Rattle.metrics_debugging.proofs.AgreesLemmas.{by_test, inside, map-other, kind-new, of-same, of-other, same_kind, keys-order, position-order, key-there}
use Rattle.metrics_registry.proofs.HeldLemmas.{lookup-append_none, lookup-append_rest}

module _ {A : Type 0} where
  last-at : (xs : List A) (y : A) (i : ℕ) → i ≡ length xs → slice_get (xs ++ y ∷ []) i ≡ Some y
  last-at [] y zero e = refl
  last-at [] y (suc i) e = absurd (omega (arith, e))
  last-at (x ∷ xs) y zero e = absurd (omega (arith, e))
  last-at (x ∷ xs) y (suc i) e = last-at xs y i (omega (arith, e))

  -- what is in a list stays when more comes after it
  front-at : (xs ys : List A) (i : ℕ) (y : A) → slice_get xs i ≡ Some y → slice_get (xs ++ ys) i ≡ Some y
  front-at [] ys i y h = cc
  front-at (x ∷ xs) ys zero y h = h
  front-at (x ∷ xs) ys (suc i) y h = front-at xs ys i y h

with-own : {T : Type 0} (m : PerKind T) (k : MetricKind) → with_kind k m (of_kind k m) ≡ m
with-own m Counter = refl
with-own m Gauge = refl
with-own m Histogram = refl

-- ---- a new series

-- a number was added at a clone of the key
pub appended : (old : Numbers) (kind : MetricKind) (key k : KeyParts) (n : ℕ) (es fs : List (KeyParts × ℕ)) → es ≡ of_kind kind old → k ≡ key → fs ≡ es ++ (k, n) ∷ [] → fs ≡ of_kind kind old ++ (key, n) ∷ []
appended old kind key k n es fs is same put = put ∙ (ap (λ xs. xs ++ (k, n) ∷ []) is ∙ ap (λ q. of_kind kind old ++ (q, n) ∷ []) same)

-- if nothing was added all stays
pub agree-kept : (old : Numbers) (stored after : List Stored) (kind : MetricKind) (fs : List (KeyParts × ℕ)) → Agrees old (map spot stored) → fs ≡ of_kind kind old → after ≡ stored → Agrees (with_kind kind old fs) (map spot after)
agree-kept old stored after kind fs agree same stays =
    subst (λ (m : Numbers). Agrees m (map spot after)) (sym (ap (with_kind kind old) same ∙ with-own old kind)) (subst (λ (xs : List Stored). Agrees old (map spot xs)) (sym stays) agree)

module _ (old : Numbers) (stored after : List Stored) (agree : Agrees old (map spot stored)) (kind : MetricKind) (key : KeyParts)
    (absent : position (is_of (series_key kind key)) (all_series old stored) ≡ None) (x : Stored) (value : value_of x.cell ≡ new_value kind)
    (at : x.place ≡ length (of_kind kind old)) (put : after ≡ stored ++ x ∷ [])
    (number : ℕ) (count : number ≡ length stored) (fs : List (KeyParts × ℕ)) (added : fs ≡ of_kind kind old ++ (key, number) ∷ []) where
  abbrev pub grown : Numbers
  grown = with_kind kind old fs

  abbrev own : SeriesKey
  own = series_key kind key

  abbrev more : MetricKind → List (KeyParts × ℕ)
  more k = cond (kind_eq kind k) ((key, number) ∷ []) []

  grown-own : of_kind kind grown ≡ of_kind kind old ++ (key, number) ∷ []
  grown-own = of-same old fs kind ∙ added

  numbers-grown : (k : MetricKind) → of_kind k grown ≡ of_kind k old ++ more k
  numbers-grown k =
      by_test (kind_eq kind k)
      (λ t.
      subst (λ j. of_kind j grown ≡ of_kind j old ++ (key, number) ∷ []) ((kind_eq-Decides kind k).0 t) grown-own
      ∙ ap (λ b. of_kind k old ++ cond b ((key, number) ∷ []) []) (sym t))
      (λ t. of-other old fs kind k t ∙ (sym (append-nil (of_kind k old)) ∙ ap (λ b. of_kind k old ++ cond b ((key, number) ∷ []) []) (sym t)))

  -- series that were there stay
  stays : (t : ℕ) (y : Stored) → slice_get stored t ≡ Some y → series_at grown y ≡ series_at old y
  stays t y same =
      let k = kind_of_value (value_of y.cell) in
      ap (λ (e : KeyParts × ℕ). record { key = series_key k e.0; value = value_of y.cell })
      (ap (λ es. get_or es y.place no_key) (numbers-grown k) ∙ get_or_append_left (of_kind k old) (more k) no_key y.place (key-there old stored agree t y same))

  spot-new : spot x ≡ (kind, length (of_kind kind old))
  spot-new = ap (λ v. (kind_of_value v, x.place)) value ∙ ap (λ k. (k, x.place)) (kind-new kind) ∙ ap (λ i. (kind, i)) at

  key-new : key_at grown (spot x) ≡ own
  key-new =
      ap (key_at grown) spot-new
      ∙ ap (λ (e : KeyParts × ℕ). series_key kind e.0) (ap (λ es. get_or es (length (of_kind kind old)) no_key) grown-own ∙ get_or-append_seam (of_kind kind old) (key, number) [] no_key)

  at-new : series_at grown x ≡ new_series own
  at-new = ap (λ k. record { key = k; value = value_of x.cell }) key-new ∙ ap (λ v. record { key = own; value = v }) value

  pub all-added : all_series grown after ≡ all_series old stored ++ new_series own ∷ []
  all-added =
      ap (map (series_at grown)) put
      ∙ (map-append (series_at grown) stored (x ∷ [])
      ∙ (ap (λ xs. xs ++ series_at grown x ∷ []) (map-other (series_at old) (series_at grown) stored stays) ∙ ap (λ s. all_series old stored ++ s ∷ []) at-new))

  abbrev keys : List SeriesKey
  keys = map (key_at old) (map spot stored)

  keys-added : map (key_at grown) (map spot after) ≡ keys ++ own ∷ []
  keys-added =
      sym (keys-order grown after)
      ∙ (ap (map key_of) all-added ∙ (map-append key_of (all_series old stored) (new_series own ∷ []) ∙ ap (λ ks. ks ++ own ∷ []) (keys-order old stored)))

  within-more : (p : MetricKind × ℕ) → IsWithin old p → IsWithin grown p
  within-more p within = let n = ap length (numbers-grown p.0) ∙ length-append (of_kind p.0 old) (more p.0) in omega (arith, within, n)

  within-new : IsWithin grown (spot x)
  within-new = let n = ap length grown-own ∙ length-append (of_kind kind old) ((key, number) ∷ []) in subst (IsWithin grown) (sym spot-new) (omega (arith, n))

  within-added : (s : ℕ) (p : MetricKind × ℕ) → slice_get (map spot after) s ≡ Some p → IsWithin grown p
  within-added s p h =
      let here : slice_get (map spot stored ++ spot x ∷ []) s ≡ Some p = sym (ap (λ xs. slice_get (map spot xs) s) put ∙ ap (λ ps. slice_get ps s) (map-append spot stored (x ∷ []))) ∙ h in
      elim (cases_lt s (length (map spot stored))) as (λ _. IsWithin grown p) [
        | inl lt ↦
            let was = slice_get-get_or (map spot stored) s p lt in
            let same : Some p ≡ Some (get_or (map spot stored) s p) = sym here ∙ front-at (map spot stored) (spot x ∷ []) s (get_or (map spot stored) s p) was in
            within-more p (agree.within s p (was ∙ sym same))
        | inr le ↦
            let long : length (map spot stored ++ spot x ∷ []) ≡ length (map spot stored) + 1 = length-append (map spot stored) (spot x ∷ []) in
            let last : s ≡ length (map spot stored) = omega (arith, le, long, inside (map spot stored ++ spot x ∷ []) s p here) in
            let same : Some (spot x) ≡ Some p = sym (last-at (map spot stored) (spot x) s last) ∙ here in
            let is : spot x ≡ p = cc in
            subst (IsWithin grown) is within-new
      ]

  found-added : (k : MetricKind) (q : KeyParts) → lookup (key_eq q) (of_kind k grown) ≡ position (series_key_eq (series_key k q)) (map (key_at grown) (map spot after))
  found-added k q =
      let r = series_key k q in
      by_test (series_key_eq r own)
      (λ t.
      let P : SeriesKey → Type 0 = λ y. lookup (key_eq y.key) (of_kind y.kind grown) ≡ position (series_key_eq y) (map (key_at grown) (map spot after)) in
      let none : position (series_key_eq own) keys ≡ None = sym (position-order old stored own) ∙ absent in
      let places : number ≡ length keys = count ∙ sym (length-map (map spot stored) (key_at old) ∙ length-map stored spot) in
      subst P (sym ((series_key_eq-Decides r own).0 t))
      (ap (lookup (key_eq key)) grown-own
      ∙ (lookup-append_none (key_eq key) (of_kind kind old) ((key, number) ∷ []) (agree.found kind key ∙ none)
      ∙ (ap (λ b. cond b (Some number) None) ((key_eq-Decides key key).1 refl)
      ∙ (ap Some places
      ∙ (sym (push-absent (series_key_eq own) keys own none ((series_key_eq-Decides own own).1 refl)) ∙ ap (position (series_key_eq own)) (sym keys-added)))))))
      (λ t.
      let unlike : lookup (key_eq q) (more k) ≡ None =
      by_test (kind_eq kind k)
      (λ y.
      let e = (kind_eq-Decides kind k).0 y in
      let differ : key_eq q key ≡ false = sym (ap (λ b. b && key_eq q key) (ap (kind_eq k) e ∙ same_kind k)) ∙ t in
      ap (λ b. lookup (key_eq q) (cond b ((key, number) ∷ []) [])) y ∙ ap (λ b. cond b (Some number) None) differ)
      (λ y. ap (λ b. lookup (key_eq q) (cond b ((key, number) ∷ []) [])) y) in
      ap (lookup (key_eq q)) (numbers-grown k)
      ∙ (lookup-append_rest (key_eq q) (of_kind k old) (more k) unlike
      ∙ (agree.found k q ∙ (sym (push-other (series_key_eq r) keys own t) ∙ ap (position (series_key_eq r)) (sym keys-added)))))

  pub agree-added : Agrees grown (map spot after)
  agree-added = record { within = within-added; found = found-added }
