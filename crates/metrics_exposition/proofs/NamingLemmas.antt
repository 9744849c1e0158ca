-- The names that are shown are such as Prometheus allows.
use Rattle.std.proofs.Common.{◌≡◌, ◌≢◌, ◌∙◌, ◌+◌, ◌-◌, ◌<◌, ◌≤◌, ◌⊎◌, inl, inr, ℕ, zero, suc, Bool, true, false, cond, ◌&&◌, nat_eq, List, [], ◌∷◌, ◌++◌, take, length, codes, Option, Some, None, refl, ap, sym, subst, arith, append-nil, append_assoc, flat_map, Contains}
use Rattle.std.specs.List.{ends_with, list_all, AllByRecursion}
use Rattle.std.specs.Str.{IsCharBoundary}
use Rattle.std.proofs.lemmas.Bool.{cases_lt}
use Rattle.std.proofs.lemmas.Bool.Decides.{Decides-eqb}
use Rattle.std.proofs.lemmas.Grind.{flat_map-append}
use Rattle.std.proofs.lemmas.List.{length-append}
use Rattle.std.proofs.lemmas.Slice.Eq.{ends_is}
use Rattle.metrics_names.specs.declared.common.Unit.{Unit as Measure}
use Rattle.metrics_names.specs.declared.common.Unit.TheVariants.{Count, Percent, Seconds, Milliseconds, Microseconds, Nanoseconds, Bytes}
use Rattle.metrics_names.specs.declared.kind.MetricKind.{MetricKind}
use Rattle.metrics_names.specs.declared.kind.MetricKind.TheVariants.{Counter, Gauge, Histogram}
use Rattle.metrics_exposition.specs.declared.naming.Naming.{Naming}
use Rattle.metrics_exposition.specs.declared.naming.Naming.TheVariants.{AsGiven, Recommended}
use Rattle.metrics_exposition.specs.Names.{begins, goes_on, is_name, metric_name}
use Rattle.metrics_exposition.specs.Naming.{unit_end, without_end, bare_within, bare_name, recommended_name, HasEndsOnce, shown_name}
use Rattle.metrics_exposition.proofs.PairLemmas.{each-append, in-first, in-later}
use Rattle.metrics_exposition.proofs.SameLemmas.{both-true}
use Rattle.metrics_exposition.proofs.NameLemmas.{IsNamed, metric-name, name-more, named, named-from, named-test}

-- a name, or none at all
abbrev IsFront : List ℕ → Type 0
IsFront [] = Unit {0}
IsFront (c ∷ cs) = is_name true (c ∷ cs) ≡ true

name-front : (n : List ℕ) → is_name true n ≡ true → IsFront n
name-front [] h = tt
name-front (c ∷ cs) h = h

-- what comes before bytes of a name
taken : (k : ℕ) (cs : List ℕ) → IsNamed true cs → IsNamed true (take k cs)
taken zero cs h = tt
taken (suc k) [] h = tt
taken (suc k) (c ∷ cs) h = (h.0, taken k cs h.1)

front-taken : (k : ℕ) (n : List ℕ) → is_name true n ≡ true → IsFront (take k n)
front-taken zero n h = tt
front-taken (suc k) [] h = tt
front-taken (suc k) (c ∷ cs) h =
    let p = both-true (begins true c) (list_all (goes_on true) cs) h in
    both (begins true c) (list_all (goes_on true) (take k cs)) p.0 (named-test true (take k cs) (taken k cs (named-from true cs p.1)))
  where
    both : (a b : Bool) → a ≡ true → b ≡ true → (a && b) ≡ true
    both a b e f = ap (λ x. x && b) e ∙ f

-- a prefix with a name after it
front-more : (n m : List ℕ) → IsFront n → is_name true m ≡ true → is_name true (n ++ m) ≡ true
front-more [] m h g = g
front-more (c ∷ cs) m h g = name-more true (c ∷ cs) m h (named true m g)

-- ---- with an end, and without one

abbrev IsEnd : List ℕ → Type 0
IsEnd end = (end ≡ []) ⊎ (is_name true end ≡ true)

unit-end : (unit : Option Measure) → IsEnd (unit_end unit)
unit-end None = inl refl
unit-end (Some Count) = inl refl
unit-end (Some Percent) = inr refl
unit-end (Some Seconds) = inr refl
unit-end (Some Milliseconds) = inr refl
unit-end (Some Microseconds) = inr refl
unit-end (Some Nanoseconds) = inr refl
unit-end (Some Bytes) = inr refl

front-take : (k : ℕ) (n : List ℕ) → IsFront n → IsFront (take k n)
front-take zero [] h = tt
front-take (suc k) [] h = tt
front-take k (c ∷ cs) h = front-taken k (c ∷ cs) h

without-front : (n end : List ℕ) → IsFront n → IsFront (without_end n end)
without-front n end h = by (ends_with nat_eq n end)
  where
    by : (b : Bool) → IsFront (cond b (take (length n - length end) n) n)
    by true = front-take (length n - length end) n h
    by false = h

bare-front : (k : ℕ) (unit total n : List ℕ) → IsFront n → IsFront (bare_within k unit total n)
bare-front zero unit total n h = h
bare-front (suc k) unit total n h = bare-front k unit total (without_end (without_end n total) unit) (without-front (without_end n total) unit (without-front n total h))

-- ---- what is left without ends

-- the ends that were taken off
abbrev Off : List ℕ → List ℕ → Type 0
Off n end = (n ≡ without_end n end ++ end) ⊎ (without_end n end ≡ n)

off : (n end : List ℕ) → Off n end
off n end = by (ends_with nat_eq n end) refl
  where
    by : (b : Bool) → ends_with nat_eq n end ≡ b → Off n end
    by true e = inl ((ends_is Decides-eqb n end (ends_with nat_eq n end) refl).0 e ∙ ap (λ b. cond b (take (length n - length end) n) n ++ end) (sym e))
    by false e = inr (ap (λ b. cond b (take (length n - length end) n) n) e)

none-long : (end : List ℕ) → length end ≡ 0 → end ≡ []
none-long [] h = refl
none-long (c ∷ cs) h = absurd (omega (arith, h))

off-length : (n end : List ℕ) → length (without_end n end) ≤ length n
off-length n end = elim (off n end) [
  | inl e ↦ omega (arith, ap length e, length-append (without_end n end) end)
  | inr e ↦ omega (arith, ap length e)
]

off-same : (n end : List ℕ) → length n ≤ length (without_end n end) → without_end n end ≡ n
off-same n end long = elim (off n end) [
  | inl e ↦ sym (e ∙ ap (λ l. without_end n end ++ l) (none-long end (omega (arith, ap length e, length-append (without_end n end) end, long))) ∙ append-nil (without_end n end))
  | inr e ↦ e
]

-- a name that keeps its end has none
off-none : (n end : List ℕ) → without_end n end ≡ n → (end ≡ []) ⊎ (ends_with nat_eq n end ≡ false)
off-none n end same = by (ends_with nat_eq n end) refl
  where
    by : (b : Bool) → ends_with nat_eq n end ≡ b → (end ≡ []) ⊎ (ends_with nat_eq n end ≡ false)
    by false e = inr e
    by true e =
        let is : n ≡ take (length n - length end) n ++ end = (ends_is Decides-eqb n end (ends_with nat_eq n end) refl).0 e in
        let front : take (length n - length end) n ≡ n = sym (ap (λ b. cond b (take (length n - length end) n) n) e) ∙ same in
        inl (none-long end (omega (arith, ap length is, ap length front, length-append (take (length n - length end) n) end)))

module _ (unit total : List ℕ) where
  -- both ends once less
  abbrev shorter : List ℕ → List ℕ
  shorter n = without_end (without_end n total) unit

  pub shorter-same : (n : List ℕ) → length n ≤ length (shorter n) → shorter n ≡ n
  shorter-same n long =
      off-same (without_end n total) unit (omega (arith, long, off-length n total))
      ∙ off-same n total (omega (arith, long, off-length (without_end n total) unit))

  pub bare-same : (k : ℕ) (n : List ℕ) → shorter n ≡ n → bare_within k unit total n ≡ n
  bare-same zero n same = refl
  bare-same (suc k) n same = ap (bare_within k unit total) same ∙ bare-same k n same

  -- a step takes both ends once, and comes to the same in the steps that are left
  pub bare-more : (name bare mid next : List ℕ) (i : ℕ) → i < length name → mid ≡ without_end bare total → next ≡ without_end mid unit
      → bare_within (length name - i) unit total bare ≡ bare_name unit total name → bare_within (length name - (i + 1)) unit total next ≡ bare_name unit total name
  bare-more name bare mid next i small first second h =
      let steps : length name - i ≡ suc (length name - (i + 1)) = omega (arith, small) in
      ap (bare_within (length name - (i + 1)) unit total) (second ∙ ap (λ m. without_end m unit) first)
      ∙ sym (ap (λ k. bare_within k unit total bare) steps) ∙ h

  -- a step that takes none is the last
  pub bare-done : (name bare mid next : List ℕ) (i : ℕ) → mid ≡ without_end bare total → next ≡ without_end mid unit → length next ≡ length bare
      → bare_within (length name - i) unit total bare ≡ bare_name unit total name → bare ≡ bare_name unit total name
  bare-done name bare mid next i first second long h =
      let is : next ≡ shorter bare = second ∙ ap (λ m. without_end m unit) first in
      sym (bare-same (length name - i) bare (shorter-same bare (omega (arith, long, ap length is)))) ∙ h

  pub bare-end : (name bare : List ℕ) (i : ℕ) → length name ≤ i → bare_within (length name - i) unit total bare ≡ bare_name unit total name → bare ≡ bare_name unit total name
  bare-end name bare i most h = let none : 0 ≡ length name - i = omega (arith, most) in ap (λ k. bare_within k unit total bare) none ∙ h

  -- what is left of a name, and the ends that it had
  record Bare (n b : List ℕ) : Type 0 where
    more : List (List ℕ)
    name_is : n ≡ b ++ flat_map (λ e. e) more
    more_are : AllByRecursion (Contains (unit ∷ total ∷ [])) more
    none_unit : (unit ≡ []) ⊎ (ends_with nat_eq b unit ≡ false)
    none_total : (total ≡ []) ⊎ (ends_with nat_eq b total ≡ false)

  with-end : (m n end b : List ℕ) → Contains (unit ∷ total ∷ []) end → (n ≡ m ++ end) ⊎ (m ≡ n) → Bare m b → Bare n b
  with-end m n end b is (inr same) h = subst (λ l. Bare l b) same h
  with-end m n end b is (inl e) h = record {
    more = h.more ++ end ∷ [];
    name_is = e ∙ ap (λ l. l ++ end) h.name_is ∙ append_assoc b (flat_map (λ e. e) h.more) end
        ∙ ap (λ l. b ++ (flat_map (λ e. e) h.more ++ l)) (sym (append-nil end))
        ∙ ap (λ l. b ++ l) (sym (flat_map-append (λ e. e) h.more (end ∷ [])));
    more_are = each-append (Contains (unit ∷ total ∷ [])) h.more (end ∷ []) h.more_are (is, tt);
    none_unit = h.none_unit;
    none_total = h.none_total;
  }

  -- a name that loses nothing
  whole : (n : List ℕ) → shorter n ≡ n → Bare n n
  whole n same =
      let first = off-same n total (omega (arith, ap length same, off-length (without_end n total) unit)) in
      record {
        more = [];
        name_is = sym (append-nil n);
        more_are = tt;
        none_unit = off-none n unit (ap (λ m. without_end m unit) (sym first) ∙ same);
        none_total = off-none n total first;
      }

  bare : (k : ℕ) (n : List ℕ) → length n ≤ k → Bare n (bare_within k unit total n)
  bare zero n short = whole n (shorter-same n (omega (arith, short)))
  bare (suc k) n short = elim (cases_lt (length (shorter n)) (length n)) [
    | inl less ↦
        let b = bare_within k unit total (shorter n) in
        with-end (without_end n total) n total b (in-later unit (total ∷ []) total (in-first total [])) (off n total)
        (with-end (shorter n) (without_end n total) unit b (in-first unit (total ∷ [])) (off (without_end n total) unit) (bare k (shorter n) (omega (arith, less, short))))
    | inr long ↦
        let same = shorter-same n long in
        subst (Bare n) (sym (bare-same (suc k) n same)) (whole n same)
  ]

  pub ends-once : (n : List ℕ) → HasEndsOnce (unit ∷ total ∷ []) n (bare_name unit total n ++ (unit ++ total))
  ends-once n =
      let h = bare (length n) n (omega arith) in
      record {
        bare = bare_name unit total n;
        more = h.more;
        name_is = h.name_is;
        more_are = h.more_are;
        none = (h.none_unit, (h.none_total, tt));
        shown_is = ap (λ l. bare_name unit total n ++ (unit ++ l)) (sym (append-nil total));
      }

-- the two results of a search for a suffix
module _ (n end : List ℕ) where
  pub without-none : ((front : List ℕ) → n ≢ front ++ end) → n ≡ without_end n end
  without-none absent = by (ends_with nat_eq n end) refl
    where
      by : (b : Bool) → ends_with nat_eq n end ≡ b → n ≡ cond (ends_with nat_eq n end) (take (length n - length end) n) n
      by true e = absurd (absent (take (length n - length end) n) ((ends_is Decides-eqb n end (ends_with nat_eq n end) refl).0 e))
      by false e = sym (ap (λ b. cond b (take (length n - length end) n) n) e)

  pub without-some : (front : List ℕ) → (k : ℕ) × ((k ≡ length end) × (n ≡ take (length n - k) n ++ end) × IsCharBoundary n (length n - length end)) × (front ≡ take (length n - k) n) × (length front + k ≡ length n) → front ≡ without_end n end
  without-some front (k, finds, is, long) =
      let ends : ends_with nat_eq n end ≡ true = (ends_is Decides-eqb n end (ends_with nat_eq n end) refl).1 (take (length n - k) n) finds.1 in
      is ∙ ap (λ j. take (length n - j) n) finds.0 ∙ sym (ap (λ b. cond b (take (length n - length end) n) n) ends)

-- ---- the names

-- a unit's end, and then a counter's
with-total : (unit : Option Measure) (n : List ℕ) → IsFront n → is_name true (n ++ (unit_end unit ++ codes "_total")) ≡ true
with-total unit n h = front-more n (unit_end unit ++ codes "_total") h (ends (unit-end unit))
  where
    ends : IsEnd (unit_end unit) → is_name true (unit_end unit ++ codes "_total") ≡ true
    ends (inl none) = ap (λ e. is_name true (e ++ codes "_total")) none
    ends (inr is) = front-more (unit_end unit) (codes "_total") (name-front (unit_end unit) is) refl

-- a unit's end alone
with-unit : (unit : Option Measure) (n : List ℕ) → is_name true n ≡ true → is_name true (bare_name (unit_end unit) [] n ++ (unit_end unit ++ [])) ≡ true
with-unit unit n h = by (unit_end unit) (unit-end unit)
  where
    by : (end : List ℕ) → IsEnd end → is_name true (bare_name end [] n ++ (end ++ [])) ≡ true
    by end (inr is) =
        ap (λ e. is_name true (bare_name end [] n ++ e)) (append-nil end) ∙ front-more (bare_name end [] n) end (bare-front (length n) end [] n (name-front n h)) is
    by end (inl none) =
        let none-off : (m : List ℕ) → without_end m [] ≡ m = λ m. off-same m [] (elim (off m []) [
          | inl e ↦ omega (arith, ap length e, length-append (without_end m []) [])
          | inr e ↦ omega (arith, ap length e)
        ]) in
        let all : bare_name [] [] n ≡ n = bare-same [] [] (length n) n (ap (λ m. without_end m []) (none-off n) ∙ none-off n) in
        ap (λ e. is_name true (bare_name e [] n ++ (e ++ []))) none ∙ ap (λ m. is_name true (m ++ [])) all ∙ ap (is_name true) (append-nil n) ∙ h

recommended : (kind : MetricKind) (unit : Option Measure) (n : List ℕ) → is_name true n ≡ true → is_name true (recommended_name kind unit n) ≡ true
recommended Counter unit n h = with-total unit (bare_name (unit_end unit) (codes "_total") n) (bare-front (length n) (unit_end unit) (codes "_total") n (name-front n h))
recommended Gauge unit n h = with-unit unit n h
recommended Histogram unit n h = with-unit unit n h

pub shown-name : (naming : Naming) (kind : MetricKind) (unit : Option Measure) (n : List ℕ) → is_name true (shown_name naming kind unit n) ≡ true
shown-name AsGiven kind unit n = metric-name n
shown-name Recommended kind unit n = recommended kind unit (metric_name n) (metric-name n)
