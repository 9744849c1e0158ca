-- The labels that are shown.
use Rattle.std.proofs.Common.{◌≡◌, ◌∙◌, ◌+◌, ◌≤◌, inl, inr, ℕ, zero, suc, Bool, true, false, cond, not, ◌||◌, ◌&&◌, List, [], ◌∷◌, ◌++◌, codes, nat_eq, length, get_or, Some, None, is_some, refl, ap, sym, subst, append_assoc, append-nil, arith}
use Rattle.std.specs.Prelude.{bytes_eq, insert, All}
use Rattle.std.specs.List.{AllByRecursion, AllWithin, IsDistinct, list_any, starts_with}
use Rattle.std.specs.List.Sorted.{IsSorted, IsPartitionedBy, IsStrictlySortedBy}
use Rattle.std.specs.Ordering.{is_lt, nat_cmp}
use Rattle.std.specs.Cmp.Lexicographic.{slice_cmp}
use Rattle.std.specs.declared.cmp.Ordering.{Ordering}
use Rattle.std.specs.declared.cmp.Ordering.TheVariants.{Less, Equal, Greater}
use Rattle.std.proofs.lemmas.Cmp.{nat_list_cmp_total}
use Rattle.std.proofs.lemmas.List.Elements.{recursion_from_All}
use Rattle.std.proofs.lemmas.List.Sorted.{ranks_by, sorted_far}
use Rattle.std.proofs.lemmas.Map.Lookups.{exact_bytes, exact_pairs}
use Rattle.metrics_names.specs.declared.kind.MetricKind.{MetricKind}
use Rattle.metrics_names.specs.declared.kind.MetricKind.TheVariants.{Histogram}
use Rattle.std.proofs.lemmas.Bool.{cond_both}
use Rattle.metrics_names.specs.Names.{LabelParts, label_cmp, kind_eq}
use Rattle.metrics_exposition.specs.Names.{label_name, is_name}
use Rattle.metrics_exposition.specs.Labels.{placed, added, with_labels, shown_labels, is_whole, repeats, follows, is_reserved, reserved_of, are_fit}
use Rattle.metrics_exposition.specs.Reading.{Ascend}
use Rattle.metrics_exposition.proofs.PairLemmas.{each-all, each-map, Pairs, pairs-append, pairs-places, pairs-from-places}
use Rattle.metrics_exposition.proofs.SameLemmas.{both-true, bytes-same, same-bytes}
use Rattle.metrics_exposition.proofs.OrderLemmas.{never, turn, first-part, label_total}
use Rattle.metrics_exposition.proofs.NameLemmas.{AreKeyed, label-name, name-whole}

placed-each : (P : LabelParts → Type 0) (l : LabelParts) (ms : List LabelParts) → P l → AllByRecursion P ms → AllByRecursion P (placed l ms)
placed-each P l [] h hs = (h, tt)
placed-each P l (m ∷ ms) h hs = cond_both (is_lt (label_cmp l m)) (l ∷ m ∷ ms) (m ∷ placed l ms) (AllByRecursion P) (λ _. (h, hs)) (λ _. (hs.0, placed-each P l ms h hs.1))

-- what holds of a label as it is shown, from what holds of it as it was
module _ (P Q : LabelParts → Type 0) (f : (n v : List ℕ) → P (n, v) → Q (label_name n, v)) where
  added-each : (n v : List ℕ) (shown : List LabelParts) → P (n, v) → AllByRecursion Q shown → AllByRecursion Q (added n v shown)
  added-each n [] shown h hs = hs
  added-each n (c ∷ v) shown h hs = placed-each Q (label_name n, c ∷ v) shown (f n (c ∷ v) h) hs

  with-each : (shown ls : List LabelParts) → AllByRecursion P ls → AllByRecursion Q shown → AllByRecursion Q (with_labels shown ls)
  with-each shown [] h hs = hs
  with-each shown (l ∷ ls) h hs = with-each (added l.0 l.1 shown) ls h.1 (added-each l.0 l.1 shown h.0 hs)

  pub shown-each : (ls : List LabelParts) → AllByRecursion P ls → AllByRecursion Q (shown_labels ls)
  shown-each ls h = with-each [] ls h tt

pub labels-keyed : (ls : List LabelParts) → AreKeyed (shown_labels ls)
labels-keyed ls = shown-each (λ l. Unit {0}) (λ l. is_name false l.0 ≡ true) (λ n v _. label-name n) ls (each-all (λ l. Unit {0}) (λ _. tt) ls)

-- ---- their order

-- a label doesn't come before another
abbrev IsUp : LabelParts → LabelParts → Type 0
IsUp l m = is_lt (label_cmp m l) ≡ false

less : (o : Ordering) → is_lt o ≡ true → o ≡ Less
less Less e = refl
less Equal e = absurd (let g : false ≡ true = e in cc)
less Greater e = absurd (let g : false ≡ true = e in cc)

not-less : (o : Ordering) → (o ≡ Less → ⊥) → is_lt o ≡ false
not-less Less h = absurd (h refl)
not-less Equal h = refl
not-less Greater h = refl

-- what comes before a label isn't after it
up-from : (l m : LabelParts) → label_cmp l m ≡ Less → IsUp l m
up-from l m e = not-less (label_cmp m l) (λ g. never label_cmp label_total l (label_total.trans l m l e g))

up-through : (l m n : LabelParts) → label_cmp l m ≡ Less → IsUp m n → IsUp l n
up-through l m n e up = not-less (label_cmp n l) (λ g. let f : true ≡ false = sym (ap is_lt (label_total.trans n l m g e)) ∙ up in cc)

placed-up : (l : LabelParts) (ms : List LabelParts) → Pairs IsUp ms → Pairs IsUp (placed l ms)
placed-up l [] up = (tt, tt)
placed-up l (m ∷ ms) up =
    cond_both (is_lt (label_cmp l m)) (l ∷ m ∷ ms) (m ∷ placed l ms) (Pairs IsUp)
    (λ e. let first = less (label_cmp l m) e in ((up-from l m first, each-map (IsUp m) (IsUp l) (λ n. up-through l m n first) ms up.0), up))
    (λ e. (placed-each (IsUp m) l ms e up.0, placed-up l ms up.1))

added-up : (n v : List ℕ) (shown : List LabelParts) → Pairs IsUp shown → Pairs IsUp (added n v shown)
added-up n [] shown up = up
added-up n (c ∷ v) shown up = placed-up (label_name n, c ∷ v) shown up

with-up : (shown ls : List LabelParts) → Pairs IsUp shown → Pairs IsUp (with_labels shown ls)
with-up shown [] up = up
with-up shown (l ∷ ls) up = with-up (added l.0 l.1 shown) ls (added-up l.0 l.1 shown up)

abbrev names : List ℕ → List ℕ → Ordering
names = slice_cmp nat_cmp

or-false : (a b : Bool) → (a || b) ≡ false → (a ≡ false) × (b ≡ false)
or-false true b e = absurd (let g : true ≡ false = e in cc)
or-false false b e = (refl, e)

not-true : (b : Bool) → not b ≡ true → b ≡ false
not-true true e = absurd (let g : false ≡ true = e in cc)
not-true false e = refl

name-below : (l m : LabelParts) → bytes_eq m.0 l.0 ≡ false → IsUp l m → names l.0 m.0 ≡ Less
name-below l m other up = elim (turn (names l.0 m.0) (names m.0 l.0) (nat_list_cmp_total.antisymm l.0 m.0) (first-part (names m.0 l.0) _ up)) [
  | inl e ↦ e
  | inr e ↦ absurd (let g : true ≡ false = sym (bytes-same m.0 l.0 (exact_bytes m.0 l.0 e)) ∙ other in cc)
]

names-below : (l : LabelParts) (ms : List LabelParts) → list_any (λ m. bytes_eq m.0 l.0) ms ≡ false → AllByRecursion (IsUp l) ms → AllByRecursion (λ m. names l.0 m.0 ≡ Less) ms
names-below l [] once up = tt
names-below l (m ∷ ms) once up =
    let parts = or-false (bytes_eq m.0 l.0) (list_any (λ m. bytes_eq m.0 l.0) ms) once in
    (name-below l m parts.0 up.0, names-below l ms parts.1 up.1)

ascend : (ls : List LabelParts) → repeats ls ≡ false → Pairs IsUp ls → Ascend ls
unfolding IsStrictlySortedBy
ascend [] once up = tt
ascend (l ∷ ls) once up =
    let parts = or-false (list_any (λ m. bytes_eq m.0 l.0) ls) (repeats ls) once in
    (names-below l ls parts.0 up.0, ascend ls parts.1 up.1)

pub fit-ascend : (k : MetricKind) (ls : List LabelParts) → are_fit k (shown_labels ls) ≡ true → Ascend (shown_labels ls)
fit-ascend k ls fit =
    let shown = shown_labels ls in
    ascend shown (not-true (repeats shown) (both-true (not (repeats shown)) (not (is_some (reserved_of k shown))) fit).0) (with-up [] ls tt)

-- ---- the same of sorted lists

labels-up : (ls : List LabelParts) → IsSorted label_cmp ls → Pairs IsUp ls
labels-up ls up = pairs-from-places IsUp ls (λ i j d below small. sorted_far (λ a b. is_lt (label_cmp a b)) (ranks_by label_total (λ r. r)) ls up i j d (omega (arith, below)) small)

labels-sorted : (ls : List LabelParts) → Pairs IsUp ls → IsSorted label_cmp ls
labels-sorted ls up k d first small = pairs-places IsUp ls up k (k + 1) d (omega arith) small

pub added-sorted : (n v : List ℕ) (shown : List LabelParts) → IsSorted label_cmp shown → IsSorted label_cmp (added n v shown)
added-sorted n v shown up = labels-sorted (added n v shown) (added-up n v shown (labels-up shown up))

pub shown-sorted : (ls : List LabelParts) → IsSorted label_cmp (shown_labels ls)
shown-sorted ls = labels-sorted (shown_labels ls) (with-up [] ls tt)

labels-exact : (l m : LabelParts) → label_cmp l m ≡ Equal → l ≡ m
labels-exact = exact_pairs names names exact_bytes exact_bytes

-- a label that isn't before one isn't before an earlier one
pub parts-at : (l : LabelParts) (ls : List LabelParts) → IsSorted label_cmp ls → IsPartitionedBy (λ m. not (is_lt (label_cmp l m))) ls
parts-at l ls up i j d le small behind =
    let a = get_or ls i d in
    let b = get_or ls j d in
    let here : IsUp a b = sorted_far (λ x y. is_lt (label_cmp x y)) (ranks_by label_total (λ r. r)) ls up i j d le small in
    go a b here behind (label_cmp l a) refl
  where
    go : (a b : LabelParts) → IsUp a b → not (is_lt (label_cmp l b)) ≡ true → (o : Ordering) → label_cmp l a ≡ o → not (is_lt (label_cmp l a)) ≡ true
    go a b h g Equal e = ap (λ o. not (is_lt o)) e
    go a b h g Greater e = ap (λ o. not (is_lt o)) e
    go a b h g Less e =
        let less-b : label_cmp l b ≡ Less = elim (turn (label_cmp a b) (label_cmp b a) (label_total.antisymm a b) h) [
          | inl less ↦ label_total.trans l a b e less
          | inr equal ↦ ap (label_cmp l) (labels-exact b a equal) ∙ e
        ] in
        absurd (let f : false ≡ true = sym (ap (λ o. not (is_lt o)) less-b) ∙ g in cc)

-- a label among others, after those that it isn't before
pub placed-at : (l : LabelParts) (ms : List LabelParts) (i : ℕ) → i ≤ length ms
    → AllWithin (λ m. not (is_lt (label_cmp l m)) ≡ true) ms 0 i → AllWithin (λ m. not (is_lt (label_cmp l m)) ≡ false) ms i (length ms) → insert ms i l ≡ placed l ms
placed-at l [] zero le before after = refl
placed-at l [] (suc i) le before after = absurd (omega (arith, le))
placed-at l (m ∷ ms) zero le before after =
    sym (ap (λ b. cond b (l ∷ m ∷ ms) (m ∷ placed l ms)) (is-true (is_lt (label_cmp l m)) (after 0 m (omega arith) (omega arith))))
  where
    is-true : (b : Bool) → not b ≡ false → b ≡ true
    is-true true e = refl
    is-true false e = absurd (let g : true ≡ false = e in cc)
placed-at l (m ∷ ms) (suc i) le before after =
    ap (λ ls. m ∷ ls) (placed-at l ms i (omega (arith, le)) (λ k d low high. before (suc k) d (omega arith) (omega (arith, high))) (λ k d low high. after (suc k) d (omega (arith, low)) (omega (arith, high))))
    ∙ sym (ap (λ b. cond b (l ∷ m ∷ ms) (m ∷ placed l ms)) (not-true (is_lt (label_cmp l m)) (before 0 m (omega arith) (omega arith))))

-- ---- labels that stay as they are

whole-added : (l : LabelParts) (shown : List LabelParts) → is_whole l ≡ true → added l.0 l.1 shown ≡ placed l shown
whole-added (n, []) shown h = absurd (let e : false ≡ true = (both-true (is_name false n) false h).1 in cc)
whole-added (n, c ∷ v) shown h = ap (λ m. placed (m, c ∷ v) shown) (name-whole false n (both-true (is_name false n) true h).0)

placed-last : (l : LabelParts) (ms : List LabelParts) → AllByRecursion (λ m. IsUp m l) ms → placed l ms ≡ ms ++ l ∷ []
placed-last l [] h = refl
placed-last l (m ∷ ms) h = ap (λ b. cond b (l ∷ m ∷ ms) (m ∷ placed l ms)) h.0 ∙ ap (λ ls. m ∷ ls) (placed-last l ms h.1)

one-of : (P : LabelParts → Type 0) (ms : List LabelParts) (l : LabelParts) (ls : List LabelParts) → AllByRecursion P (ms ++ l ∷ ls) → P l
one-of P [] l ls h = h.0
one-of P (m ∷ ms) l ls h = one-of P ms l ls h.1

before : (ms : List LabelParts) (l : LabelParts) (ls : List LabelParts) → Pairs IsUp (ms ++ l ∷ ls) → AllByRecursion (λ m. IsUp m l) ms
before [] l ls up = tt
before (m ∷ ms) l ls up = (one-of (IsUp m) ms l ls up.0, before ms l ls up.1)

with-whole : (shown ls : List LabelParts) → AllByRecursion (λ l. is_whole l ≡ true) ls → Pairs IsUp (shown ++ ls) → with_labels shown ls ≡ shown ++ ls
with-whole shown [] h up = sym (append-nil shown)
with-whole shown (l ∷ ls) h up =
    let more = append_assoc shown (l ∷ []) ls in
    ap (λ s. with_labels s ls) (whole-added l shown h.0 ∙ placed-last l shown (before shown l ls up))
    ∙ with-whole (shown ++ l ∷ []) ls h.1 (subst (Pairs IsUp) (sym more) up) ∙ more

pub shown-whole : (ls : List LabelParts) → IsSorted label_cmp ls → All (λ l. is_whole l ≡ true) ls → shown_labels ls ≡ ls
shown-whole ls up whole = with-whole [] ls (recursion_from_All (λ l. is_whole l ≡ true) ls whole) (labels-up ls up)

-- ---- a name that comes twice comes twice in a row

through : (l m n : LabelParts) → names l.0 m.0 ≡ Less → IsUp m n → bytes_eq n.0 l.0 ≡ false
through l m n less up = go (bytes_eq n.0 l.0) refl
  where
    below : names l.0 n.0 ≡ Less
    below = elim (turn (names m.0 n.0) (names n.0 m.0) (nat_list_cmp_total.antisymm m.0 n.0) (first-part (names n.0 m.0) _ up)) [
      | inl e ↦ nat_list_cmp_total.trans l.0 m.0 n.0 less e
      | inr e ↦ ap (names l.0) (exact_bytes n.0 m.0 e) ∙ less
    ]

    go : (b : Bool) → bytes_eq n.0 l.0 ≡ b → bytes_eq n.0 l.0 ≡ false
    go false e = e
    go true e = absurd (never names nat_list_cmp_total l.0 (ap (names l.0) (sym (same-bytes n.0 l.0 e)) ∙ below))

none-later : (l m : LabelParts) (ms : List LabelParts) → names l.0 m.0 ≡ Less → AllByRecursion (IsUp m) ms → list_any (λ n. bytes_eq n.0 l.0) ms ≡ false
none-later l m [] less up = refl
none-later l m (n ∷ ms) less up = ap (λ b. b || list_any (λ k. bytes_eq k.0 l.0) ms) (through l m n less up.0) ∙ none-later l m ms less up.1

behind-one : (l : LabelParts) (ms : List LabelParts) → AllByRecursion (IsUp l) ms → Pairs IsUp ms → follows (Some l.0) ms ≡ (list_any (λ m. bytes_eq m.0 l.0) ms || repeats ms)
behind-one l [] up pairs = refl
behind-one l (m ∷ ms) up pairs = go (bytes_eq m.0 l.0) refl (behind-one m ms pairs.0 pairs.1)
  where
    go : (b : Bool) → bytes_eq m.0 l.0 ≡ b → follows (Some m.0) ms ≡ (list_any (λ n. bytes_eq n.0 m.0) ms || repeats ms)
        → (b || follows (Some m.0) ms) ≡ ((b || list_any (λ n. bytes_eq n.0 l.0) ms) || (list_any (λ n. bytes_eq n.0 m.0) ms || repeats ms))
    go true e rest = refl
    go false e rest = rest ∙ sym (ap (λ b. b || (list_any (λ n. bytes_eq n.0 m.0) ms || repeats ms)) (none-later l m ms (name-below l m e up.0) pairs.0))

pub follows-repeats : (ls : List LabelParts) → IsSorted label_cmp ls → follows None ls ≡ repeats ls
follows-repeats ls up = go ls (labels-up ls up)
  where
    go : (ls : List LabelParts) → Pairs IsUp ls → follows None ls ≡ repeats ls
    go [] up = refl
    go (l ∷ ls) up = behind-one l ls up.0 up.1

-- ---- no name comes twice

abbrev Others : LabelParts → LabelParts → Type 0
Others l m = bytes_eq l.0 m.0 ≡ false

below-other : (l m : LabelParts) → names l.0 m.0 ≡ Less → Others l m
below-other l m e = none-true (bytes_eq l.0 m.0) (λ g. never names nat_list_cmp_total m.0 (ap (λ n. names n m.0) (sym (same-bytes l.0 m.0 g)) ∙ e))
  where
    none-true : (b : Bool) → (b ≡ true → ⊥) → b ≡ false
    none-true true h = absurd (h refl)
    none-true false h = refl

others : (ls : List LabelParts) → Ascend ls → Pairs Others ls
unfolding IsStrictlySortedBy
others [] up = tt
others (l ∷ ls) up = (each-map (λ m. names l.0 m.0 ≡ Less) (Others l) (below-other l) ls up.0, others ls up.1)

once-from : (ls : List LabelParts) → Pairs Others ls → IsDistinct (λ l m. bytes_eq l.0 m.0) ls
unfolding IsDistinct
once-from [] p = tt
once-from (l ∷ ls) p = (p.0, once-from ls p.1)

pub once : (ls : List LabelParts) → Ascend ls → IsDistinct (λ l m. bytes_eq l.0 m.0) ls
once ls up = once-from ls (others ls up)

reserved-is : (k : MetricKind) (ls : List LabelParts) → is_some (reserved_of k ls) ≡ list_any (λ l. is_reserved k l.0) ls
reserved-is k [] = refl
reserved-is k (l ∷ ls) = go (is_reserved k l.0) (reserved-is k ls)
  where
    go : (b : Bool) → is_some (reserved_of k ls) ≡ list_any (λ l. is_reserved k l.0) ls → is_some (cond b (Some l.0) (reserved_of k ls)) ≡ (b || list_any (λ l. is_reserved k l.0) ls)
    go true e = refl
    go false e = e

not-le : (k : MetricKind) (v : List ℕ) → kind_eq k Histogram ≡ true → (ls : List LabelParts) → list_any (λ l. is_reserved k l.0) ls ≡ false → AllByRecursion (λ l. AllByRecursion (Others l) ((codes "le", v) ∷ [])) ls
not-le k v hist [] h = tt
not-le k v hist (l ∷ ls) h =
    let parts = or-false (is_reserved k l.0) (list_any (λ l. is_reserved k l.0) ls) h in
    let own = or-false (starts_with nat_eq l.0 (codes "__")) (kind_eq k Histogram && bytes_eq l.0 (codes "le")) parts.0 in
    ((sym (ap (λ b. b && bytes_eq l.0 (codes "le")) hist) ∙ own.1, tt), not-le k v hist ls parts.1)

-- with the bound of a bucket after them
pub once-bounded : (k : MetricKind) (ls : List LabelParts) (v : List ℕ) → kind_eq k Histogram ≡ true → are_fit k ls ≡ true → Ascend ls → IsDistinct (λ l m. bytes_eq l.0 m.0) (ls ++ (codes "le", v) ∷ [])
once-bounded k ls v hist fit up =
    let none = sym (reserved-is k ls) ∙ not-true (is_some (reserved_of k ls)) (both-true (not (repeats ls)) (not (is_some (reserved_of k ls))) fit).1 in
    once-from (ls ++ (codes "le", v) ∷ []) (pairs-append Others ls ((codes "le", v) ∷ []) (others ls up) (tt, tt) (not-le k v hist ls none))

-- ---- what is fit for a histogram is fit for each kind

none-and : (b : Bool) → (b && false) ≡ false
none-and true = refl
none-and false = refl

freer : (k : MetricKind) (name : List ℕ) → is_reserved Histogram name ≡ false → is_reserved k name ≡ false
freer k name h =
    let own = or-false (starts_with nat_eq name (codes "__")) (bytes_eq name (codes "le")) h in
    ap (λ b. b || (kind_eq k Histogram && bytes_eq name (codes "le"))) own.0 ∙ (ap (λ b. kind_eq k Histogram && b) own.1 ∙ none-and (kind_eq k Histogram))

none-reserved : (k : MetricKind) (ls : List LabelParts) → list_any (λ l. is_reserved Histogram l.0) ls ≡ false → list_any (λ l. is_reserved k l.0) ls ≡ false
none-reserved k [] h = refl
none-reserved k (l ∷ ls) h =
    let parts = or-false (is_reserved Histogram l.0) (list_any (λ l. is_reserved Histogram l.0) ls) h in
    ap (λ b. b || list_any (λ l. is_reserved k l.0) ls) (freer k l.0 parts.0) ∙ none-reserved k ls parts.1

pub fit-any : (k : MetricKind) (ls : List LabelParts) → are_fit Histogram ls ≡ true → are_fit k ls ≡ true
fit-any k ls fit =
    let parts = both-true (not (repeats ls)) (not (is_some (reserved_of Histogram ls))) fit in
    let none = none-reserved k ls (sym (reserved-is Histogram ls) ∙ not-true (is_some (reserved_of Histogram ls)) parts.1) in
    ap (λ b. b && not (is_some (reserved_of k ls))) parts.0 ∙ ap not (reserved-is k ls ∙ none)
