-- The rows that are written: they ascend, and rows of one name are of one kind.
use Rattle.std.proofs.Common.{◌≡◌, ◌∙◌, ◌⊎◌, inl, inr, Bool, true, false, not, ◌||◌, ◌&&◌, List, [], ◌∷◌, Option, Some, None, is_some, option_map, cond, refl, ap, sym, arith}
use Rattle.std.specs.Option.{option_or}
use Rattle.std.specs.List.{AllByRecursion}
use Rattle.std.specs.Cmp.{IsTotalOrder}
use Rattle.std.specs.Cmp.Lexicographic.{pointwise}
use Rattle.std.specs.Prelude.{bytes_eq}
use Rattle.std.specs.List.Sorted.{IsSorted}
use Rattle.std.specs.Ordering.{nat_cmp, is_lt}
use Rattle.std.specs.declared.cmp.Ordering.TheVariants.{Less, Equal}
use Rattle.std.proofs.lemmas.Bool.{cond_both}
use Rattle.std.proofs.lemmas.Cmp.{nat_list_cmp_total, then_total, on_total, nat_cmp_total, tied_itself}
use Rattle.std.proofs.lemmas.List.Sorted.{ranks_by, sorted_far}
use Rattle.std.specs.FinMap.{slice_cmp-IsAntisymmetric}
use Rattle.std.proofs.lemmas.Map.Lookups.{exact_bytes, exact_pairs}
use Rattle.metrics_names.specs.declared.kind.MetricKind.{MetricKind}
use Rattle.metrics_names.specs.Names.{LabelParts, label_eq, kind_eq, kind_number}
use Rattle.metrics_prometheus.specs.Exposition.{Row, row_cmp, histogram_names, whole_of, is_taken, label_twice, label_reserved, name_taken, labels_taken, labels_reason, name_reason, last_reason, is_left_out}
use Rattle.metrics_exposition.specs.Labels.{repeats, reserved_of, are_fit}
use Rattle.metrics_prometheus.specs.Written.{written, AreApart}
use Rattle.metrics_exposition.proofs.PairLemmas.{each-map, Pairs, pairs-from-places}
use Rattle.metrics_exposition.proofs.SameLemmas.{same-kind, bytes-same, labels-same}
use Rattle.metrics_exposition.proofs.OrderLemmas.{names, label_lists, label_lists_total, never, turn, first-part, second-part}

-- a row comes before another: its name comes before, or it has the same name and kind, and its labels come before
abbrev pub IsBefore : Row → Row → Type 0
IsBefore a b = (names a.name b.name ≡ Less) ⊎ ((a.name ≡ b.name) × ((a.kind ≡ b.kind) × (label_lists a.labels b.labels ≡ Less)))

before-trans : (a b c : Row) → IsBefore a b → IsBefore b c → IsBefore a c
before-trans a b c (inl h) (inl g) = inl (nat_list_cmp_total.trans a.name b.name c.name h g)
before-trans a b c (inl h) (inr g) = inl (ap (names a.name) (sym g.0) ∙ h)
before-trans a b c (inr h) (inl g) = inl (ap (λ n. names n c.name) h.0 ∙ g)
before-trans a b c (inr h) (inr g) = inr (h.0 ∙ g.0, (h.1.0 ∙ g.1.0, label_lists_total.trans a.labels b.labels c.labels h.1.1 g.1.1))

-- rows that come before one another are apart
pub before-apart : (a b : Row) → IsBefore a b → AreApart a b
before-apart a b (inl h) e = absurd (never names nat_list_cmp_total b.name (ap (λ n. names n b.name) (sym e) ∙ h))
before-apart a b (inr h) e = (h.1.0, λ same. never label_lists label_lists_total b.labels (ap (λ l. label_lists l b.labels) (sym same) ∙ h.1.1))

-- ---- a reason to leave a row out, as tests

-- a row has the name of the last one written, and is of another kind or has the same labels
abbrev pub clashes : Option Row → Row → Bool
clashes None r = false
clashes (Some w) r = bytes_eq w.name r.name && (not (kind_eq w.kind r.kind) || pointwise label_eq w.labels r.labels)

clash-is : (last : Option Row) (r : Row) → is_some (last_reason last r) ≡ clashes last r
clash-is None r = refl
clash-is (Some w) r = go (bytes_eq w.name r.name) (kind_eq w.kind r.kind) (pointwise label_eq w.labels r.labels)
  where
    go : (n k l : Bool) → is_some (cond n (cond k (cond l (Some (labels_taken w.key.name)) None) (Some (name_taken w.kind))) None) ≡ (n && (not k || l))
    go true true true = refl
    go true true false = refl
    go true false l = refl
    go false k l = refl

some-map : {A B : Type 0} (f : A → B) (o : Option A) → is_some (option_map f o) ≡ is_some o
some-map f None = refl
some-map f (Some a) = refl

pub some-or : {A : Type 0} (o p : Option A) → is_some (option_or o p) ≡ (is_some o || is_some p)
some-or None p = refl
some-or (Some a) p = refl

fit-is : (k : MetricKind) (ls : List LabelParts) → is_some (labels_reason k ls) ≡ not (are_fit k ls)
fit-is k ls = go (repeats ls) (is_some (reserved_of k ls)) (some-map _ (reserved_of k ls))
  where
    go : (b c : Bool) → is_some (option_map (λ n. label_reserved n) (reserved_of k ls)) ≡ c → is_some (cond b (Some label_twice) (option_map (λ n. label_reserved n) (reserved_of k ls))) ≡ not (not b && not c)
    go true c e = refl
    go false true e = e
    go false false e = e

pub left-is : (all : List Row) (last : Option Row) (r : Row) → is_left_out all last r ≡ (not (are_fit r.kind r.labels) || (is_taken all r.name || clashes last r))
left-is all last r =
    some-or (labels_reason r.kind r.labels) (option_or (name_reason (histogram_names all) r.name) (last_reason last r))
    ∙ ap (λ b. b || is_some (option_or (name_reason (histogram_names all) r.name) (last_reason last r))) (fit-is r.kind r.labels)
    ∙ ap (λ b. not (are_fit r.kind r.labels) || b)
    (some-or (name_reason (histogram_names all) r.name) (last_reason last r)
    ∙ ap (λ b. b || is_some (last_reason last r)) (some-map _ (whole_of (histogram_names all) r.name))
    ∙ ap (λ b. is_taken all r.name || b) (clash-is last r))

-- two rows in order are before one another, or clash
pub in-order : (a b : Row) → is_lt (row_cmp b a) ≡ false → clashes (Some a) b ≡ false → IsBefore a b
in-order a b up free =
    elim (turn (names a.name b.name) (names b.name a.name) (nat_list_cmp_total.antisymm a.name b.name) (first-part (names b.name a.name) _ up)) [
      | inl less ↦ inl less
      | inr equal ↦
          let same : a.name ≡ b.name = sym (exact_bytes b.name a.name equal) in
          let parts = clash-parts (bytes_eq a.name b.name) (kind_eq a.kind b.kind) (pointwise label_eq a.labels b.labels) (bytes-same a.name b.name same) free in
          let kinds : a.kind ≡ b.kind = same-kind a.kind b.kind parts.0 in
          let rest = second-part (names b.name a.name) _ equal up in
          let level : nat_cmp (kind_number b.kind) (kind_number a.kind) ≡ Equal = ap (λ k. nat_cmp (kind_number b.kind) (kind_number k)) kinds ∙ kind-level b.kind in
          let labels = first-part (label_lists b.labels a.labels) _ (second-part (nat_cmp (kind_number b.kind) (kind_number a.kind)) _ level rest) in
          elim (turn (label_lists a.labels b.labels) (label_lists b.labels a.labels) (label_lists_total.antisymm a.labels b.labels) labels) [
            | inl less ↦ inr (same, (kinds, less))
            | inr tied ↦ absurd (let g : true ≡ false = sym (labels-same a.labels b.labels (sym (labels-from b.labels a.labels tied))) ∙ parts.1 in cc)
          ]
    ]
  where
    clash-parts : (n k l : Bool) → n ≡ true → (n && (not k || l)) ≡ false → (k ≡ true) × (l ≡ false)
    clash-parts true true l e f = (refl, f)
    clash-parts true false l e f = absurd (let g : true ≡ false = f in cc)
    clash-parts false k l e f = absurd (let g : false ≡ true = e in cc)

    kind-level : (k : MetricKind) → nat_cmp (kind_number k) (kind_number k) ≡ Equal
    kind-level k = tied_itself nat_cmp_total (kind_number k)

    labels-from : (xs ys : List LabelParts) → label_lists xs ys ≡ Equal → xs ≡ ys
    labels-from = slice_cmp-IsAntisymmetric (exact_pairs names names exact_bytes exact_bytes)

-- a list of rows in order, by recursion
abbrev pub IsUp : Row → Row → Type 0
IsUp a b = is_lt (row_cmp b a) ≡ false

pub left-case : (b x y : Bool) → (not b || (x || y)) ≡ false → (x ≡ false) × (y ≡ false)
left-case true false y e = (refl, e)
left-case true true y e = absurd (let g : true ≡ false = e in cc)
left-case false x y e = absurd (let g : true ≡ false = e in cc)

-- the rows that are written after one are before one another, and that one before them
written-behind : (all : List Row) (w : Row) (rs : List Row) → AllByRecursion (IsUp w) rs → Pairs IsUp rs → AllByRecursion (IsBefore w) (written all (Some w) rs) × Pairs IsBefore (written all (Some w) rs)
written-behind all w [] h up = (tt, tt)
written-behind all w (r ∷ rs) h up =
    cond_both (is_left_out all (Some w) r) (written all (Some w) rs) (r ∷ written all (Some r) rs) (λ l. AllByRecursion (IsBefore w) l × Pairs IsBefore l)
    (λ e. written-behind all w rs h.1 up.1)
    (λ e.
    let first : IsBefore w r = in-order w r h.0 (left-case (are_fit r.kind r.labels) (is_taken all r.name) (clashes (Some w) r) (sym (left-is all (Some w) r) ∙ e)).1 in
    let rest = written-behind all r rs up.0 up.1 in
    ((first, each-map (IsBefore r) (IsBefore w) (λ q. before-trans w r q first) (written all (Some r) rs) rest.0), rest))

written-before : (all rs : List Row) → Pairs IsUp rs → Pairs IsBefore (written all None rs)
written-before all [] up = tt
written-before all (r ∷ rs) up =
    cond_both (is_left_out all None r) (written all None rs) (r ∷ written all (Some r) rs) (Pairs IsBefore)
    (λ e. written-before all rs up.1)
    (λ e. written-behind all r rs up.0 up.1)

-- what holds of each row holds of each that is written
pub written-each : (P : Row → Type 0) (all : List Row) (last : Option Row) (rs : List Row) → AllByRecursion P rs → AllByRecursion P (written all last rs)
written-each P all last [] h = h
written-each P all last (r ∷ rs) h =
    cond_both (is_left_out all last r) (written all last rs) (r ∷ written all (Some r) rs) (AllByRecursion P)
    (λ e. written-each P all last rs h.1)
    (λ e. (h.0, written-each P all (Some r) rs h.1))

-- labels of rows that are written are fit
pub written-fit : (all : List Row) (last : Option Row) (rs : List Row) → AllByRecursion (λ r. are_fit r.kind r.labels ≡ true) (written all last rs)
written-fit all last [] = tt
written-fit all last (r ∷ rs) =
    cond_both (is_left_out all last r) (written all last rs) (r ∷ written all (Some r) rs) (AllByRecursion (λ q. are_fit q.kind q.labels ≡ true))
    (λ e. written-fit all last rs)
    (λ e. (fit-case (are_fit r.kind r.labels) (is_taken all r.name) (clashes last r) (sym (left-is all last r) ∙ e), written-fit all (Some r) rs))
  where
    fit-case : (b x y : Bool) → (not b || (x || y)) ≡ false → b ≡ true
    fit-case true x y e = refl
    fit-case false x y e = absurd (let g : true ≡ false = e in cc)

-- no name that is written is that of a histogram's samples
pub written-free : (all : List Row) (last : Option Row) (rs : List Row) → AllByRecursion (λ r. is_taken all r.name ≡ false) (written all last rs)
written-free all last [] = tt
written-free all last (r ∷ rs) =
    cond_both (is_left_out all last r) (written all last rs) (r ∷ written all (Some r) rs) (AllByRecursion (λ q. is_taken all q.name ≡ false))
    (λ e. written-free all last rs)
    (λ e. ((left-case (are_fit r.kind r.labels) (is_taken all r.name) (clashes last r) (sym (left-is all last r) ∙ e)).0, written-free all (Some r) rs))

-- sorted rows
pub rows-up : IsTotalOrder row_cmp → (rows : List Row) → IsSorted row_cmp rows → Pairs IsUp rows
rows-up total rows up = pairs-from-places IsUp rows (λ i j d below small. sorted_far (λ a b. is_lt (row_cmp a b)) (ranks_by total (λ r. r)) rows up i j d (omega (arith, below)) small)

pub row_total : IsTotalOrder row_cmp
row_total =
    then_total (on_total (λ r. r.name) nat_list_cmp_total) (then_total (on_total (λ r. kind_number r.kind) nat_cmp_total) (then_total (on_total (λ r. r.labels) label_lists_total) (on_total (λ r. r.key) (then_total (on_total (λ k. k.name) nat_list_cmp_total) (on_total (λ k. k.labels) label_lists_total)))))

-- the rows that are written are before one another
pub written-ascend : (rows : List Row) → IsSorted row_cmp rows → Pairs IsBefore (written rows None rows)
written-ascend rows up = written-before rows rows (rows-up row_total rows up)
