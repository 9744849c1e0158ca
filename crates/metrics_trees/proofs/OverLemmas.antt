-- Recorders under rules, by what the rules were made of.
use Rattle.std.proofs.Common.{if◌then◌else◌, ◌≡◌, ℕ, zero, suc, ◌<◌, ◌≤◌, Bool, true, false, List, [], ◌∷◌, ◌++◌, length, map, take, drop, refl, ap, sym, ◌∙◌, subst, arith, append-nil, length-append}
use Rattle.std.proofs.lemmas.List.{take-append-drop, take-append-le, drop-append-le, length-take-le, length-map, nil_from_length}
use Rattle.std.proofs.lemmas.List.Concat.{flat_map-append}
use Rattle.std.proofs.Math.Seq.{take-length}
use mathlib.Core.Path.{fun_ext}
use Rattle.metrics_names.specs.declared.kind.MetricKind.{MetricKind}
use Rattle.metrics.specs.Targets.{raise, AllBelow}
use Rattle.metrics.specs.TargetsLaws.{raise-append}
use Rattle.metrics.specs.Book.{new_book}
use Rattle.metrics.specs.Meaning.{Meaning, nothing, one_book}
use Rattle.metrics.specs.Layers.{joined, joined_all, choosing, targets_of, filtered, matches, Route, routed, winner, chosen}
use Rattle.metrics_rules.specs.Nodes.{leaves_of, leaves_in}
use Rattle.metrics_rules.proofs.BuildersLemmas.{same_meaning}
use Rattle.metrics_trees.specs.Recorders.{books_in, spread}
use Rattle.metrics_trees.specs.Over.{over, overs}
use Rattle.metrics_rules.proofs.JoinedLemmas.{contents-append, targets_of-past}

-- one leaf means its recorder
pub over_leaf : (a : Meaning) → over (one_book new_book) (a ∷ []) ≡ a
over_leaf a = same_meaning (over (one_book new_book) (a ∷ [])) a (append-nil a.contents) (fun_ext (λ kind. fun_ext (λ name. append-nil (a.targets kind name))))

spread-unless : (all : List Meaning) (kind : MetricKind) (b : Bool) (ts : List (ℕ × List ℕ)) → spread all kind (if b then [] else ts) ≡ (if b then [] else spread all kind ts)
spread-unless all kind true ts = refl
spread-unless all kind false ts = refl

pub over_filtered : (fold : Bool) (patterns : List (List ℕ)) (rules : Meaning) (all : List Meaning) → over (filtered fold patterns rules) all ≡ filtered fold patterns (over rules all)
over_filtered fold patterns rules all =
    same_meaning (over (filtered fold patterns rules) all) (filtered fold patterns (over rules all)) refl
    (fun_ext (λ kind. fun_ext (λ name. spread-unless all kind (matches fold patterns name) (rules.targets kind name))))

-- ---- rules side by side

targets_of-front : (xs ys : List Meaning) (kind : MetricKind) (w : ℕ) (name : List ℕ) → w < length xs → targets_of w (xs ++ ys) kind name ≡ targets_of w xs kind name
targets_of-front [] ys kind w name lt = absurd (omega (arith, lt))
targets_of-front (x ∷ xs) ys kind zero name lt = refl
targets_of-front (x ∷ xs) ys kind (suc w) name lt = ap (raise (length x.contents)) (targets_of-front xs ys kind w name (omega (arith, lt)))

spread-front : (xs ys : List Meaning) (kind : MetricKind) (ts : List (ℕ × List ℕ)) → AllBelow (length xs) ts → spread (xs ++ ys) kind ts ≡ spread xs kind ts
spread-front xs ys kind [] b = refl
spread-front xs ys kind (t ∷ ts) b =
    ap (λ us. us ++ spread (xs ++ ys) kind ts) (targets_of-front xs ys kind t.0 t.1 b.0) ∙ ap (λ us. targets_of t.0 xs kind t.1 ++ us) (spread-front xs ys kind ts b.1)

spread-past : (xs ys : List Meaning) (kind : MetricKind) (ts : List (ℕ × List ℕ)) → spread (xs ++ ys) kind (raise (length xs) ts) ≡ raise (books_in xs) (spread ys kind ts)
spread-past xs ys kind [] = refl
spread-past xs ys kind (t ∷ ts) =
    ap (λ us. us ++ spread (xs ++ ys) kind (raise (length xs) ts)) (targets_of-past kind t.1 xs ys t.0)
    ∙ ap (λ us. raise (books_in xs) (targets_of t.0 ys kind t.1) ++ us) (spread-past xs ys kind ts) ∙ sym (raise-append (books_in xs) (targets_of t.0 ys kind t.1) (spread ys kind ts))

over-joined : (a b : Meaning) (xs ys : List Meaning) → length xs ≡ leaves_of a → over (joined a b) (xs ++ ys) ≡ joined (over a xs) (over b ys)
over-joined a b xs ys l =
    same_meaning (over (joined a b) (xs ++ ys)) (joined (over a xs) (over b ys)) (contents-append xs ys)
    (fun_ext (λ kind. fun_ext (λ name.
    flat_map-append (λ (t : ℕ × List ℕ). targets_of t.0 (xs ++ ys) kind t.1) (a.targets kind name) (raise (leaves_of a) (b.targets kind name))
    ∙ ap (λ us. us ++ spread (xs ++ ys) kind (raise (leaves_of a) (b.targets kind name))) (spread-front xs ys kind (a.targets kind name) (subst (λ k. AllBelow k (a.targets kind name)) (sym l) (a.below kind name)))
    ∙ ap (λ us. spread xs kind (a.targets kind name) ++ us) (ap (λ k. spread (xs ++ ys) kind (raise k (b.targets kind name))) (sym l) ∙ spread-past xs ys kind (b.targets kind name)))))

-- the number of leaves of the first rules, and of the others
leaves-first : (r : Meaning) (rs ms : List Meaning) → length ms ≡ leaves_in (r ∷ rs) → (leaves_of r ≤ length ms) × (length (take (leaves_of r) ms) ≡ leaves_of r) × (length (drop (leaves_of r) ms) ≡ leaves_in rs)
leaves-first r rs ms l =
    let s = length-append r.contents (joined_all rs).contents in
    let le : leaves_of r ≤ length ms = omega (arith, l, s) in
    let t = length-take-le (leaves_of r) ms le in
    let d = ap length (sym (take-append-drop (leaves_of r) ms)) ∙ length-append (take (leaves_of r) ms) (drop (leaves_of r) ms) in
    (le, t, omega (arith, l, s, t, d))

pub over_nothing : over nothing [] ≡ nothing
over_nothing = same_meaning (over nothing []) nothing refl refl

pub over-all : (rs ms : List Meaning) → length ms ≡ leaves_in rs → over (joined_all rs) ms ≡ joined_all (overs rs ms)
over-all [] ms l = ap (over nothing) (nil_from_length ms l) ∙ over_nothing
over-all (r ∷ rs) ms l =
    let n = leaves_of r in
    let f = leaves-first r rs ms l in
    ap (over (joined r (joined_all rs))) (sym (take-append-drop n ms)) ∙ over-joined r (joined_all rs) (take n ms) (drop n ms) f.1
    ∙ ap (joined (over r (take n ms))) (over-all rs (drop n ms) f.2)

pub books-over : (rs ms : List Meaning) → length ms ≡ leaves_in rs → books_in (overs rs ms) ≡ books_in ms
books-over rs ms l = ap (λ (a : Meaning). length a.contents) (sym (over-all rs ms l))

spread-chosen : (rs ms : List Meaning) → length ms ≡ leaves_in rs → (kind : MetricKind) (name : List ℕ) (w : ℕ) → spread ms kind (targets_of w rs kind name) ≡ targets_of w (overs rs ms) kind name
spread-chosen [] ms l kind name w = refl
spread-chosen (r ∷ rs) ms l kind name zero =
    let n = leaves_of r in
    let f = leaves-first r rs ms l in
    ap (λ all. spread all kind (r.targets kind name)) (sym (take-append-drop n ms))
    ∙ spread-front (take n ms) (drop n ms) kind (r.targets kind name) (subst (λ k. AllBelow k (r.targets kind name)) (sym f.1) (r.below kind name))
spread-chosen (r ∷ rs) ms l kind name (suc w) =
    let n = leaves_of r in
    let f = leaves-first r rs ms l in
    ap (λ all. spread all kind (raise n (targets_of w rs kind name))) (sym (take-append-drop n ms))
    ∙ ap (λ k. spread (take n ms ++ drop n ms) kind (raise k (targets_of w rs kind name))) (sym f.1)
    ∙ spread-past (take n ms) (drop n ms) kind (targets_of w rs kind name)
    ∙ ap (raise (books_in (take n ms))) (spread-chosen rs (drop n ms) f.2 kind name w)

pub over-chosen : (number : MetricKind → List ℕ → ℕ) (rs ms : List Meaning) → length ms ≡ leaves_in rs → over (choosing number rs) ms ≡ choosing number (overs rs ms)
over-chosen number rs ms l =
    same_meaning (over (choosing number rs) ms) (choosing number (overs rs ms)) (ap (λ (a : Meaning). a.contents) (over-all rs ms l))
    (fun_ext (λ kind. fun_ext (λ name. spread-chosen rs ms l kind name (number kind name))))

-- one more
pub overs-more : (rs : List Meaning) (r : Meaning) (ms ns : List Meaning) → length ms ≡ leaves_in rs → length ns ≡ leaves_of r → overs (rs ++ r ∷ []) (ms ++ ns) ≡ overs rs ms ++ over r ns ∷ []
overs-more [] r ms ns l k = ap (λ xs. overs (r ∷ []) (xs ++ ns)) (nil_from_length ms l) ∙ ap (λ xs. over r xs ∷ []) (ap (λ i. take i ns) (sym k) ∙ take-length ns)
overs-more (q ∷ rs) r ms ns l k =
    let n = leaves_of q in
    let f = leaves-first q rs ms l in
    ap (λ xs. over q xs ∷ overs (rs ++ r ∷ []) (drop n (ms ++ ns))) (take-append-le n ms ns f.0)
    ∙ ap (λ xs. over q (take n ms) ∷ overs (rs ++ r ∷ []) xs) (drop-append-le n ms ns f.0)
    ∙ ap (λ xs. over q (take n ms) ∷ xs) (overs-more rs r (drop n ms) ns f.2 k)

-- ---- recorders that are as many as the leaves

module _ {B : Type 0} (m : B → Meaning) (rs : List Meaning) (bs : List B) (many : leaves_in rs ≡ length bs) where
  pub over_branches : over (joined_all rs) (map m bs) ≡ joined_all (overs rs (map m bs))
  over_branches = over-all rs (map m bs) (length-map bs m ∙ sym many)

  pub over_routed : (routes : List Route) → over (routed routes rs) (map m bs) ≡ routed routes (overs rs (map m bs))
  over_routed routes = over-chosen (λ kind name. chosen (winner routes kind name)) rs (map m bs) (length-map bs m ∙ sym many)
