-- Branches side by side: their leaves and targets, and where the leaves of each begin.
use Rattle.std.proofs.Common.{◌≡◌, ℕ, zero, suc, ◌+◌, ◌<◌, ◌≤◌, List, [], ◌∷◌, ◌++◌, length, take, drop, get_or, None, Some, refl, ap, sym, ◌∙◌, subst, arith, length-append, append_assoc, append-nil, Option}
use Rattle.std.proofs.lemmas.List.{take-append-drop, take-take}
use Rattle.metrics_names.specs.declared.kind.MetricKind.{MetricKind}
use Rattle.metrics.specs.Targets.{raise}
use Rattle.metrics.specs.TargetsLaws.{raise-append, raise-raise, raise-zero}
use Rattle.metrics.specs.Meaning.{Meaning}
use Rattle.metrics.specs.Layers.{joined_all, targets_of}
use Rattle.metrics_rules.specs.Routing.{RouteTables}
use Rattle.metrics_rules.specs.Nodes.{leaves_of, leaves_in, group_meaning, starts_from, AreStarts}

pub contents-append : (xs ys : List Meaning) → (joined_all (xs ++ ys)).contents ≡ (joined_all xs).contents ++ (joined_all ys).contents
contents-append [] ys = refl
contents-append (x ∷ xs) ys = ap (λ cs. x.contents ++ cs) (contents-append xs ys) ∙ sym (append_assoc x.contents (joined_all xs).contents (joined_all ys).contents)

pub leaves-append : (xs ys : List Meaning) → leaves_in (xs ++ ys) ≡ leaves_in xs + leaves_in ys
leaves-append xs ys = ap length (contents-append xs ys) ∙ length-append (joined_all xs).contents (joined_all ys).contents

pub leaves-one : (xs : List Meaning) (a : Meaning) → leaves_in (xs ++ a ∷ []) ≡ leaves_in xs + leaves_of a
leaves-one xs a = leaves-append xs (a ∷ []) ∙ ap (λ k. leaves_in xs + k) (ap length (append-nil a.contents))

-- the first of several branches have no more leaves
pub leaves-front : (all : List Meaning) (i : ℕ) → leaves_in (take i all) ≤ leaves_in all
leaves-front all i = let e = ap leaves_in (sym (take-append-drop i all)) ∙ leaves-append (take i all) (drop i all) in omega (arith, e)

pub leaves-rise : (all : List Meaning) (i j : ℕ) → i ≤ j → leaves_in (take i all) ≤ leaves_in (take j all)
leaves-rise all i j le = subst (λ k. k ≤ leaves_in (take j all)) (ap leaves_in (take-take i j all le)) (leaves-front (take j all) i)

-- however a name is passed on, the leaves are those of all
pub contents-group : (routes : Option RouteTables) (all : List Meaning) → (group_meaning routes all).contents ≡ (joined_all all).contents
contents-group None all = refl
contents-group (Some tables) all = refl

module _ (kind : MetricKind) (name : List ℕ) where
  pub targets-append : (xs ys : List Meaning) →
      (joined_all (xs ++ ys)).targets kind name ≡ (joined_all xs).targets kind name ++ raise (leaves_in xs) ((joined_all ys).targets kind name)
  targets-append [] ys = sym (raise-zero ((joined_all ys).targets kind name))
  targets-append (x ∷ xs) ys =
      let here = x.targets kind name in
      let ts = (joined_all xs).targets kind name in
      let us = (joined_all ys).targets kind name in
      let raised = raise-raise (leaves_of x) (leaves_in xs) us ∙ ap (λ n. raise n us) (sym (length-append x.contents (joined_all xs).contents)) in
      ap (λ vs. here ++ raise (leaves_of x) vs) (targets-append xs ys)
      ∙ ap (λ vs. here ++ vs) (raise-append (leaves_of x) ts (raise (leaves_in xs) us) ∙ ap (λ vs. raise (leaves_of x) ts ++ vs) raised)
      ∙ sym (append_assoc here (raise (leaves_of x) ts) (raise (leaves_in (x ∷ xs)) us))

  -- the targets of one by its number, after others
  pub targets_of-past : (xs ys : List Meaning) (w : ℕ) → targets_of (length xs + w) (xs ++ ys) kind name ≡ raise (leaves_in xs) (targets_of w ys kind name)
  targets_of-past [] ys w =
      let z : 0 + w ≡ w = omega arith in
      ap (λ k. targets_of k ys kind name) z ∙ sym (raise-zero (targets_of w ys kind name))
  targets_of-past (x ∷ xs) ys w =
      let s : suc (length xs) + w ≡ suc (length xs + w) = omega arith in
      ap (λ k. targets_of k (x ∷ (xs ++ ys)) kind name) s
      ∙ ap (raise (leaves_of x)) (targets_of-past xs ys w) ∙ raise-raise (leaves_of x) (leaves_in xs) (targets_of w ys kind name)
      ∙ ap (λ k. raise k (targets_of w ys kind name)) (sym (length-append x.contents (joined_all xs).contents))

-- ---- where the leaves of each begin

length-starts : (k : ℕ) (all : List Meaning) → length (starts_from k all) ≡ length all
length-starts k [] = refl
length-starts k (a ∷ all) = ap suc (length-starts (k + leaves_of a) all)

start-is : (k : ℕ) (all : List Meaning) (i d : ℕ) → i < length all → get_or (starts_from k all) i d ≡ k + leaves_in (take i all)
start-is k [] i d lt = absurd (omega arith)
start-is k (a ∷ all) zero d lt = omega arith
start-is k (a ∷ all) (suc i) d lt =
    let e = start-is (k + leaves_of a) all i d (omega arith) in
    let l = length-append a.contents (joined_all (take i all)).contents in
    omega (arith, e, l)

module _ (starts : List ℕ) (all : List Meaning) (are : AreStarts starts all) where
  pub starts-count : length starts ≡ length all
  starts-count = ap length are ∙ length-starts 0 all

  pub begins : (i : ℕ) → i < length all → (d : ℕ) → get_or starts i d ≡ leaves_in (take i all)
  begins i lt d = let s = ap (λ ns. get_or ns i d) are ∙ start-is 0 all i d lt in omega (arith, s)

-- one branch more begins after all
starts-one : (k : ℕ) (xs : List Meaning) (a : Meaning) → starts_from k (xs ++ a ∷ []) ≡ starts_from k xs ++ (k + leaves_in xs) ∷ []
starts-one k [] a = let z : k ≡ k + 0 = omega arith in ap (λ n. n ∷ []) z
starts-one k (x ∷ xs) a =
    let l = length-append x.contents (joined_all xs).contents in
    let e : k + leaves_of x + leaves_in xs ≡ k + leaves_in (x ∷ xs) = omega (arith, l) in
    ap (λ ns. k ∷ ns) (starts-one (k + leaves_of x) xs a ∙ ap (λ n. starts_from (k + leaves_of x) xs ++ n ∷ []) e)

pub starts-pushed : (xs : List Meaning) (a : Meaning) (starts : List ℕ) (end : ℕ) → AreStarts starts xs → end ≡ leaves_in xs → AreStarts (starts ++ end ∷ []) (xs ++ a ∷ [])
starts-pushed xs a starts end are e =
    let z : end ≡ 0 + leaves_in xs = omega (arith, e) in
    ap (λ n. starts ++ n ∷ []) z ∙ ap (λ ns. ns ++ (0 + leaves_in xs) ∷ []) are ∙ sym (starts-one 0 xs a)

-- another in one's place, of as many leaves, moves none
pub starts-stay : (k : ℕ) (front rest : List Meaning) (x y : Meaning) → leaves_of y ≡ leaves_of x → starts_from k (front ++ y ∷ rest) ≡ starts_from k (front ++ x ∷ rest)
starts-stay k [] rest x y e = ap (λ n. k ∷ starts_from (k + n) rest) e
starts-stay k (f ∷ fs) rest x y e = ap (λ ns. k ∷ ns) (starts-stay (k + leaves_of f) fs rest x y e)

pub leaves-stay : (front rest : List Meaning) (x y : Meaning) → leaves_of y ≡ leaves_of x → leaves_in (front ++ y ∷ rest) ≡ leaves_in (front ++ x ∷ rest)
leaves-stay front rest x y e =
    let by_sum = λ (z : Meaning). leaves-append front (z ∷ rest) ∙ ap (λ k. leaves_in front + k) (length-append z.contents (joined_all rest).contents) in
    by_sum y ∙ ap (λ k. leaves_in front + (k + leaves_in rest)) e ∙ sym (by_sum x)
