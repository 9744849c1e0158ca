-- A list that another begins with.
use Rattle.std.proofs.Common.{◌≡◌, ℕ, suc, ◌+◌, ◌-◌, ◌<◌, ◌≤◌, List, [], ◌∷◌, ◌++◌, length, take, drop, get_or, Bool, true, sym, ap, ◌∙◌, arith, length-append, length-drop, nat_eq}
use Rattle.std.proofs.lemmas.List.{length-take, length-take-le, take-take, get_or-take, take_all, take-append-drop, drop-take}
use Rattle.std.proofs.lemmas.Slice.Eq.{bytes_eq-Decides}
use Rattle.std.proofs.Math.Seq.{take-add, take-suc}
use Rattle.std.specs.List.{starts_with}
use Rattle.prefix_match.specs.TrieTree.{Begins, GoesOn}
use Rattle.prefix_match.specs.TriePatterns.{IsFront}

pub begins_fits : (p s : List ℕ) → Begins p s → length p ≤ length s
begins_fits p s b = omega (arith, length-take (length p) s, ap length b)

pub begins_shorter : (p q s : List ℕ) → Begins p s → Begins q s → length p ≤ length q → Begins p q
begins_shorter p q s bp bq l = ap (take (length p)) (sym bq) ∙ take-take (length p) (length q) s l ∙ bp

pub begins_trans : (p q s : List ℕ) → Begins p q → Begins q s → Begins p s
begins_trans p q s bp bq =
    sym (take-take (length p) (length q) s (begins_fits p q bp)) ∙ ap (take (length p)) bq ∙ bp

pub begins_at : (p s : List ℕ) (i : ℕ) → Begins p s → i < length p → get_or p i 0 ≡ get_or s i 0
begins_at p s i b l = ap (λ x. get_or x i 0) (sym b) ∙ get_or-take (length p) s i 0 l

pub begins_one : (p q s : List ℕ) → Begins p s → Begins q s → length p ≡ length q → p ≡ q
begins_one p q s bp bq e = sym bp ∙ ap (λ n. take n s) e ∙ bq

pub begins_self : (p : List ℕ) → Begins p p
begins_self p = take_all (length p) p (omega arith)

pub begins_take : (n : ℕ) (s : List ℕ) → n ≤ length s → Begins (take n s) s
begins_take n s l = ap (λ m. take m s) (length-take-le n s l)

pub goes_on : (p q s : List ℕ) → Begins p s → Begins q s → length p < length q → GoesOn p q (get_or s (length p) 0)
goes_on p q s bp bq l = record {
  begins = begins_shorter p q s bp bq (omega arith);
  longer = l;
  next_byte = begins_at q s (length p) bq l;
}

-- a prefix, and the byte after it
pub begins_more : (p q : List ℕ) (byte : ℕ) → Begins p q → length p < length q → get_or q (length p) 0 ≡ byte → Begins (p ++ byte ∷ []) q
begins_more p q byte b l e =
    let one : length (p ++ byte ∷ []) ≡ suc (length p) = omega (arith, length-append p (byte ∷ [])) in
    ap (λ n. take n q) one ∙ take-suc q (length p) 0 l ∙ ap (λ x. x ++ get_or q (length p) 0 ∷ []) b ∙ ap (λ x. p ++ x ∷ []) e

-- past a common prefix, one begins with the other exactly if the rest does
pub rest_begins : (p q s : List ℕ) (r : Bool) → Begins p q → Begins p s → length q ≤ length s → r ≡ starts_with nat_eq (drop (length p) s) (drop (length p) q) → r ≡ true → Begins q s
rest_begins p q s r bq bs l e t =
    let same : drop (length p) q ≡ take (length (drop (length p) q)) (drop (length p) s) = (bytes_eq-Decides _ _).0 (sym e ∙ t) in
    let fits : length p ≤ length q = begins_fits p q bq in
    let len : length (drop (length p) q) ≡ length q - length p = length-drop (length p) q in
    let both : length q ≡ length p + (length q - length p) = omega arith in
    ap (λ n. take n s) both ∙ take-add (length p) (length q - length p) s
    ∙ ap (λ x. x ++ take (length q - length p) (drop (length p) s)) bs
    ∙ ap (λ n. p ++ take n (drop (length p) s)) (sym len)
    ∙ ap (λ x. p ++ x) (sym same)
    ∙ ap (λ x. x ++ drop (length p) q) (sym bq)
    ∙ take-append-drop (length p) q

pub begins_rest : (p q s : List ℕ) (r : Bool) → Begins p q → Begins p s → Begins q s → r ≡ starts_with nat_eq (drop (length p) s) (drop (length p) q) → r ≡ true
begins_rest p q s r bq bs b e =
    let fits : length p ≤ length q = begins_fits p q bq in
    let len : length (drop (length p) q) ≡ length q - length p = length-drop (length p) q in
    let both : length p + (length q - length p) ≡ length q = omega arith in
    let same : drop (length p) q ≡ take (length (drop (length p) q)) (drop (length p) s) =
    ap (drop (length p)) (sym b) ∙ ap (λ n. drop (length p) (take n s)) (sym both)
    ∙ drop-take (length p) (length q - length p) s ∙ ap (λ n. take n (drop (length p) s)) (sym len) in
    e ∙ (bytes_eq-Decides _ _).1 same

-- the same of the callers' word
pub front_begins : (p s : List ℕ) → IsFront p s → Begins p s
front_begins p s f = sym ((bytes_eq-Decides p (take (length p) s)).0 f)

pub begins_front : (p s : List ℕ) → Begins p s → IsFront p s
begins_front p s b = (bytes_eq-Decides p (take (length p) s)).1 (sym b)
