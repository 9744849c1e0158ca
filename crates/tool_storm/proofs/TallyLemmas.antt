-- Tallies of many lists.
use Rattle.std.proofs.Common.{◌≡◌, ℕ, zero, suc, ◌+◌, ◌*◌, ◌≤◌, List, [], ◌∷◌, refl, sym, ap, subst, arith}
use Rattle.std.specs.List.{FoldsTo}
use Rattle.std.specs.Prelude.{Result, Ok, Err, IfOk, IfErr}
use Rattle.metrics.specs.Book.{joined_lists}
use Rattle.metrics_bucket.specs.Blocks.{valued}
use Rattle.metrics_bucket.proofs.Sums.{weigh-append}
use Rattle.tool_storm.specs.declared.tally.Tally.{Tally}
use Rattle.tool_storm.specs.Numbers.{count_of, sum_of, below, sum_below}
use Rattle.tool_storm.specs.Tallies.{Tells, Adds}
use Rattle.tool_storm.proofs.Chunks.{same_chunks}

pub tells_more : (t u : Tally) (n s m r : ℕ) → Tells t n s → Adds t m r u → Tells u (n + m) (s + r)
tells_more t u n s m r a b = (let x = a.0 in let y = b.0 in omega arith, let x = a.1 in let y = b.1 in omega arith)

tells_all : (xss : List (List ℕ)) (t u : Tally) (n s : ℕ) → Tells t n s → FoldsTo (λ t xs u. Adds t (count_of xs) (sum_of xs) u) t xss u → Tells u (n + count_of (joined_lists xss)) (s + sum_of (joined_lists xss))
tells_all [] t u n s a e =
    let x = a.0 in let y = a.1 in
    let c : u.count ≡ t.count = ap (λ (z : Tally). z.count) (sym e) in
    let d : u.sum ≡ t.sum = ap (λ (z : Tally). z.sum) (sym e) in
    (omega arith, omega arith)
tells_all (xs ∷ xss) t u n s a (v, b, f) =
    let k = tells_all xss v u (n + count_of xs) (s + sum_of xs) (tells_more t v n s (count_of xs) (sum_of xs) a b) f in
    let x = k.0 in let y = k.1 in
    let c = weigh-append (λ _. 1) xs (joined_lists xss) in
    let d = weigh-append (λ x. x) xs (joined_lists xss) in
    (omega arith, omega arith)

-- the chunks that a clear showed were all added
pub tells_chunks : (xss : List (List ℕ)) (t u : Tally) (n s : ℕ) → Tells t n s → FoldsTo (λ t xs u. Adds t (count_of xs) (sum_of xs) u) t (valued (λ (x : ℕ). x) xss) u → Tells u (n + count_of (joined_lists xss)) (s + sum_of (joined_lists xss))
tells_chunks xss t u n s a f = tells_all xss t u n s a (subst (λ (l : List (List ℕ)). FoldsTo (λ t xs u. Adds t (count_of xs) (sum_of xs) u) t l u) (same_chunks xss) f)

pub count_below : (n : ℕ) → count_of (below n) ≡ n
count_below zero = refl
count_below (suc n) = let r = count_below n in let a = weigh-append (λ _. 1) (below n) (n ∷ []) in omega arith

pub sum_of_below : (n : ℕ) → sum_of (below n) ≡ sum_below n
sum_of_below zero = refl
sum_of_below (suc n) = let r = sum_of_below n in let a = weigh-append (λ x. x) (below n) (n ∷ []) in omega arith

-- one more number was pushed
pub tells_next : (t u : Tally) (n : ℕ) → Tells t (count_of (below n)) (sum_of (below n)) → Adds t 1 n u → Tells u (count_of (below (n + 1))) (sum_of (below (n + 1)))
tells_next t u n a b =
    let k = tells_more t u (count_of (below n)) (sum_of (below n)) 1 n a b in
    let x = k.0 in let y = k.1 in
    let e : n + 1 ≡ suc n = omega arith in
    let c = weigh-append (λ _. 1) (below n) (n ∷ []) in
    let s = weigh-append (λ x. x) (below n) (n ∷ []) in
    let c' : count_of (below (n + 1)) ≡ count_of (below (suc n)) = ap (λ (k : ℕ). count_of (below k)) e in
    let s' : sum_of (below (n + 1)) ≡ sum_of (below (suc n)) = ap (λ (k : ℕ). sum_of (below k)) e in
    (omega arith, omega arith)

sum_low : (n : ℕ) → n ≤ 1000000 → sum_below n ≤ 1000000 * n
sum_low zero l = omega arith
sum_low (suc n) l = let r = sum_low n (omega arith) in omega arith

pub sum_below_low : (n : ℕ) → n ≤ 1000000 → sum_below n ≤ 1000000000000
sum_below_low n l = let r = sum_low n l in omega arith

pub either_way : {A E : Type 0} (r : Result A E) (Q : Type 0) → IfOk r (λ _. Q) → IfErr r (λ _. Q) → Q
either_way (Ok x) Q a b = a
either_way (Err e) Q a b = b
