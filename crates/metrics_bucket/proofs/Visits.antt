-- Lists of visits, and sums over them.
use Rattle.std.proofs.Common.{◌≡◌, ◌≢◌, ℕ, zero, suc, ◌+◌, ◌%◌, ◌<◌, ◌≤◌, List, [], ◌∷◌, ◌++◌, length, get_or, set, take, drop, replicate, refl, sym, ap, ◌∙◌, arith}
use mathlib.Core.Option.{some, some-injective, some-ne-none}
use lib.ListN.{get_elem?}
use Rattle.metrics_bucket.specs.declared.view.Walk.{Walk}
use Rattle.metrics_bucket.specs.declared.view.Visit.{Visit}
use Rattle.metrics_bucket.specs.declared.view.Visit.TheVariants.{Unseen, Marked, Read, Wiped}
use Rattle.metrics_bucket.specs.BucketState.{other, value_in, values_in}
use Rattle.metrics_bucket.specs.Facts.{weigh, weigh_walks, stands, is_open, open_at, wiped_visit, wiped_in}

pub open_here : (visits : List Visit) (i : ℕ) (c : Visit) → get_elem? visits i ≡ some c → open_at visits i ≡ is_open c
open_here [] i c e = absurd (some-ne-none c (sym e))
open_here (x ∷ xs) zero c e = ap is_open (some-injective x c e)
open_here (x ∷ xs) (suc i) c e = open_here xs i c e

pub open_set : (visits : List Visit) (i : ℕ) (c d : Visit) → get_elem? visits i ≡ some c → open_at (set visits i d) i ≡ is_open d
open_set [] i c d e = absurd (some-ne-none c (sym e))
open_set (x ∷ xs) zero c d e = refl
open_set (x ∷ xs) (suc i) c d e = open_set xs i c d e

pub open_else : (visits : List Visit) (i j : ℕ) (d : Visit) → j ≢ i → open_at (set visits i d) j ≡ open_at visits j
open_else [] i j d n = refl
open_else (x ∷ xs) zero zero d n = absurd (n refl)
open_else (x ∷ xs) zero (suc j) d n = refl
open_else (x ∷ xs) (suc i) zero d n = refl
open_else (x ∷ xs) (suc i) (suc j) d n = open_else xs i j d (λ e. n (ap suc e))

pub open_kept : (visits : List Visit) (i j : ℕ) (c d : Visit) → get_elem? visits i ≡ some c → is_open d ≡ is_open c → open_at (set visits i d) j ≡ open_at visits j
open_kept [] i j c d e o = refl
open_kept (x ∷ xs) zero zero c d e o = o ∙ sym (ap is_open (some-injective x c e))
open_kept (x ∷ xs) zero (suc j) c d e o = refl
open_kept (x ∷ xs) (suc i) zero c d e o = refl
open_kept (x ∷ xs) (suc i) (suc j) c d e o = open_kept xs i j c d e o

pub wiped_set : (h : ℕ → ℕ) (visits : List Visit) (i : ℕ) (c d : Visit) → get_elem? visits i ≡ some c → wiped_in h (set visits i d) + wiped_visit h c ≡ wiped_in h visits + wiped_visit h d
wiped_set h [] i c d e = absurd (some-ne-none c (sym e))
wiped_set h (x ∷ xs) zero c d e = let is : wiped_visit h x ≡ wiped_visit h c = ap (wiped_visit h) (some-injective x c e) in omega arith
wiped_set h (x ∷ xs) (suc i) c d e = let r = wiped_set h xs i c d e in omega arith

pub wiped_new : (h : ℕ → ℕ) (n : ℕ) → wiped_in h (replicate n Unseen) ≡ 0
wiped_new h zero = refl
wiped_new h (suc n) = let r = wiped_new h n in omega arith

pub new_visit : (n i : ℕ) (c : Visit) → get_elem? (replicate n Unseen) i ≡ some c → Unseen ≡ c
new_visit zero i c e = absurd (some-ne-none c (sym e))
new_visit (suc n) zero c e = some-injective Unseen c e
new_visit (suc n) (suc i) c e = new_visit n i c e

pub length_new : (n : ℕ) → length (replicate n Unseen) ≡ n
length_new zero = refl
length_new (suc n) = ap suc (length_new n)

-- all visits of a clear are wiped
abbrev pub AllWiped : List Visit → Type 0
AllWiped visits = (i : ℕ) (c : Visit) → get_elem? visits i ≡ some c → is_open c ≡ 0

wiped_value : (h : ℕ → ℕ) (c : Visit) → is_open c ≡ 0 → wiped_visit h c ≡ h (value_in c)
wiped_value h Unseen o = absurd (omega arith)
wiped_value h Marked o = absurd (omega arith)
wiped_value h (Read x) o = absurd (omega arith)
wiped_value h (Wiped x) o = refl

pub all_wiped_open : (visits : List Visit) (i : ℕ) → AllWiped visits → open_at visits i ≡ 0
all_wiped_open [] i a = refl
all_wiped_open (c ∷ cs) zero a = a 0 c refl
all_wiped_open (c ∷ cs) (suc i) a = all_wiped_open cs i (λ j d e. a (suc j) d e)

pub all_wiped_weigh : (h : ℕ → ℕ) (visits : List Visit) → AllWiped visits → weigh h (values_in visits) ≡ wiped_in h visits
all_wiped_weigh h [] a = refl
all_wiped_weigh h (c ∷ cs) a = let x = wiped_value h c (a 0 c refl) in let r = all_wiped_weigh h cs (λ j d e. a (suc j) d e) in omega arith

pub weigh_walks-append : (h : ℕ → ℕ) (xss : List Walk) (xs : Walk) → weigh_walks h (xss ++ xs ∷ []) ≡ weigh_walks h xss + weigh h xs.values
weigh_walks-append h [] xs = omega arith
weigh_walks-append h (x ∷ xss) xs = let r = weigh_walks-append h xss xs in omega arith

-- the place of each visit has a mark and the visit's value
abbrev pub Standing : List ℕ → List ℕ → ℕ → List Visit → Type 0
Standing xs ms b visits = (i : ℕ) (c : Visit) → get_elem? visits i ≡ some c → (get_or ms (b + i) 0 ≡ 1) × (get_or xs (b + i) 0 ≡ value_in c)

one_less : (xs ms : List ℕ) (x m b : ℕ) (visits : List Visit) → Standing (x ∷ xs) (m ∷ ms) (suc b) visits → Standing xs ms b visits
one_less xs ms x m b visits s i c e =
    let t = s i c e in
    let shift : suc b + i ≡ suc (b + i) = omega arith in
    ((λ k. get_or (m ∷ ms) (sym shift k) 0) ∙ t.0, (λ k. get_or (x ∷ xs) (sym shift k) 0) ∙ t.1)

next_visit : (xs ms : List ℕ) (x m : ℕ) (c : Visit) (visits : List Visit) → Standing (x ∷ xs) (m ∷ ms) 0 (c ∷ visits) → Standing xs ms 0 visits
next_visit xs ms x m c visits s i d e =
    let t = s (suc i) d e in
    let shift : 0 + suc i ≡ suc (0 + i) = omega arith in
    ((λ k. get_or (m ∷ ms) (sym shift k) 0) ∙ t.0, (λ k. get_or (x ∷ xs) (sym shift k) 0) ∙ t.1)

-- what a walk read is a part of what has a mark
pub part_stands : (h : ℕ → ℕ) (xs ms : List ℕ) (b : ℕ) (visits : List Visit) → b + length visits ≤ length xs → b + length visits ≤ length ms → Standing xs ms b visits → weigh h (values_in visits) ≤ stands h xs ms
part_stands h xs ms b [] l m s = omega arith
part_stands h [] ms b (c ∷ cs) l m s = absurd (omega arith)
part_stands h (x ∷ xs) [] b (c ∷ cs) l m s = absurd (omega arith)
part_stands h (x ∷ xs) (zero ∷ ms) zero (c ∷ cs) l m s = let t = (s 0 c refl).0 in absurd (omega arith)
part_stands h (x ∷ xs) (suc n ∷ ms) zero (c ∷ cs) l m s = let r = part_stands h xs ms 0 cs (omega arith) (omega arith) (next_visit xs ms x (suc n) c cs s) in let is : h x ≡ h (value_in c) = ap h (s 0 c refl).1 in omega arith
part_stands h (x ∷ xs) (zero ∷ ms) (suc b) (c ∷ cs) l m s = let r = part_stands h xs ms b (c ∷ cs) (omega arith) (omega arith) (one_less xs ms x 0 b (c ∷ cs) s) in omega arith
part_stands h (x ∷ xs) (suc n ∷ ms) (suc b) (c ∷ cs) l m s = let r = part_stands h xs ms b (c ∷ cs) (omega arith) (omega arith) (one_less xs ms x (suc n) b (c ∷ cs) s) in omega arith

-- what a walk read at all places of a side are its values
pub values_are : (xs : List ℕ) (b : ℕ) (visits : List Visit) → b + length visits ≤ length xs → ((i : ℕ) (c : Visit) → get_elem? visits i ≡ some c → get_or xs (b + i) 0 ≡ value_in c) → values_in visits ≡ take (length visits) (drop b xs)
values_are xs b [] l f = refl
values_are [] b (c ∷ cs) l f = absurd (omega arith)
values_are (x ∷ xs) zero (c ∷ cs) l f =
    let rest = values_are xs 0 cs (omega arith) (λ i d e. let t = f (suc i) d e in let shift : suc (0 + i) ≡ 0 + suc i = omega arith in (λ k. get_or (x ∷ xs) (shift k) 0) ∙ t) in
    (λ i. sym (f 0 c refl) i ∷ rest i)
values_are (x ∷ xs) (suc b) (c ∷ cs) l f = values_are xs b (c ∷ cs) (omega arith) (λ i d e. let t = f i d e in let shift : suc (b + i) ≡ suc b + i = omega arith in (λ k. get_or (x ∷ xs) (shift k) 0) ∙ t)

-- marks at n places from b on, and no other
pub stands_front : (h : ℕ → ℕ) (xs ms : List ℕ) (b n : ℕ) → length xs ≡ length ms → b + n ≤ length xs → ((k : ℕ) → k < b → get_or ms k 0 ≡ 0) → ((k : ℕ) → k < n → get_or ms (b + k) 0 ≡ 1)
    → ((k : ℕ) → b + n ≤ k → k < length ms → get_or ms k 0 ≡ 0) → stands h xs ms ≡ weigh h (take n (drop b xs))
stands_front h [] [] zero zero e l p q r = refl
stands_front h [] [] (suc b) n e l p q r = absurd (omega arith)
stands_front h [] [] zero (suc n) e l p q r = absurd (omega arith)
stands_front h [] (m ∷ ms) b n e l p q r = absurd (omega arith)
stands_front h (x ∷ xs) [] b n e l p q r = absurd (omega arith)
stands_front h (x ∷ xs) (zero ∷ ms) (suc b) n e l p q r =
    stands_front h xs ms b n (omega arith) (omega arith) (λ k z. p (suc k) (omega arith)) (λ k z. let t = q k z in let shift : suc (b + k) ≡ suc b + k = omega arith in (λ i. get_or (0 ∷ ms) (shift i) 0) ∙ t) (λ k z y. r (suc k) (omega arith) (omega arith))
stands_front h (x ∷ xs) (suc m ∷ ms) (suc b) n e l p q r = let t = p 0 (omega arith) in absurd (omega arith)
stands_front h (x ∷ xs) (zero ∷ ms) zero (suc n) e l p q r = let t = q 0 (omega arith) in absurd (omega arith)
stands_front h (x ∷ xs) (suc m ∷ ms) zero (suc n) e l p q r =
    ap (λ (k : ℕ). h x + k)
    (stands_front h xs ms 0 n (omega arith) (omega arith) (λ k z. absurd (omega arith)) (λ k z. let t = q (suc k) (omega arith) in let shift : suc (0 + k) ≡ 0 + suc k = omega arith in (λ i. get_or (suc m ∷ ms) (shift i) 0) ∙ t) (λ k z y. r (suc k) (omega arith) (omega arith)))
stands_front h (x ∷ xs) (zero ∷ ms) zero zero e l p q r = stands_front h xs ms 0 0 (omega arith) (omega arith) (λ k z. absurd (omega arith)) (λ k z. absurd (omega arith)) (λ k z y. r (suc k) (omega arith) (omega arith))
stands_front h (x ∷ xs) (suc m ∷ ms) zero zero e l p q r = let t = r 0 (omega arith) (omega arith) in absurd (omega arith)

pub other_next : (live n : ℕ) → live < 2 → live ≡ n % 2 → other live ≡ (n + 1) % 2
other_next zero n l e = omega arith
other_next (suc zero) n l e = omega arith
other_next (suc (suc live)) n l e = absurd (omega arith)
