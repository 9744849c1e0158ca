-- What all workers pushed.
use Rattle.std.proofs.Common.{◌≡◌, ℕ, zero, suc, ◌+◌, ◌-◌, ◌*◌, ◌≤◌, Bool, true, false, if◌then◌else◌, List, [], ◌∷◌, ◌++◌, ap, subst, ◌∙◌, arith}
use Rattle.metrics_bucket.specs.Facts.{weigh}
use Rattle.metrics_bucket.proofs.Sums.{weigh-append}
use Rattle.tool_storm.specs.declared.tally.Tally.{Tally}
use Rattle.tool_storm.specs.Numbers.{below, sum_below}
use Rattle.tool_storm.specs.Tallies.{Adds}
use Rattle.tool_storm.specs.Pens.{Bags, IsFresh, HasPushed, IsJoined, IsSplit, weights}
use Rattle.tool_storm.specs.Worked.{pushes_of, IsWorked}
use Rattle.tool_storm.specs.Ran.{IsRan}
use Rattle.tool_storm.proofs.TallyLemmas.{tells_more, count_below, sum_of_below, sum_below_low}

pub weights-push : {P : Type 0} (bags : P → Bags) (front : List P) (p : P) → weights bags (front ++ p ∷ []) ≡ weights bags front + (bags p).weight
weights-push bags [] p = omega arith
weights-push bags (a ∷ more) p = let r = weights-push bags more p in omega arith

-- both halves of a pen that pushed and took nothing
pub split_fresh : (one a b : Bags) → IsSplit one a b → IsFresh one → IsFresh a × IsFresh b
split_fresh one a b s f = (
  (λ h. let x = (f h).0 in let y = (f h).1 in let p = (s.0.1 h).0 in let q = (s.0.1 h).1 in (omega arith, omega arith)),
  (λ h. let x = (f h).0 in let y = (f h).1 in let p = (s.0.1 h).0 in let q = (s.0.1 h).1 in (omega arith, omega arith)),
)

-- one number more
pub pushed_next : (p q r : Bags) (v : ℕ) → HasPushed p (below v) q → HasPushed q (v ∷ []) r → HasPushed p (below (v + 1)) r
pushed_next p q r v before now = (
  now.0 ∙ before.0,
  λ h.
      let a = (before.1 h).0 in
      let b = (before.1 h).1 in
      let c = (now.1 h).0 in
      let d = (now.1 h).1 in
      let next : v + 1 ≡ suc v = omega arith in
      let e : weigh h (below (v + 1)) ≡ weigh h (below (suc v)) = ap (λ (n : ℕ). weigh h (below n)) next in
      let f = weigh-append h (below v) (v ∷ []) in
      (omega arith, omega arith),
)

-- the multiset of one worker
worker_bag : (h : ℕ → ℕ) (values : ℕ) (stopped : Bool) → weigh h (pushes_of stopped values) + (if stopped then 1 else 0) * weigh h (below values) ≡ weigh h (below values)
worker_bag h values true = omega arith
worker_bag h values false = omega arith

times_more : (m n b : ℕ) → n ≡ m + 1 → n * b ≡ m * b + b
times_more m n b e = let k : n ≡ suc m = omega arith in ap (λ (z : ℕ). z * b) k ∙ (omega arith)

-- one worker more: stopped, it pushed nothing
one_more : (n s b w p : ℕ) (stopped : Bool) (q : ℕ) → s ≤ n → p ≡ (n - s) * b → q + (if stopped then 1 else 0) * b ≡ b → w ≡ p + q → w ≡ (n + 1 - (s + (if stopped then 1 else 0))) * b
one_more n s b w p true q low pushed one all = let e : n + 1 - (s + 1) ≡ n - s = omega arith in let f = ap (λ (z : ℕ). z * b) e in omega arith
one_more n s b w p false q low pushed one all = let f = times_more (n - s) (n + 1 - (s + 0)) b (omega arith) in omega arith

less_all : (n s : ℕ) (stopped : Bool) → s ≤ n → s + (if stopped then 1 else 0) ≤ n + 1
less_all n s true l = omega arith
less_all n s false l = omega arith

-- the same in other words
pub ran_for : (v v' w w' n n' : ℕ) (pen : Bags) (t f : Tally) (s : ℕ) → v ≡ v' → w ≡ w' → n ≡ n' → IsRan v w n pen t f s → IsRan v' w' n' pen t f s
ran_for v v' w w' n n' pen t f s a b c k = subst (λ (z : ℕ). IsRan z w' n' pen t f s) a (subst (λ (z : ℕ). IsRan v z n' pen t f s) b (subst (λ (z : ℕ). IsRan v w z pen t f s) c k))

pub joins_more : (values weight workers : ℕ) (mine old pen new : Bags) (t f u t' f' : Tally) (s s' : ℕ) (stopped : Bool) → IsRan values weight workers old t f s → IsFresh mine → IsWorked mine values pen u stopped
    → IsJoined old pen new → Adds t u.count u.sum t' → f' ≡ f → s' ≡ s + (if stopped then 1 else 0) → IsRan values (weight + mine.weight) (workers + 1) new t' f' s'
joins_more values weight workers mine old pen new t f u t' f' s s' stopped k fresh works join adds same more =
    let xs : List ℕ = pushes_of stopped values in
    let low = k.stopped in
    let part : (h : ℕ → ℕ) → new.pushed h ≡ old.pushed h + weigh h xs = λ h.
    let a = (join.1 h).0 in
    let b = (works.pen.1 h).0 in
    let c = (fresh h).0 in
    omega arith in
    let taken : (h : ℕ → ℕ) → new.taken h ≡ old.taken h = λ h.
    let a = (join.1 h).1 in
    let b = (works.pen.1 h).1 in
    let c = (fresh h).1 in
    omega arith in
    let tells = tells_more t t' (old.pushed (λ _. 1)) (old.pushed (λ x. x)) u.count u.sum k.pushed adds in
    let mine_tells = works.pushed in
    record {
      sum = let a = join.0 in let b = k.sum in let c = works.pen.0 in omega arith;
      stopped = let l = less_all workers s stopped low in omega arith;
      bag = λ h. let b = one_more workers s (weigh h (below values)) (new.pushed h) (old.pushed h) stopped (weigh h xs) low (k.bag h) (worker_bag h values stopped) (part h) in
          let e : workers + 1 - (s + (if stopped then 1 else 0)) ≡ workers + 1 - s' = omega arith in b ∙ ap (λ (z : ℕ). z * weigh h (below values)) e;
      pushed = (
        (let a = tells.0 in let b = mine_tells.0 in let c = part (λ _. 1) in omega arith),
        (let a = tells.1 in let b = mine_tells.1 in let c = part (λ x. x) in omega arith),
      );
      found = (
        (let a = k.found.0 in let b = taken (λ _. 1) in let c = ap (λ (t : Tally). t.count) same in omega arith),
        (let a = k.found.1 in let b = taken (λ x. x) in let c = ap (λ (t : Tally). t.sum) same in omega arith),
      );
    }

few : (n b c d : ℕ) → n ≤ c → b ≤ d → n * b ≤ c * d
few zero b c d l m = omega arith
few (suc n) b zero d l m = absurd (omega arith)
few (suc n) b (suc c) d l m = let r = few n b c d (omega arith) m in let e = times_more n (suc n) b (omega arith) in let f = times_more c (suc c) d (omega arith) in omega arith

-- the numbers at the end
pub totals_are : (pushers values weight : ℕ) (pen : Bags) (t f : Tally) (s : ℕ) → IsRan values weight pushers pen t f s → pushers ≤ 64 → values ≤ 1000000 → (t.count ≡ (pushers - s) * values) × (t.sum ≡ (pushers - s) * sum_below values)
totals_are pushers values weight pen t f s k most low =
    let n : ℕ = pushers - s in
    let counts : pen.pushed (λ _. 1) ≡ n * values = k.bag (λ _. 1) ∙ ap (λ (z : ℕ). n * z) (count_below values) in
    let sums : pen.pushed (λ x. x) ≡ n * sum_below values = k.bag (λ x. x) ∙ ap (λ (z : ℕ). n * z) (sum_of_below values) in
    let count_room = few n values 64 1000000 (omega arith) low in
    let sum_room = few n (sum_below values) 64 1000000000000 (omega arith) (sum_below_low values low) in
    let p = k.pushed.0 in
    let q = k.pushed.1 in
    (omega arith, omega arith)
