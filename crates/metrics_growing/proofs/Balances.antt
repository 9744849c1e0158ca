-- What calls do to the multisets of a pen, seen over all its segments.
use Rattle.std.proofs.Common.{◌≡◌, ℕ, ◌+◌, List, [], ◌∷◌, refl, ap, ⊎_elim, arith}
use Rattle.std.specs.List.{All}
use Rattle.std.proofs.lemmas.List.Elements.{All-head, All-tail}
use Rattle.metrics_bucket.specs.declared.view.Walk.{Walk}
use Rattle.metrics_bucket.specs.BucketState.{push}
use Rattle.metrics_bucket.specs.Account.{Account, looked_at}
use Rattle.metrics_bucket.specs.Facts.{weigh_pushes, weigh_walks}
use Rattle.metrics_bucket.proofs.Shares.{weigh_walks-both}
use Rattle.metrics_bucket.proofs.Sums.{weigh_pushes-append}
use Rattle.metrics_growing.specs.Parts.{Part, Keeps, HasOnlyLooked, OnlyLooks, PassedIn, OneOf, LastMet, PushedIn, PushedByTries, FirstHeld, FoundHeld, TookAll, joined_parts}
use Rattle.metrics_growing.specs.Bags.{sum_of, pushed_in, taken_in, pushed_by, taken_by}
use Rattle.metrics_growing.proofs.Chains.{tries_look, met_looks}
use Rattle.metrics_growing.proofs.Settling.{sum_both, keeps_sum, took_sums}

pub keeps_sums : (h : ℕ → ℕ) (ps qs : List Part) → Keeps ps qs → (pushed_by h qs ≡ pushed_by h ps) × (taken_by h qs ≡ taken_by h ps)
keeps_sums h ps qs k = (
  keeps_sum (λ a. weigh_pushes h a.pushed) ps qs (λ p new. ap (λ (x : Account). weigh_pushes h x.pushed) new) k,
  keeps_sum (λ a. weigh_walks h a.taken) ps qs (λ p new. ap (λ (x : Account). weigh_walks h x.taken) new) k,
)

-- looks change no number of what was pushed and taken
looked_empty : (f : Account → ℕ) (ps : List Part) → ((p : Part) → HasOnlyLooked p → f p.account ≡ 0) → All HasOnlyLooked ps → sum_of (λ p. f p.account) ps ≡ 0
looked_empty f [] z a = refl
looked_empty f (p ∷ ps) z a = let e = z p (All-head HasOnlyLooked p ps a) in let r = looked_empty f ps z (All-tail HasOnlyLooked p ps a) in omega arith

looks_sum : (f : Account → ℕ) (ps qs : List Part) → ((a : Account) (n m : ℕ) → f (looked_at a n m) ≡ f a) → ((p : Part) → HasOnlyLooked p → f p.account ≡ 0) → OnlyLooks ps qs → sum_of (λ p. f p.account) qs ≡ sum_of (λ p. f p.account) ps
looks_sum f [] qs same z k = looked_empty f qs z k
looks_sum f (p ∷ ps) [] same z k = absurd k
looks_sum f (p ∷ ps) (q ∷ qs) same z k =
    let a = ap f k.0.1.0 in
    let b = same p.account q.account.seen q.account.looks in
    let r = looks_sum f ps qs same z k.1 in
    omega arith

looks_sums : (h : ℕ → ℕ) (ps qs : List Part) → OnlyLooks ps qs → (pushed_by h qs ≡ pushed_by h ps) × (taken_by h qs ≡ taken_by h ps)
looks_sums h ps qs k = (
  looks_sum (λ a. weigh_pushes h a.pushed) ps qs (λ a n m. refl) (λ p new. ap (λ (x : Account). weigh_pushes h x.pushed) new.0) k,
  looks_sum (λ a. weigh_walks h a.taken) ps qs (λ a n m. refl) (λ p new. ap (λ (x : Account). weigh_walks h x.taken) new.0) k,
)

one_push : (h : ℕ → ℕ) (x : ℕ) (p q : Part) → PushedIn x p q → (pushed_in h q ≡ pushed_in h p + h x) × (taken_in h q ≡ taken_in h p)
one_push h x p q here =
    let a = ap (λ (z : Account). weigh_pushes h z.pushed) here.1.3 in
    let b = ap (λ (z : Account). weigh_walks h z.taken) here.1.3 in
    let c = weigh_pushes-append h p.account.pushed (push here.1.0 here.1.1 x ∷ []) in
    (omega arith, omega arith)

one_sums : (h : ℕ → ℕ) (x : ℕ) (ps qs : List Part) → OneOf (PushedIn x) ps qs → (pushed_by h qs ≡ pushed_by h ps + h x) × (taken_by h qs ≡ taken_by h ps)
one_sums h x [] qs o = absurd o
one_sums h x (p ∷ ps) [] o = absurd o
one_sums h x (p ∷ ps) (q ∷ qs) o = ⊎_elim
    (λ (here : PushedIn x p q × (ps ≡ qs)).
    let a = (one_push h x p q here.0).0 in
    let b = (one_push h x p q here.0).1 in
    let d = ap (pushed_by h) here.1 in
    let e = ap (taken_by h) here.1 in
    (omega arith, omega arith))
    (λ (there : PassedIn p q × OneOf (PushedIn x) ps qs).
    let a = ap (λ (z : Account). weigh_pushes h z.pushed) there.0.0.1.0.0 in
    let b = ap (λ (z : Account). weigh_walks h z.taken) there.0.0.1.0.0 in
    let r = one_sums h x ps qs there.1 in
    let c = r.0 in
    let d = r.1 in
    (omega arith, omega arith))
    o

last_sums : (h : ℕ → ℕ) (x : ℕ) (ps rs : List Part) → LastMet (PushedIn x) ps rs → (pushed_by h rs ≡ pushed_by h ps + h x) × (taken_by h rs ≡ taken_by h ps)
last_sums h x ps rs last =
    let qs = last.0 in
    let p = last.1 in
    let q = last.2 in
    let k = looks_sums h ps qs (met_looks (PushedIn x) ps rs last) in
    let a = k.0 in
    let b = k.1 in
    let c = (one_push h x p q last.5).0 in
    let d = (one_push h x p q last.5).1 in
    let e = ap (λ (z : Account). weigh_pushes h z.pushed) last.4 in
    let f = ap (λ (z : Account). weigh_walks h z.taken) last.4 in
    let g = ap (pushed_by h) last.6 in
    let i = ap (taken_by h) last.6 in
    let m = sum_both (pushed_in h) qs (q ∷ []) in
    let n = sum_both (taken_in h) qs (q ∷ []) in
    (omega arith, omega arith)

-- a push adds its value
pub pushed_sums : (h : ℕ → ℕ) (x : ℕ) (ps rs : List Part) → PushedByTries x ps rs → (pushed_by h rs ≡ pushed_by h ps + h x) × (taken_by h rs ≡ taken_by h ps)
pushed_sums h x ps rs tries =
    let t = tries_look x ps rs tries in
    let k = looks_sums h ps t.0 t.1 in
    let a = k.0 in
    let b = k.1 in
    let r = ⊎_elim (one_sums h x t.0 rs) (last_sums h x t.0 rs) t.2 in
    let c = r.0 in
    let d = r.1 in
    (omega arith, omega arith)

-- a claim that finds a turn held changes nothing
first_sums : (h : ℕ → ℕ) (ps rs : List Part) → FirstHeld ps rs → (pushed_by h rs ≡ pushed_by h ps) × (taken_by h rs ≡ taken_by h ps)
first_sums h [] rs f = absurd f
first_sums h (p ∷ ps) [] f = absurd f
first_sums h (p ∷ ps) (r ∷ rs) f =
    let a = ap (λ (z : Account). weigh_pushes h z.pushed) f.0.1 in
    let b = ap (λ (z : Account). weigh_walks h z.taken) f.0.1 in
    let c = ap (pushed_by h) f.1 in
    let d = ap (taken_by h) f.1 in
    (omega arith, omega arith)

pub held_sums : (h : ℕ → ℕ) (ps rs : List Part) → FoundHeld ps rs → (pushed_by h rs ≡ pushed_by h ps) × (taken_by h rs ≡ taken_by h ps)
held_sums h ps rs (qs, k, f) =
    let a = (keeps_sums h ps qs k).0 in
    let b = (keeps_sums h ps qs k).1 in
    let c = (first_sums h qs rs f).0 in
    let d = (first_sums h qs rs f).1 in
    (omega arith, omega arith)

-- a clear adds what it took
pub took_all_sums : (h : ℕ → ℕ) (ps : List Part) (walks : List Walk) (rs : List Part) → TookAll ps walks rs → (pushed_by h rs ≡ pushed_by h ps) × (taken_by h rs ≡ taken_by h ps + weigh_walks h walks)
took_all_sums h ps walks rs (qs, k, n, t) =
    let a = keeps_sums h ps qs k in
    let b = took_sums h qs walks rs t in
    let c = a.0 in let d = a.1 in let e = b.0 in let f = b.1 in
    (omega arith, omega arith)

-- a pen that joins another has the multisets of both
pub joined_sums : (h : ℕ → ℕ) (ps qs : List Part) → (pushed_by h (joined_parts ps qs) ≡ pushed_by h ps + pushed_by h qs) × (taken_by h (joined_parts ps qs) ≡ taken_by h ps + taken_by h qs)
joined_sums h [] qs = (omega arith, omega arith)
joined_sums h (p ∷ ps) [] = (omega arith, omega arith)
joined_sums h (p ∷ ps) (q ∷ qs) =
    let a = weigh_pushes-append h p.account.pushed q.account.pushed in
    let b = weigh_walks-both h p.account.taken q.account.taken in
    let r = joined_sums h ps qs in
    let c = r.0 in
    let d = r.1 in
    (omega arith, omega arith)
