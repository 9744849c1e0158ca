-- What `settle` returns.
use Rattle.std.proofs.Common.{◌≡◌, ℕ, zero, suc, ◌+◌, ◌*◌, ◌<◌, ◌≤◌, List, [], ◌∷◌, ◌++◌, length, map, get_or, set, refl, sym, ap, subst, ◌∙◌, arith, append_assoc}
use Rattle.std.specs.Prelude.{vec_capacity}
use Rattle.std.specs.Global.{Vec}
use Rattle.std.specs.List.{All, FoldsTo}
use Rattle.std.proofs.lemmas.List.Elements.{All-nil, All-cons, All-head, All-tail}
use mathlib.Core.List.{map-append}
use Rattle.metrics.specs.Book.{joined_lists, blocks}
use Rattle.metrics_bucket.specs.declared.view.Walk.{Walk}
use Rattle.metrics_bucket.specs.Account.{Account, refused_more, took_account}
use Rattle.metrics_bucket.specs.Blocks.{newest_first, valued}
use Rattle.metrics_bucket.specs.Facts.{weigh, weigh_pushes, weigh_walks}
use Rattle.metrics_bucket.specs.Gathers.{Gathers}
use Rattle.metrics_bucket.specs.Spares.{WithSpares}
use Rattle.metrics_bucket.specs.Steps.{count_all}
use Rattle.metrics_bucket.proofs.Blocks.{weigh_blocks, length_map}
use Rattle.metrics_bucket.proofs.Gathers.{gathers_fold}
use Rattle.metrics_bucket.proofs.Shares.{weigh_walks-both}
use Rattle.metrics_bucket.proofs.Sums.{weigh-append}
use Rattle.metrics_growing.specs.Parts.{Part, IsNew, IsWhole, Keeps, EachOf, ChangedAt, SpareIn, WaitedAndTakenIn, Took, Gathered, all_chunks, all_blocks}
use Rattle.metrics_growing.specs.Bags.{sum_of, places_in, pushed_by, taken_by, first_weight, IsBalanced, Settled}
use Rattle.metrics_growing.proofs.Chains.{weigh_one}

-- spare pens that are joined, some at a time
spare_same : (p : Part) → SpareIn p p
spare_same p = let e : p.account.weight + 8 * 0 ≡ p.account.weight = omega arith in (refl, (0, sym (ap (λ (w : ℕ). record p.account { weight = w }) e)))

spare_trans : (p q r : Part) → SpareIn p q → SpareIn q r → SpareIn p r
spare_trans p q r (e, (j, f)) (d, (k, g)) =
    let w : p.account.weight + 8 * j + 8 * k ≡ p.account.weight + 8 * (j + k) = omega arith in
    (d ∙ e, (j + k, g ∙ (ap (λ (a : Account). record a { weight = a.weight + 8 * k }) f ∙ ap (λ (x : ℕ). record p.account { weight = x }) w)))

pub each_same : (ps : List Part) → EachOf SpareIn ps ps
each_same [] = tt
each_same (p ∷ ps) = (spare_same p, each_same ps)

each_set : (ps qs : List Part) (at : ℕ) (q r : Part) → EachOf SpareIn ps qs → q ≡ get_or qs at q → SpareIn q r → EachOf SpareIn ps (set qs at r)
each_set [] [] at q r a e s = tt
each_set [] (x ∷ qs) at q r a e s = absurd a
each_set (p ∷ ps) [] at q r a e s = absurd a
each_set (p ∷ ps) (x ∷ qs) zero q r a e s = (spare_trans p x r a.0 (subst (λ (z : Part). SpareIn z r) e s), a.1)
each_set (p ∷ ps) (x ∷ qs) (suc at) q r a e s = (a.0, each_set ps qs at q r a.1 e s)

pub each_changed : (ps qs rs : List Part) (at : ℕ) → EachOf SpareIn ps qs → ChangedAt SpareIn at qs rs → EachOf SpareIn ps rs
each_changed ps qs rs at a (q, r, e, s, is) = subst (EachOf SpareIn ps) (sym is) (each_set ps qs at q r a e s)

-- numbers that stay
pub sum_both : (f : Part → ℕ) (ps qs : List Part) → sum_of f (ps ++ qs) ≡ sum_of f ps + sum_of f qs
sum_both f [] qs = omega arith
sum_both f (p ∷ ps) qs = let r = sum_both f ps qs in omega arith

new_empty : (f : Account → ℕ) (ps : List Part) → ((p : Part) → IsNew p → f p.account ≡ 0) → All IsNew ps → sum_of (λ p. f p.account) ps ≡ 0
new_empty f [] z a = refl
new_empty f (p ∷ ps) z a = let e = z p (All-head IsNew p ps a) in let r = new_empty f ps z (All-tail IsNew p ps a) in omega arith

pub keeps_sum : (f : Account → ℕ) (ps qs : List Part) → ((p : Part) → IsNew p → f p.account ≡ 0) → Keeps ps qs → sum_of (λ p. f p.account) qs ≡ sum_of (λ p. f p.account) ps
keeps_sum f ps qs z (more, e, new) =
    let a = ap (sum_of (λ (p : Part). f p.account)) e in
    let b = sum_both (λ p. f p.account) ps more in
    let c = new_empty f more z new in
    omega arith

each_sum : (f : Account → ℕ) → ((a b : Account) → WithSpares a b → f b ≡ f a) → (ps qs : List Part) → EachOf SpareIn ps qs → sum_of (λ p. f p.account) qs ≡ sum_of (λ p. f p.account) ps
each_sum f s [] [] a = refl
each_sum f s [] (q ∷ qs) a = absurd a
each_sum f s (p ∷ ps) [] a = absurd a
each_sum f s (p ∷ ps) (q ∷ qs) a = let e = s p.account q.account a.0.1 in let r = each_sum f s ps qs a.1 in omega arith

-- what was pushed and taken, before and after
pub gathered_sums : (h : ℕ → ℕ) (ps rs : List Part) → Gathered ps rs → (pushed_by h rs ≡ pushed_by h ps) × (taken_by h rs ≡ taken_by h ps)
gathered_sums h ps rs (qs, k, a) = (
  each_sum (λ a. weigh_pushes h a.pushed) (λ a b s. ap (λ (x : Account). weigh_pushes h x.pushed) s.1) qs rs a ∙ keeps_sum (λ a. weigh_pushes h a.pushed) ps qs (λ p new. ap (λ (x : Account). weigh_pushes h x.pushed) new) k,
  each_sum (λ a. weigh_walks h a.taken) (λ a b s. ap (λ (x : Account). weigh_walks h x.taken) s.1) qs rs a ∙ keeps_sum (λ a. weigh_walks h a.taken) ps qs (λ p new. ap (λ (x : Account). weigh_walks h x.taken) new) k,
)

-- the account after some claims that found the turn held, and a walk
account_took : (p r : Part) (walk : Walk) → WaitedAndTakenIn walk p r → (n : ℕ) × (r.account ≡ took_account (refused_more p.account n) walk)
account_took p r walk (w, (link, n, waited), taken) = (n, taken.1.0 ∙ ap (λ (a : Account). took_account a walk) waited)

pub took_sums : (h : ℕ → ℕ) (ps : List Part) (walks : List Walk) (rs : List Part) → Took ps walks rs → (pushed_by h rs ≡ pushed_by h ps) × (taken_by h rs ≡ taken_by h ps + weigh_walks h walks)
took_sums h ps [] rs t = (ap (pushed_by h) (sym t), (let e = ap (taken_by h) (sym t) in omega arith))
took_sums h [] (w ∷ walks) rs t = absurd t
took_sums h (p ∷ ps) (w ∷ walks) [] t = absurd t
took_sums h (p ∷ ps) (w ∷ walks) (r ∷ rs) t =
    let e = account_took p r w t.0 in
    let a = ap (λ (x : Account). weigh_pushes h x.pushed) e.1 in
    let b = ap (λ (x : Account). weigh_walks h x.taken) e.1 in
    let c = weigh_walks-both h p.account.taken (w ∷ []) in
    let s = took_sums h ps walks rs t.1 in
    let d = s.0 in
    let f = s.1 in
    (omega arith, omega arith)

-- a clear leaves the segments as large as they were
pub took_places : (ps : List Part) (walks : List Walk) (rs : List Part) → Took ps walks rs → sum_of places_in rs ≡ sum_of places_in ps
took_places ps [] rs t = ap (sum_of places_in) (sym t)
took_places [] (w ∷ walks) rs t = absurd t
took_places (p ∷ ps) (w ∷ walks) [] t = absurd t
took_places (p ∷ ps) (w ∷ walks) (r ∷ rs) t =
    let a = ap (λ (x : Account). x.home.places) (account_took p r w t.0).1 in
    let s = took_places ps walks rs t.1 in
    omega arith

took_whole : (ps : List Part) (walks : List Walk) (rs : List Part) → Took ps walks rs → length walks ≡ length ps → All IsWhole ps → All IsWhole rs × All IsBalanced rs
took_whole [] [] rs t n a = (subst (All IsWhole) t a, subst (All IsBalanced) t (All-nil IsBalanced))
took_whole (p ∷ ps) [] rs t n a = absurd (omega arith)
took_whole [] (w ∷ walks) rs t n a = absurd t
took_whole (p ∷ ps) (w ∷ walks) [] t n a = absurd t
took_whole (p ∷ ps) (w ∷ walks) (r ∷ rs) t n a =
    let heavy : p.account.weight ≡ 1024 = All-head IsWhole p ps a in
    let rest = took_whole ps walks rs t.1 (omega arith) (All-tail IsWhole p ps a) in
    let e = account_took p r w t.0 in
    let waited = ap (λ (x : Account). x.weight) t.0.1.2 in
    (All-cons IsWhole r rs (ap (λ (x : Account). x.weight) e.1 ∙ heavy) rest.0, All-cons IsBalanced r rs (t.0.2.1.2 (waited ∙ heavy)) rest.1)

pub first_whole : (ps : List Part) → 0 < length ps → All IsWhole ps → first_weight ps ≡ 1024
first_whole [] l a = absurd (omega arith)
first_whole (p ∷ ps) l a = All-head IsWhole p ps a

balanced_sum : (h : ℕ → ℕ) (ps : List Part) → All IsBalanced ps → pushed_by h ps ≡ taken_by h ps
balanced_sum h [] a = refl
balanced_sum h (p ∷ ps) a = let e = All-head IsBalanced p ps a h in let r = balanced_sum h ps (All-tail IsBalanced p ps a) in omega arith

pub weigh_all : (h : ℕ → ℕ) (walks : List Walk) → weigh h (all_blocks walks) ≡ weigh_walks h walks
weigh_all h [] = refl
weigh_all h (w ∷ walks) = let a = weigh-append h (blocks w.values) (all_blocks walks) in let b = weigh_blocks h w.values in let r = weigh_all h walks in omega arith

length_all : (walks : List Walk) → length (all_blocks walks) ≡ count_all walks
length_all walks = sym (weigh_one (all_blocks walks)) ∙ weigh_all (λ _. 1) walks

-- the chunks that are gathered
joined_both : {A : Type 0} (xss yss : List (List A)) → joined_lists (xss ++ yss) ≡ joined_lists xss ++ joined_lists yss
joined_both [] yss = refl
joined_both (xs ∷ xss) yss = ap (λ (zs : List _). xs ++ zs) (joined_both xss yss) ∙ sym (append_assoc xs (joined_lists xss) (joined_lists yss))

joined_valued : {T : Type 0} (f : ℕ → T) (xss : List (List ℕ)) → joined_lists (valued f xss) ≡ map f (joined_lists xss)
joined_valued f [] = refl
joined_valued {T} f (xs ∷ xss) = ap (λ (zs : List T). map f xs ++ zs) (joined_valued f xss) ∙ sym (map-append f xs (joined_lists xss))

pub joined_all : (walks : List Walk) → joined_lists (all_chunks walks) ≡ all_blocks walks
joined_all [] = refl
joined_all (w ∷ walks) = joined_both (newest_first w.values) (all_chunks walks) ∙ ap (λ (xs : List ℕ). blocks w.values ++ xs) (joined_all walks)

pub all_gathered : {T : Type 0} (f : ℕ → T) (walks : List Walk) (v w : Vec T) → v.items ≡ [] → count_all walks ≤ vec_capacity v → FoldsTo Gathers v (valued f (all_chunks walks)) w → w.items ≡ map f (all_blocks walks)
all_gathered {T} f walks v w none room folds =
    let is : joined_lists (valued f (all_chunks walks)) ≡ map f (all_blocks walks) = joined_valued f (all_chunks walks) ∙ ap (map f) (joined_all walks) in
    let a : length (joined_lists (valued f (all_chunks walks))) ≡ length (map f (all_blocks walks)) = ap (λ (l : List T). length l) is in
    let b = length_map f (all_blocks walks) in
    let c = length_all walks in
    let d : length v.items ≡ 0 = ap (λ (l : List T). length l) none in
    gathers_fold (valued f (all_chunks walks)) v w folds (omega arith) ∙ (ap (λ (l : List T). l ++ joined_lists (valued f (all_chunks walks))) none ∙ is)

pub settles : {T : Type 0} (value : ℕ → T) (old parts new : List Part) (walks : List Walk) (given : List T) → Gathered old parts → All IsWhole parts → length walks ≡ length parts → Took parts walks new → given ≡ map value (all_blocks walks) → Settled value old new given
settles value old parts new walks given g heavy n t is =
    let w = took_whole parts walks new t n heavy in
    record {
      parts = parts;
      walks = walks;
      gathered = g;
      one_a_part = n;
      took = t;
      values = is;
      whole = w.0;
      balanced = w.1;
      nothing_lost = λ h.
          let a = (gathered_sums h old parts g).0 in
          let b = (gathered_sums h old parts g).1 in
          let c = (took_sums h parts walks new t).0 in
          let d = (took_sums h parts walks new t).1 in
          let e = balanced_sum h new w.1 in
          let k = weigh_all h walks in
          omega arith;
    }
