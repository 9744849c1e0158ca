-- The parts of a pen against the names of the links, and what calls do to them.
use Rattle.std.proofs.Common.{◌≡◌, ◌≢◌, ◌⊎◌, ℕ, zero, suc, ◌+◌, ◌<◌, ◌≤◌, List, [], ◌∷◌, ◌++◌, length, take, map, get_or, set, refl, sym, ap, subst, ◌∙◌, inl, inr, ⊎_elim, arith, append-nil, append_assoc}
use Rattle.std.proofs.lemmas.List.{length-set, length_push}
use Rattle.std.proofs.lemmas.List.Elements.{All-nil, All-cons, All-push, All-head, All-tail}
use Rattle.std.specs.List.{All, FoldsTo}
use Rattle.std.specs.Prelude.{Result, Ok, Err, IfOk, IfErr}
use Rattle.metrics.specs.declared.error.Error.{Error}
use Rattle.metrics.specs.declared.error.Error.TheVariants.{Full, Raced, Memory, NoPen}
use Rattle.metrics_bucket.specs.declared.view.Walk.{Walk}
use Rattle.metrics_bucket.specs.Account.{Home, Account, looked_at}
use Rattle.metrics_bucket.specs.Spares.{spare_account}
use Rattle.metrics_bucket.specs.Blocks.{newest_first}
use Rattle.metrics_bucket.specs.Steps.{count_all}
use Rattle.metrics_growing.specs.Parts.{Part, link_of, home_of, IsOf, IsNew, IsPassed, LookedIn, LookedAnewIn, PassedIn, HasOnlyLooked, OnlyLooks, IsMetAndPassed, PassedAll, Keeps, OneOf, LastMet, FirstOf, ChangedAt, LostIn, Pushed, LosesRace, LosesRaces, PushedByTries, MetOne, Reached, TakenIn, HeldIn, WaitedIn, WaitedAndTakenIn, FirstHeld, Took, all_chunks, joined_part, joined_parts}
use Rattle.metrics_growing.specs.Bags.{sum_of, places_in, first_weight}

abbrev head_of : List ℕ → ℕ
head_of [] = 0
head_of (x ∷ xs) = x

abbrev tail_of : List ℕ → List ℕ
tail_of [] = []
tail_of (x ∷ xs) = xs

abbrev is_cons : List ℕ → ℕ
is_cons [] = 0
is_cons (x ∷ xs) = 1

-- there are no more parts than links
pub few_parts : (links : List ℕ) (ps : List Part) → IsOf links ps → length ps ≤ length links
few_parts links [] e = omega arith
few_parts [] (p ∷ ps) e = let n = ap is_cons e in absurd (omega arith)
few_parts (l ∷ links) (p ∷ ps) e = let r = few_parts links ps (ap tail_of e) in omega arith

module _ {X : Type 0} (name : X → ℕ) where
  pub length_names : (links : List X) → length (map name links) ≡ length links
  length_names [] = refl
  length_names (l ∷ links) = ap suc (length_names links)

  -- part number at is of link number at
  pub seen : (links : List X) (ps : List Part) (at : ℕ) (l : X) (p : Part) → IsOf (map name links) ps → at < length ps → l ≡ get_or links at l → p ≡ get_or ps at p → p.link ≡ name l
  seen links [] at l p e is le pe = absurd (omega arith)
  seen [] (q ∷ ps) at l p e is le pe = let n = ap is_cons e in absurd (omega arith)
  seen (m ∷ links) (q ∷ ps) zero l p e is le pe = ap link_of pe ∙ (ap head_of e ∙ ap name (sym le))
  seen (m ∷ links) (q ∷ ps) (suc at) l p e is le pe = seen links ps at l p (ap tail_of e) (omega arith) le pe

  pub of_snoc : (links : List X) (ps : List Part) (l : X) (q : Part) → IsOf (map name links) ps → length ps < length links → l ≡ get_or links (length ps) l → q.link ≡ name l → IsOf (map name links) (ps ++ q ∷ [])
  of_snoc [] ps l q e is le qe = absurd (omega arith)
  of_snoc (m ∷ links) [] l q e is le qe = ap (λ (x : ℕ). x ∷ []) (qe ∙ ap name le)
  of_snoc (m ∷ links) (r ∷ ps) l q e is le qe = let t = of_snoc links ps l q (ap tail_of e) (omega arith) le qe in λ i. ap head_of e i ∷ t i

pub links_set : (ps : List Part) (at : ℕ) (p q : Part) → p ≡ get_or ps at p → q.link ≡ p.link → map link_of (set ps at q) ≡ map link_of ps
links_set [] at p q pe qe = refl
links_set (r ∷ ps) zero p q pe qe = ap (λ (x : ℕ). x ∷ map link_of ps) (qe ∙ ap link_of pe)
links_set (r ∷ ps) (suc at) p q pe qe = ap (λ (xs : List ℕ). r.link ∷ xs) (links_set ps at p q pe qe)

pub of_set : (links : List ℕ) (ps : List Part) (at : ℕ) (p q : Part) → IsOf links ps → p ≡ get_or ps at p → q.link ≡ p.link → IsOf links (set ps at q)
of_set links ps at p q e pe qe = links_set ps at p q pe qe ∙ (e ∙ ap (λ (n : ℕ). take n links) (sym (length-set ps at q)))

pub homes_set : (ps : List Part) (at : ℕ) (p q : Part) → p ≡ get_or ps at p → home_of q ≡ home_of p → map home_of (set ps at q) ≡ map home_of ps
homes_set [] at p q pe qe = refl
homes_set (r ∷ ps) zero p q pe qe = ap (λ (x : Home). x ∷ map home_of ps) (qe ∙ ap home_of pe)
homes_set (r ∷ ps) (suc at) p q pe qe = ap (λ (xs : List Home). home_of r ∷ xs) (homes_set ps at p q pe qe)

-- what is done to a pen
pub keeps_same : (ps : List Part) → Keeps ps ps
keeps_same ps = ([], sym (append-nil ps), All-nil IsNew)

-- parts in which a pen looked
looked_same : (p : Part) → LookedIn p p
looked_same p = (refl, (refl, omega arith))

looked_trans : (p q r : Part) → LookedIn p q → LookedIn q r → LookedIn p r
looked_trans p q r a b =
    let l = a.1.1 in
    let m = b.1.1 in
    (b.0 ∙ a.0, (b.1.0 ∙ ap (λ (x : Account). looked_at x r.account.seen r.account.looks) a.1.0, omega arith))

anew : (p q : Part) → LookedAnewIn p q → LookedIn p q
anew p q a = (a.0, a.1.0)

new_looks : (p : Part) → IsNew p → HasOnlyLooked p
new_looks p new =
    let seen = sym (ap (λ (x : Account). x.seen) new) in
    let looks = sym (ap (λ (x : Account). x.looks) new) in
    (new ∙ (λ i. looked_at (spare_account p.account.home) (seen i) (looks i)), omega arith)

looks_on : (p q : Part) → HasOnlyLooked p → LookedIn p q → HasOnlyLooked q
looks_on p q old look = (
  look.1.0 ∙ (ap (λ (x : Account). looked_at x q.account.seen q.account.looks) old.0 ∙ ap (λ (h : Home). looked_at (spare_account h) q.account.seen q.account.looks) (sym (ap (λ (x : Account). x.home) look.1.0))),
  omega arith,
)

looks_same : (ps : List Part) → OnlyLooks ps ps
looks_same [] = All-nil HasOnlyLooked
looks_same (p ∷ ps) = (looked_same p, looks_same ps)

looks_all : (qs rs : List Part) → All HasOnlyLooked qs → OnlyLooks qs rs → All HasOnlyLooked rs
looks_all [] rs a k = k
looks_all (q ∷ qs) [] a k = absurd k
looks_all (q ∷ qs) (r ∷ rs) a k = All-cons HasOnlyLooked r rs (looks_on q r (All-head HasOnlyLooked q qs a) k.0) (looks_all qs rs (All-tail HasOnlyLooked q qs a) k.1)

pub looks_trans : (ps qs rs : List Part) → OnlyLooks ps qs → OnlyLooks qs rs → OnlyLooks ps rs
looks_trans [] qs rs a b = looks_all qs rs a b
looks_trans (p ∷ ps) [] rs a b = absurd a
looks_trans (p ∷ ps) (q ∷ qs) [] a b = absurd b
looks_trans (p ∷ ps) (q ∷ qs) (r ∷ rs) a b = (looked_trans p q r a.0 b.0, looks_trans ps qs rs a.1 b.1)

looks_met : (ps qs : List Part) (q : Part) → OnlyLooks ps qs → HasOnlyLooked q → OnlyLooks ps (qs ++ q ∷ [])
looks_met [] qs q k new = All-push HasOnlyLooked qs q k new
looks_met (p ∷ ps) [] q k new = absurd k
looks_met (p ∷ ps) (x ∷ qs) q k new = (k.0, looks_met ps qs q k.1 new)

raced_full : Raced ≡ Full → ⊥
raced_full e = cc

pub was_full : (e : Error) (A B : Type 0) → e ≡ Full → (((e ≡ Full) × A) ⊎ ((e ≡ Raced) × B)) → A
was_full e A B is r = ⊎_elim (λ (full : (e ≡ Full) × A). full.1) (λ (raced : (e ≡ Raced) × B). absurd (raced_full (sym raced.0 ∙ is))) r

pub was_raced : (e : Error) (A B : Type 0) → e ≡ Raced → (((e ≡ Full) × A) ⊎ ((e ≡ Raced) × B)) → B
was_raced e A B is r = ⊎_elim (λ (full : (e ≡ Full) × A). absurd (raced_full (sym is ∙ full.0))) (λ (raced : (e ≡ Raced) × B). raced.1) r

pub changed_either : (at : ℕ) (ps : List Part) (p q : Part) (A B : Type 0) → p ≡ get_or ps at p → ((A × PassedIn p q) ⊎ (B × LostIn p q)) → (A × ChangedAt PassedIn at ps (set ps at q)) ⊎ (B × ChangedAt LostIn at ps (set ps at q))
changed_either at ps p q A B e r = ⊎_elim (λ (full : A × PassedIn p q). inl (full.0, (p, q, e, full.1, refl))) (λ (raced : B × LostIn p q). inr (raced.0, (p, q, e, raced.1, refl))) r

-- what a push reaches, and what it does there
pub reached_in : (at : ℕ) (ps qs : List Part) → Reached at ps qs → at < length qs
reached_in at ps qs r = ⊎_elim
    (λ (known : (at < length ps) × (qs ≡ ps)). let n = ap (λ (zs : List Part). length zs) known.1 in omega arith)
    (λ (next : (at ≡ length ps) × MetOne ps qs). let n = ap (λ (zs : List Part). length zs) next.1.1 in let m = length_push ps next.1.0 in omega arith)
    r

-- how far a push has come: so many parts are passed, and after them none changed and none was met
abbrev pub Came : ℕ → List Part → List Part → Type 0
Came zero ps qs = ps ≡ qs
Came (suc at) [] [] = ⊥
Came (suc at) [] (q ∷ qs) = IsMetAndPassed q × Came at [] qs
Came (suc at) (p ∷ ps) [] = ⊥
Came (suc at) (p ∷ ps) (q ∷ qs) = PassedIn p q × Came at ps qs

-- once all that was known is passed, there is no part after
came_less : (at : ℕ) (qs : List Part) → Came at [] qs → at < length qs → ⊥
came_less zero qs c l = let n = ap (λ (zs : List Part). length zs) c in omega arith
came_less (suc at) [] c l = c
came_less (suc at) (q ∷ qs) c l = came_less at qs c.1 (omega arith)

pub came_passed : (at : ℕ) (ps qs : List Part) → Came at ps qs → length qs ≤ at → All IsPassed qs
came_passed zero ps [] c l = All-nil IsPassed
came_passed zero ps (q ∷ qs) c l = absurd (omega arith)
came_passed (suc at) [] [] c l = absurd c
came_passed (suc at) [] (q ∷ qs) c l = All-cons IsPassed q qs c.0.1 (came_passed at [] qs c.1 (omega arith))
came_passed (suc at) (p ∷ ps) [] c l = absurd c
came_passed (suc at) (p ∷ ps) (q ∷ qs) c l = All-cons IsPassed q qs c.0.1 (came_passed at ps qs c.1 (omega arith))

came_all : (at : ℕ) (ps qs : List Part) → Came at ps qs → length qs ≤ at → PassedAll ps qs
came_all zero [] [] c l = All-nil IsMetAndPassed
came_all zero (p ∷ ps) [] c l = let n = ap (λ (zs : List Part). length zs) c in absurd (omega arith)
came_all zero ps (q ∷ qs) c l = absurd (omega arith)
came_all (suc at) [] [] c l = absurd c
came_all (suc at) [] (q ∷ qs) c l = All-cons IsMetAndPassed q qs c.0 (came_all at [] qs c.1 (omega arith))
came_all (suc at) (p ∷ ps) [] c l = absurd c
came_all (suc at) (p ∷ ps) (q ∷ qs) c l = (c.0, came_all at ps qs c.1 (omega arith))

-- parts that are all passed
all_looks : (ps qs : List Part) → PassedAll ps qs → OnlyLooks ps qs
all_looks [] [] a = All-nil HasOnlyLooked
all_looks [] (q ∷ qs) a = All-cons HasOnlyLooked q qs (All-head IsMetAndPassed q qs a).0 (all_looks [] qs (All-tail IsMetAndPassed q qs a))
all_looks (p ∷ ps) [] a = absurd a
all_looks (p ∷ ps) (q ∷ qs) a = (anew p q a.0.0, all_looks ps qs a.1)

passed_on : (p q r : Part) → LookedIn p q → PassedIn q r → PassedIn p r
passed_on p q r a b =
    let l = a.1.1 in
    let m = b.0.1.1 in
    let t = looked_trans p q r a (anew q r b.0) in
    ((t.0, (t.1, omega arith)), b.1)

passed_new : (qs rs : List Part) → All HasOnlyLooked qs → PassedAll qs rs → All IsMetAndPassed rs
passed_new [] rs a b = b
passed_new (q ∷ qs) [] a b = absurd b
passed_new (q ∷ qs) (r ∷ rs) a b =
    All-cons IsMetAndPassed r rs (looks_on q r (All-head HasOnlyLooked q qs a) (anew q r b.0.0), b.0.1) (passed_new qs rs (All-tail HasOnlyLooked q qs a) b.1)

pub passed_trans : (ps qs rs : List Part) → OnlyLooks ps qs → PassedAll qs rs → PassedAll ps rs
passed_trans [] qs rs a b = passed_new qs rs a b
passed_trans (p ∷ ps) [] rs a b = absurd a
passed_trans (p ∷ ps) (q ∷ qs) [] a b = absurd b
passed_trans (p ∷ ps) (q ∷ qs) (r ∷ rs) a b = (passed_on p q r a.0 b.0, passed_trans ps qs rs a.1 b.1)

-- one part more is passed: one that was known, or one that was met
came_on : (at : ℕ) (ps qs : List Part) (p q : Part) → Came at ps qs → at < length qs → p ≡ get_or qs at p → PassedIn p q → Came (suc at) ps (set qs at q)
came_on zero ps [] p q c l e pass = absurd (omega arith)
came_on zero ps (x ∷ qs) p q c l e pass = subst (λ (zs : List Part). Came 1 zs (q ∷ qs)) (sym c) (subst (λ (z : Part). PassedIn z q) e pass, refl)
came_on (suc at) [] [] p q c l e pass = absurd c
came_on (suc at) [] (x ∷ qs) p q c l e pass = absurd (came_less at qs c.1 (omega arith))
came_on (suc at) (y ∷ ps) [] p q c l e pass = absurd c
came_on (suc at) (y ∷ ps) (x ∷ qs) p q c l e pass = (c.0, came_on at ps qs p q c.1 (omega arith) e pass)

came_met : (at : ℕ) (ps qs : List Part) (q : Part) → Came at ps qs → at ≡ length qs → IsMetAndPassed q → Came (suc at) ps (qs ++ q ∷ [])
came_met zero ps [] q c n pass = subst (λ (zs : List Part). Came 1 zs (q ∷ [])) (sym c) (pass, refl)
came_met zero ps (x ∷ qs) q c n pass = absurd (omega arith)
came_met (suc at) [] [] q c n pass = absurd c
came_met (suc at) [] (x ∷ qs) q c n pass = (c.0, came_met at [] qs q c.1 (omega arith) pass)
came_met (suc at) (y ∷ ps) [] q c n pass = absurd c
came_met (suc at) (y ∷ ps) (x ∷ qs) q c n pass = (c.0, came_met at ps qs q c.1 (omega arith) pass)

get_last : (ps : List Part) (p d : Part) → get_or (ps ++ p ∷ []) (length ps) d ≡ p
get_last [] p d = refl
get_last (x ∷ ps) p d = get_last ps p d

set_last : (ps : List Part) (p q : Part) → set (ps ++ p ∷ []) (length ps) q ≡ ps ++ q ∷ []
set_last [] p q = refl
set_last (x ∷ ps) p q = ap (λ (zs : List Part). x ∷ zs) (set_last ps p q)

-- the part that was met, before and after
met_changed : (R : Part → Part → Type 0) (at : ℕ) (qs us rs : List Part) → at ≡ length qs → MetOne qs us → ChangedAt R at us rs → (p q : Part) × IsNew p × R p q × (rs ≡ qs ++ q ∷ [])
met_changed R at qs us rs n (y, m, new) (p, q, e, r, is) =
    let same : p ≡ y = e ∙ (ap (λ (zs : List Part). get_or zs at p) m ∙ (ap (λ (i : ℕ). get_or (qs ++ y ∷ []) i p) n ∙ get_last qs y p)) in
    (p, q, subst IsNew (sym same) new, r, is ∙ (ap (λ (zs : List Part). set zs at q) m ∙ (ap (λ (i : ℕ). set (qs ++ y ∷ []) i q) n ∙ set_last qs y q)))

pub came_next : (at : ℕ) (ps qs us rs : List Part) → Came at ps qs → Reached at qs us → ChangedAt PassedIn at us rs → Came (at + 1) ps rs
came_next at ps qs us rs c r (p, q, e, pass, is) =
    let next : suc at ≡ at + 1 = omega arith in
    subst (λ (n : ℕ). Came n ps rs) next (⊎_elim
    (λ (known : (at < length qs) × (us ≡ qs)).
    subst (Came (suc at) ps) (sym (is ∙ ap (λ (zs : List Part). set zs at q) known.1)) (came_on at ps qs p q c known.0 (e ∙ ap (λ (zs : List Part). get_or zs at p) known.1) pass))
    (λ (next : (at ≡ length qs) × MetOne qs us).
    let m = met_changed PassedIn at qs us rs next.0 next.1 (p, q, e, pass, is) in
    subst (Came (suc at) ps) (sym m.4) (came_met at ps qs m.1 c next.0 (looks_on m.0 m.1 (new_looks m.0 m.2) (anew m.0 m.1 m.3.0), m.3.1)))
    r)

one_changed : (R : Part → Part → Type 0) (at : ℕ) (ps qs : List Part) (p q : Part) → Came at ps qs → at < length qs → p ≡ get_or qs at p → R p q → OneOf R ps (set qs at q)
one_changed R zero ps [] p q c l e r = absurd (omega arith)
one_changed R zero ps (x ∷ qs) p q c l e r = subst (λ (zs : List Part). OneOf R zs (q ∷ qs)) (sym c) (inl (subst (λ (z : Part). R z q) e r, refl))
one_changed R (suc at) [] [] p q c l e r = absurd c
one_changed R (suc at) [] (x ∷ qs) p q c l e r = absurd (came_less at qs c.1 (omega arith))
one_changed R (suc at) (y ∷ ps) [] p q c l e r = absurd c
one_changed R (suc at) (y ∷ ps) (x ∷ qs) p q c l e r = inr (c.0, one_changed R at ps qs p q c.1 (omega arith) e r)

pub first_changed : (R : Part → Part → Type 0) (at : ℕ) (ps qs us rs : List Part) → Came at ps qs → Reached at qs us → ChangedAt R at us rs → FirstOf R ps rs
first_changed R at ps qs us rs c r (p, q, e, done, is) = ⊎_elim
    (λ (known : (at < length qs) × (us ≡ qs)).
    inl (subst (OneOf R ps) (sym (is ∙ ap (λ (zs : List Part). set zs at q) known.1)) (one_changed R at ps qs p q c known.0 (e ∙ ap (λ (zs : List Part). get_or zs at p) known.1) done)))
    (λ (next : (at ≡ length qs) × MetOne qs us).
    let m = met_changed R at qs us rs next.0 next.1 (p, q, e, done, is) in
    inr (qs, m.0, m.1, came_all at ps qs c (omega arith), m.2, m.3, m.4))
    r

-- tries that lost a ticket, one after another
one_looks : (ps rs : List Part) → OneOf LostIn ps rs → OnlyLooks ps rs
one_looks [] rs o = absurd o
one_looks (p ∷ ps) [] o = absurd o
one_looks (p ∷ ps) (r ∷ rs) o = ⊎_elim
    (λ (here : LostIn p r × (ps ≡ rs)). (anew p r here.0.1, subst (OnlyLooks ps) here.1 (looks_same ps)))
    (λ (there : PassedIn p r × OneOf LostIn ps rs). (anew p r there.0.0, one_looks ps rs there.1))
    o

pub race_looks : (ps rs : List Part) → LosesRace ps rs → OnlyLooks ps rs
race_looks ps rs o = ⊎_elim
    (one_looks ps rs)
    (λ (last : LastMet LostIn ps rs).
    subst (OnlyLooks ps) (sym last.6) (looks_met ps last.0 last.2 (all_looks ps last.0 last.3) (looks_on last.1 last.2 (new_looks last.1 last.4) (anew last.1 last.2 last.5.1))))
    o

pub races_look : (n : ℕ) (ps rs : List Part) → LosesRaces n ps rs → OnlyLooks ps rs
races_look zero ps rs e = subst (OnlyLooks ps) (sym e) (looks_same ps)
races_look (suc n) ps rs (qs, some, one) = looks_trans ps qs rs (races_look n ps qs some) (race_looks qs rs one)

-- a push that finds no segment has passed all that it knows
pub stopped : (links : List ℕ) (at : ℕ) (ps qs rs : List Part) (e : Error) → Came at ps qs → length qs ≤ at → rs ≡ qs → ((e ≡ Memory) ⊎ ((e ≡ NoPen) × (length qs < length links)))
    → OnlyLooks ps rs × ((((e ≡ Memory) ⊎ ((e ≡ NoPen) × (length rs < length links))) × PassedAll ps rs) ⊎ ((e ≡ Raced) × LosesRace ps rs))
stopped links at ps qs rs e c low is why =
    let all = came_all at ps qs c low in
    subst (λ (zs : List Part). OnlyLooks ps zs × ((((e ≡ Memory) ⊎ ((e ≡ NoPen) × (length zs < length links))) × PassedAll ps zs) ⊎ ((e ≡ Raced) × LosesRace ps zs))) (sym is)
    (all_looks ps qs all, inl (why, all))

-- what a push does, by the looks before it, and where it pushes
pub tries_look : (x : ℕ) (ps rs : List Part) → PushedByTries x ps rs → (qs : List Part) × OnlyLooks ps qs × Pushed x qs rs
tries_look x ps rs (n, qs, lost, push) = (qs, races_look n ps qs lost, push)

pub met_looks : (R : Part → Part → Type 0) (ps rs : List Part) (last : LastMet R ps rs) → OnlyLooks ps last.0
met_looks R ps rs last = all_looks ps last.0 last.3

-- claims that found a turn held, before a walk is taken
waited_same : (p : Part) → WaitedIn p p
waited_same p = let e : p.account.refused + 0 ≡ p.account.refused = omega arith in (refl, 0, sym (ap (λ (n : ℕ). record p.account { refused = n }) e))

waited_more : (p q r : Part) → WaitedIn p q → HeldIn q r → WaitedIn p r
waited_more p q r (link, n, e) (link', f) =
    let s : p.account.refused + n + 1 ≡ p.account.refused + (n + 1) = omega arith in
    (link' ∙ link, n + 1, f ∙ (ap (λ (a : Account). record a { refused = a.refused + 1 }) e ∙ ap (λ (m : ℕ). record p.account { refused = m }) s))

set_twice : (ps : List Part) (at : ℕ) (p q : Part) → set (set ps at p) at q ≡ set ps at q
set_twice [] at p q = refl
set_twice (x ∷ ps) zero p q = refl
set_twice (x ∷ ps) (suc at) p q = ap (λ (zs : List Part). x ∷ zs) (set_twice ps at p q)

get_set : (ps : List Part) (at : ℕ) (p d : Part) → at < length ps → get_or (set ps at p) at d ≡ p
get_set [] at p d l = absurd (omega arith)
get_set (x ∷ ps) zero p d l = refl
get_set (x ∷ ps) (suc at) p d l = get_set ps at p d (omega arith)

-- two changes of one part, one after the other
changed_trans : (R S Q : Part → Part → Type 0) (at : ℕ) (ps qs rs : List Part) → ((p w q : Part) → R p w → S w q → Q p q) → at < length ps → ChangedAt R at ps qs → ChangedAt S at qs rs → ChangedAt Q at ps rs
changed_trans R S Q at ps qs rs both l (p, w, e, r, is) (v, q, f, s, so) =
    let same : v ≡ w = f ∙ (ap (λ (zs : List Part). get_or zs at v) is ∙ get_set ps at w v l) in
    (p, q, e, both p w q r (subst (λ (z : Part). S z q) same s), so ∙ (ap (λ (zs : List Part). set zs at q) is ∙ set_twice ps at w q))

changed_as : (R Q : Part → Part → Type 0) (at : ℕ) (ps qs : List Part) → ((p q : Part) → R p q → Q p q) → ChangedAt R at ps qs → ChangedAt Q at ps qs
changed_as R Q at ps qs so (p, q, e, r, is) = (p, q, e, so p q r, is)

-- a clear has waited for the turn of one part, or found it free at once
abbrev pub WaitedAt : ℕ → List Part → List Part → Type 0
WaitedAt at ps qs = (qs ≡ ps) ⊎ ChangedAt WaitedIn at ps qs

pub waits_more : (at : ℕ) (ps qs rs : List Part) → at < length ps → WaitedAt at ps qs → ChangedAt HeldIn at qs rs → WaitedAt at ps rs
waits_more at ps qs rs l w held = inr (⊎_elim
    (λ (same : qs ≡ ps). changed_as HeldIn WaitedIn at ps rs (λ p q h. waited_more p p q (waited_same p) h) (subst (λ (zs : List Part). ChangedAt HeldIn at zs rs) same held))
    (λ (waited : ChangedAt WaitedIn at ps qs). changed_trans WaitedIn HeldIn WaitedIn at ps qs rs waited_more l waited held)
    w)

pub waits_taken : (at : ℕ) (ps qs rs : List Part) (walk : Walk) → at < length ps → WaitedAt at ps qs → ChangedAt (TakenIn walk) at qs rs → ChangedAt (WaitedAndTakenIn walk) at ps rs
waits_taken at ps qs rs walk l w taken = ⊎_elim
    (λ (same : qs ≡ ps). changed_as (TakenIn walk) (WaitedAndTakenIn walk) at ps rs (λ p q t. (p, waited_same p, t)) (subst (λ (zs : List Part). ChangedAt (TakenIn walk) at zs rs) same taken))
    (λ (waited : ChangedAt WaitedIn at ps qs). changed_trans WaitedIn (TakenIn walk) (WaitedAndTakenIn walk) at ps qs rs (λ p w q r t. (w, r, t)) l waited taken)
    w

-- the turn of the first part was found held
pub held_first : (at : ℕ) (ps qs : List Part) → at ≡ 0 → 0 < length ps → ChangedAt HeldIn at ps qs → FirstHeld ps qs
held_first (suc at) ps qs z l c = absurd (omega arith)
held_first zero [] qs z l c = absurd (omega arith)
held_first zero (p ∷ ps) qs z l (v, q, e, h, is) = subst (FirstHeld (p ∷ ps)) (sym is) (subst (λ (y : Part). HeldIn y q) e h, refl)

-- one more walk is taken
took_set : (ps : List Part) (walks : List Walk) (rs : List Part) (at : ℕ) (walk : Walk) (p q : Part) → Took ps walks rs → at ≡ length walks → at < length ps → p ≡ get_or rs at p → WaitedAndTakenIn walk p q → Took ps (walks ++ walk ∷ []) (set rs at q)
took_set [] walks rs at walk p q t n l e is = absurd (omega arith)
took_set (x ∷ ps) [] rs at walk p q t n l e is =
    subst (λ (zs : List Part). Took (x ∷ ps) (walk ∷ []) (set zs at q)) t
    (subst (λ (k : ℕ). Took (x ∷ ps) (walk ∷ []) (set (x ∷ ps) k q)) (sym n) (subst (λ (z : Part). WaitedAndTakenIn walk z q) (here at n (e ∙ ap (λ (zs : List Part). get_or zs at p) (sym t))) is, refl))
  where
    here : (k : ℕ) → k ≡ 0 → p ≡ get_or (x ∷ ps) k p → p ≡ x
    here zero z f = f
    here (suc k) z f = absurd (omega arith)
took_set (x ∷ ps) (w ∷ walks) [] at walk p q t n l e is = absurd t
took_set (x ∷ ps) (w ∷ walks) (r ∷ rs) zero walk p q t n l e is = absurd (omega arith)
took_set (x ∷ ps) (w ∷ walks) (r ∷ rs) (suc at) walk p q t n l e is = (t.0, took_set ps walks rs at walk p q t.1 (omega arith) (omega arith) e is)

pub took_more : (ps : List Part) (walks : List Walk) (rs us : List Part) (at : ℕ) (walk : Walk) → Took ps walks rs → length walks ≡ at → at < length ps → ChangedAt (WaitedAndTakenIn walk) at rs us → Took ps (walks ++ walk ∷ []) us
took_more ps walks rs us at walk t n l (p, q, e, is, f) = subst (Took ps (walks ++ walk ∷ [])) (sym f) (took_set ps walks rs at walk p q t (sym n) l e is)

pub weigh_one : (xs : List ℕ) → Rattle.metrics_bucket.specs.Facts.weigh (λ _. 1) xs ≡ length xs
weigh_one [] = refl
weigh_one (x ∷ xs) = let r = weigh_one xs in omega arith

pub count_more : (walks : List Walk) (walk : Walk) → count_all (walks ++ walk ∷ []) ≡ count_all walks + length walk.values
count_more [] walk = let e = weigh_one walk.values in omega arith
count_more (w ∷ walks) walk = let r = count_more walks walk in omega arith

pub chunks_more : (walks : List Walk) (walk : Walk) → all_chunks (walks ++ walk ∷ []) ≡ all_chunks walks ++ newest_first walk.values
chunks_more [] walk = append-nil (newest_first walk.values)
chunks_more (w ∷ walks) walk =
    ap (λ (zs : List (List ℕ)). newest_first w.values ++ zs) (chunks_more walks walk) ∙ sym (append_assoc (newest_first w.values) (all_chunks walks) (newest_first walk.values))

pub folds_both : {P A : Type 0} (R : P → A → P → Type 0) (p : P) (xs ys : List A) (q u : P) → FoldsTo R p xs q → FoldsTo R q ys u → FoldsTo R p (xs ++ ys) u
folds_both R p [] ys q u f r = subst (λ z. FoldsTo R z ys u) (sym f) r
folds_both R p (x ∷ xs) ys q u (m, s, f) r = (m, s, folds_both R m xs ys q u f r)

pub homes_more : (ps : List Part) (at : ℕ) (d : Part) → at < length ps → map home_of (take (suc at) ps) ≡ map home_of (take at ps) ++ home_of (get_or ps at d) ∷ []
homes_more [] at d l = absurd (omega arith)
homes_more (p ∷ ps) zero d l = refl
homes_more (p ∷ ps) (suc at) d l = ap (λ (xs : List Home). home_of p ∷ xs) (homes_more ps at d (omega arith))

pub home_get : (ps : List Part) (at : ℕ) (d : Part) → home_of (get_or ps at d) ≡ get_or (map home_of ps) at (home_of d)
home_get [] at d = refl
home_get (p ∷ ps) zero d = refl
home_get (p ∷ ps) (suc at) d = home_get ps at d

pub places_more : (ps : List Part) (at : ℕ) (d : Part) → at < length ps → sum_of places_in (take (suc at) ps) ≡ sum_of places_in (take at ps) + places_in (get_or ps at d)
places_more [] at d l = absurd (omega arith)
places_more (p ∷ ps) zero d l = omega arith
places_more (p ∷ ps) (suc at) d l = let r = places_more ps at d (omega arith) in omega arith

pub pick : (ps : List Part) (at : ℕ) → at < length ps → Part
pick [] at l = absurd (omega arith)
pick (p ∷ ps) at l = p

-- a pen that joins another
link_at : (links : List ℕ) (ps : List Part) (at : ℕ) (p : Part) → IsOf links ps → at < length ps → p ≡ get_or ps at p → p.link ≡ get_or links at 0
link_at links [] at p e l pe = absurd (omega arith)
link_at [] (q ∷ ps) at p e l pe = let n = ap is_cons e in absurd (omega arith)
link_at (x ∷ links) (q ∷ ps) zero p e l pe = ap link_of pe ∙ ap head_of e
link_at (x ∷ links) (q ∷ ps) (suc at) p e l pe = link_at links ps at p (ap tail_of e) (omega arith) pe

pub same_link : (links : List ℕ) (ps qs : List Part) (at : ℕ) (p q : Part) → IsOf links ps → IsOf links qs → at < length ps → at < length qs → p ≡ get_or ps at p → q ≡ get_or qs at q → q.link ≡ p.link
same_link links ps qs at p q e d l m pe qe = link_at links qs at q d m qe ∙ sym (link_at links ps at p e l pe)

pub of_joined : (links : List ℕ) (ps qs : List Part) → IsOf links ps → IsOf links qs → IsOf links (joined_parts ps qs)
of_joined links [] qs e d = d
of_joined links (p ∷ ps) [] e d = e
of_joined [] (p ∷ ps) (q ∷ qs) e d = let n = ap is_cons e in absurd (omega arith)
of_joined (x ∷ links) (p ∷ ps) (q ∷ qs) e d = let t = of_joined links ps qs (ap tail_of e) (ap tail_of d) in λ i. ap head_of e i ∷ t i

-- the first parts of a bucket
pub of_front : (links : List ℕ) (ps qs : List Part) → IsOf links (ps ++ qs) → IsOf links ps
of_front links [] qs e = refl
of_front [] (p ∷ ps) qs e = let n = ap is_cons e in absurd (omega arith)
of_front (x ∷ links) (p ∷ ps) qs e = let t = of_front links ps qs (ap tail_of e) in λ i. ap head_of e i ∷ t i

pub joined_none : (ps : List Part) → joined_parts ps [] ≡ ps
joined_none [] = refl
joined_none (p ∷ ps) = refl

pub joined_set : (ps ys : List Part) (at : ℕ) (p y : Part) → at ≡ length ys → at < length (joined_parts ps ys) → p ≡ get_or (joined_parts ps ys) at p → set (joined_parts ps ys) at (joined_part p y) ≡ joined_parts ps (ys ++ y ∷ [])
joined_set [] ys at p y n l e = absurd (omega arith)
joined_set (x ∷ ps) [] zero p y n l e = let none = joined_none ps in λ i. joined_part (e i) y ∷ sym none i
joined_set (x ∷ ps) [] (suc at) p y n l e = absurd (omega arith)
joined_set (x ∷ ps) (z ∷ ys) zero p y n l e = absurd (omega arith)
joined_set (x ∷ ps) (z ∷ ys) (suc at) p y n l e = ap (λ (rs : List Part). joined_part x z ∷ rs) (joined_set ps ys at p y (omega arith) (omega arith) e)

pub joined_push : (ps ys : List Part) (y : Part) → length (joined_parts ps ys) ≤ length ys → joined_parts ps ys ++ y ∷ [] ≡ joined_parts ps (ys ++ y ∷ [])
joined_push [] ys y l = refl
joined_push (x ∷ ps) [] y l = absurd (omega arith)
joined_push (x ∷ ps) (z ∷ ys) y l = ap (λ (rs : List Part). joined_part x z ∷ rs) (joined_push ps ys y (omega arith))

seam : (xs ys : List Part) (y : Part) → y ≡ get_or (xs ++ y ∷ ys) (length xs) y
seam [] ys y = refl
seam (x ∷ xs) ys y = seam xs ys y

length_seam : (xs ys : List Part) (y : Part) → length xs < length (xs ++ y ∷ ys)
length_seam [] ys y = omega arith
length_seam (x ∷ xs) ys y = let r = length_seam xs ys y in omega arith

module _ (ps ys known : List Part) (at : ℕ) (y : Part) (n : at ≡ length ys) (is : known ≡ joined_parts ps ys) where
  pub met_link : (links : List ℕ) (others rest : List Part) (p : Part) → IsOf links ps → IsOf links others → ys ++ y ∷ rest ≡ others → at < length known → p ≡ get_or known at p → y.link ≡ p.link
  met_link links others rest p of_ps of_others are l e =
      let all : IsOf links (ys ++ y ∷ rest) = subst (IsOf links) (sym are) of_others in
      let own : IsOf links known = subst (IsOf links) (sym is) (of_joined links ps ys of_ps (of_front links ys (y ∷ rest) all)) in
      let long = length_seam ys rest y in
      same_link links known (ys ++ y ∷ rest) at p y own all l (omega arith) e (seam ys rest y ∙ ap (λ (k : ℕ). get_or (ys ++ y ∷ rest) k y) (sym n))

  pub met_known : (p : Part) → at < length known → p ≡ get_or known at p → set known at (joined_part p y) ≡ joined_parts ps (ys ++ y ∷ [])
  met_known p l e =
      let long : length known ≡ length (joined_parts ps ys) = ap (λ (l : List Part). length l) is in
      ap (λ (rs : List Part). set rs at (joined_part p y)) is ∙ joined_set ps ys at p y n (omega arith) (e ∙ ap (λ (rs : List Part). get_or rs at p) is)

  pub met_new : length known ≤ at → known ++ y ∷ [] ≡ joined_parts ps (ys ++ y ∷ [])
  met_new l =
      let long : length known ≡ length (joined_parts ps ys) = ap (λ (l : List Part). length l) is in
      ap (λ (rs : List Part). rs ++ y ∷ []) is ∙ joined_push ps ys y (omega arith)

-- the first part's weight
pub light : (ps : List Part) (at : ℕ) (p : Part) → at ≡ 0 → at < length ps → p ≡ get_or ps at p → p.account.weight ≢ 1024 → first_weight ps ≢ 1024
light ps (suc at) p z l e not = absurd (omega arith)
light [] zero p z l e not = absurd (omega arith)
light (x ∷ ps) zero p z l e not = λ heavy. not (ap (λ (y : Part). y.account.weight) e ∙ heavy)

-- before the first walk
pub took_none : (ps : List Part) (walks : List Walk) (rs : List Part) → Took ps walks rs → length walks ≡ 0 → rs ≡ ps
took_none ps [] rs t n = sym t
took_none ps (w ∷ walks) rs t n = absurd (omega arith)

pub no_walk : (walks : List Walk) → length walks ≡ 0 → walks ≡ []
no_walk [] n = refl
no_walk (w ∷ walks) n = absurd (omega arith)

pub held_weight : (ps qs : List Part) → FirstHeld ps qs → first_weight qs ≡ first_weight ps
held_weight [] qs f = absurd f
held_weight (p ∷ ps) [] f = absurd f
held_weight (p ∷ ps) (q ∷ qs) f = ap (λ (a : Account). a.weight) f.0.1

pub places_same : (ps qs : List Part) (at : ℕ) (d : Part) → map home_of ps ≡ map home_of qs → places_in (get_or ps at d) ≡ places_in (get_or qs at d)
places_same ps qs at d e = ap (λ (h : Home). h.places) (home_get ps at d ∙ (ap (λ (hs : List Home). get_or hs at (home_of d)) e ∙ sym (home_get qs at d)))

pub either_way : {A E : Type 0} (r : Result A E) (Q : Type 0) → IfOk r (λ _. Q) → IfErr r (λ _. Q) → Q
either_way (Ok x) Q a b = a
either_way (Err e) Q a b = b
