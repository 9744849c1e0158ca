-- What single steps keep of the places of pushes and walks.
use Rattle.std.proofs.Common.{◌≡◌, ◌≢◌, ℕ, zero, suc, ◌+◌, ◌<◌, ◌≤◌, cond, eqb, List, [], ◌∷◌, ◌++◌, get_or, set, refl, sym, ap, ◌∙◌, subst, inl, inr, ⊎_elim, arith, eq-eqb, ne_eqb}
use mathlib.Core.Logic.{dite}
use mathlib.Core.Option.{some, some-injective, some-ne-none}
use native.Mathlib.Decide.{ℕ_discrete, dec_le}
use lib.ListN.{get_elem?}
use Rattle.atomic_table.proofs.Lists.{at_set}
use Rattle.metrics_bucket.specs.declared.view.Push.{Push}
use Rattle.metrics_bucket.specs.declared.view.Walk.{Walk}
use Rattle.metrics_bucket.specs.declared.view.View.{View}
use Rattle.metrics_bucket.specs.declared.view.Hold.{Hold}
use Rattle.metrics_bucket.specs.declared.view.Hold.TheVariants.{Nothing, Ticket, Written, Claimed, SideKnown, Reading, Clearing, Settling}
use Rattle.metrics_bucket.specs.declared.view.Visit.{Visit}
use Rattle.metrics_bucket.specs.declared.view.Visit.TheVariants.{Unseen, Marked, Read, Wiped}
use Rattle.metrics_bucket.specs.BucketState.{BucketState, total, walks_made, other}
use Rattle.metrics_bucket.specs.Facts.{same, below, turn_in}
use Rattle.metrics_bucket.specs.Places.{pushes_at, values_at, pushed_at, value_at, held_in, tickets_at, lengths_of, walks_in, given_of, walks_at, IsPush, WalkFinds, VisitFinds, VisitsFind, HoldPlaced, ViewPlaced, Placed}
use Rattle.metrics_bucket.proofs.Sums.{total_set, total_one, same_here, same_else, below_under, below_over, below_le}

pub total_add : (f g : View → ℕ) (vs : List View) → total (λ v. f v + g v) vs ≡ total f vs + total g vs
total_add f g [] = refl
total_add f g (v ∷ vs) = let r = total_add f g vs in omega arith

pub pushes_at-append : (e i : ℕ) (xs ys : List Push) → pushes_at e i (xs ++ ys) ≡ pushes_at e i xs + pushes_at e i ys
pushes_at-append e i [] ys = omega arith
pushes_at-append e i (x ∷ xs) ys = let r = pushes_at-append e i xs ys in omega arith

pub values_at-append : (e i : ℕ) (xs ys : List Push) → values_at e i (xs ++ ys) ≡ values_at e i xs + values_at e i ys
values_at-append e i [] ys = omega arith
values_at-append e i (x ∷ xs) ys = let r = values_at-append e i xs ys in omega arith

pub lengths_of-append : (e : ℕ) (xs ys : List Walk) → lengths_of e (xs ++ ys) ≡ lengths_of e xs + lengths_of e ys
lengths_of-append e [] ys = omega arith
lengths_of-append e (x ∷ xs) ys = let r = lengths_of-append e xs ys in omega arith

pub walks_in-append : (e : ℕ) (xs ys : List Walk) → walks_in e (xs ++ ys) ≡ walks_in e xs + walks_in e ys
walks_in-append e [] ys = omega arith
walks_in-append e (x ∷ xs) ys = let r = walks_in-append e xs ys in omega arith

pub walks_at-append : (e i : ℕ) (xs ys : List Walk) → walks_at e i (xs ++ ys) ≡ walks_at e i xs + walks_at e i ys
walks_at-append e i [] ys = omega arith
walks_at-append e i (x ∷ xs) ys = let r = walks_at-append e i xs ys in omega arith

pub value_here : (e i e' i' x : ℕ) → e ≡ e' → i ≡ i' → cond (eqb e e') (cond (eqb i i') x 0) 0 ≡ x
value_here e i e' i' x p q = rw (eq-eqb e e' p) (rw (eq-eqb i i' q) refl)

pub value_else : (e i e' i' x : ℕ) → (e ≡ e' → i ≡ i' → ⊥) → cond (eqb e e') (cond (eqb i i') x 0) 0 ≡ 0
value_else e i e' i' x n = dite (ℕ_discrete e e') (λ p. rw (eq-eqb e e' p) (rw (ne_eqb i i' (λ q. n p q)) refl)) (λ p. rw (ne_eqb e e' p) refl)

pub cond_same : (e e' x : ℕ) → cond (eqb e e') x x ≡ x
cond_same e e' x = dite (ℕ_discrete e e') (λ p. rw (eq-eqb e e' p) refl) (λ p. rw (ne_eqb e e' p) refl)

pub cond_here : (e e' x : ℕ) → e ≡ e' → cond (eqb e e') x 0 ≡ x
cond_here e e' x p = rw (eq-eqb e e' p) refl

pub cond_else : (e e' x : ℕ) → e ≢ e' → cond (eqb e e') x 0 ≡ 0
cond_else e e' x p = rw (ne_eqb e e' p) refl

-- a hold that is no clear's counts no take
pub no_take : (e e' n : ℕ) → n ≡ 0 → cond (eqb e e') n 0 ≡ 0
no_take e e' n z = ap (λ (k : ℕ). cond (eqb e e') k 0) z ∙ cond_same e e' 0

-- where no push is, there is no value
no_value : (e i : ℕ) (ps : List Push) → pushes_at e i ps ≡ 0 → values_at e i ps ≡ 0
no_value e i [] z = refl
no_value e i (p ∷ ps) z =
    let r = no_value e i ps (omega arith) in
    let one = value_else e i p.epoch p.place p.value (λ a b. let h = same_here e i p.epoch p.place a b in absurd (omega arith)) in
    omega arith

pub no_values : (e i : ℕ) (vs : List View) → total (pushed_at e i) vs ≡ 0 → total (value_at e i) vs ≡ 0
no_values e i [] z = refl
no_values e i (v ∷ vs) z = let a = no_value e i v.pushed (omega arith) in let r = no_values e i vs (omega arith) in omega arith

-- a thread's push is the one of its place
own_value : (ps : List Push) (n : ℕ) (p : Push) → get_elem? ps n ≡ some p → pushes_at p.epoch p.place ps ≤ 1 → (pushes_at p.epoch p.place ps ≡ 1) × (values_at p.epoch p.place ps ≡ p.value)
own_value [] n p e l = absurd (some-ne-none p (sym e))
own_value (q ∷ ps) zero p e l =
    let is : q ≡ p = some-injective q p e in
    let one : same p.epoch p.place q.epoch q.place ≡ 1 = same_here p.epoch p.place q.epoch q.place (ap (λ (z : Push). z.epoch) (sym is)) (ap (λ (z : Push). z.place) (sym is)) in
    let value = value_here p.epoch p.place q.epoch q.place q.value (ap (λ (z : Push). z.epoch) (sym is)) (ap (λ (z : Push). z.place) (sym is)) in
    let same_value : q.value ≡ p.value = ap (λ (z : Push). z.value) is in
    let none = no_value p.epoch p.place ps (omega arith) in
    (omega arith, omega arith)
own_value (q ∷ ps) (suc n) p e l =
    let r = own_value ps n p e (omega arith) in
    let r0 = r.0 in
    let r1 = r.1 in
    let value = value_else p.epoch p.place q.epoch q.place q.value (λ a b. let h = same_here p.epoch p.place q.epoch q.place a b in absurd (omega arith)) in
    (omega arith, omega arith)

some_push : (ps : List Push) (n : ℕ) (p : Push) → get_elem? ps n ≡ some p → 1 ≤ pushes_at p.epoch p.place ps
some_push [] n p e = absurd (some-ne-none p (sym e))
some_push (q ∷ ps) zero p e = let is : q ≡ p = some-injective q p e in let one = same_here p.epoch p.place q.epoch q.place (ap (λ (z : Push). z.epoch) (sym is)) (ap (λ (z : Push). z.place) (sym is)) in omega arith
some_push (q ∷ ps) (suc n) p e = let r = some_push ps n p e in omega arith

-- the values of the others, where one thread's push is the only one
rest_none : (e i : ℕ) (vs : List View) (j : ℕ) (v : View) → get_elem? vs j ≡ some v → total (pushed_at e i) vs ≡ pushed_at e i v → total (value_at e i) vs ≡ value_at e i v
rest_none e i [] j v at s = absurd (some-ne-none v (sym at))
rest_none e i (u ∷ vs) zero v at s =
    let is : u ≡ v = some-injective u v at in
    let a : pushed_at e i u ≡ pushed_at e i v = ap (pushed_at e i) is in
    let b : value_at e i u ≡ value_at e i v = ap (value_at e i) is in
    let n = no_values e i vs (omega arith) in
    omega arith
rest_none e i (u ∷ vs) (suc j) v at s =
    let o = total_one (pushed_at e i) vs j v at in
    let a = no_value e i u.pushed (omega arith) in
    let r = rest_none e i vs j v at (omega arith) in
    omega arith

below_next : (e i n : ℕ) → below i (n + 1) ≡ below i n + same e i e n
below_next e i n = dite (ℕ_discrete i n)
    (λ q. let c = same_here e i e n refl q in let d = below_under i (n + 1) (omega arith) in let k = below_over i n (omega arith) in omega arith)
    (λ q. let c = same_else e i e n (λ _ z. q z) in dite (dec_le i n)
    (λ l. let d = below_under i (n + 1) (omega arith) in let k = below_under i n (omega arith) in omega arith)
    (λ l. let d = below_over i (n + 1) (omega arith) in let k = below_over i n (omega arith) in omega arith))

-- one more ticket of an epoch that no take reported
pub given_more : (e i epoch n told : ℕ) → (e ≡ epoch → told ≡ 0) → below i (told + cond (eqb e epoch) (n + 1) 0) ≡ below i (told + cond (eqb e epoch) n 0) + same e i epoch n
given_more e i epoch n told z = dite (ℕ_discrete e epoch)
    (λ p. let none = z p in
    let a : told + cond (eqb e epoch) (n + 1) 0 ≡ n + 1 = (let c = cond_here e epoch (n + 1) p in omega arith) in
    let b : told + cond (eqb e epoch) n 0 ≡ n = (let c = cond_here e epoch n p in omega arith) in
    let c : same e i epoch n ≡ same e i e n = ap (λ (k : ℕ). same e i k n) (sym p) in
    let d : below i (told + cond (eqb e epoch) (n + 1) 0) ≡ below i (n + 1) = ap (below i) a in
    let k : below i (told + cond (eqb e epoch) n 0) ≡ below i n = ap (below i) b in
    let r = below_next e i n in
    omega arith)
    (λ p. let a : told + cond (eqb e epoch) (n + 1) 0 ≡ told + cond (eqb e epoch) n 0 = (let c = cond_else e epoch (n + 1) p in let d = cond_else e epoch n p in omega arith) in
    let d : below i (told + cond (eqb e epoch) (n + 1) 0) ≡ below i (told + cond (eqb e epoch) n 0) = ap (below i) a in
    let c = same_else e i epoch n (λ q _. p q) in
    omega arith)

-- pushes that were finished stay
pub push_kept : (w w' : BucketState) (id : ℕ) (v u : View) → get_elem? w.views id ≡ some v → w'.views ≡ set w.views id u → u.pushed ≡ v.pushed → (e i x : ℕ) → IsPush w e i x → IsPush w' e i x
push_kept w w' id v u at is same_pushes e i x k =
    let a : total (pushed_at e i) w'.views ≡ total (pushed_at e i) (set w.views id u) = ap (total (pushed_at e i)) is in
    let b : total (value_at e i) w'.views ≡ total (value_at e i) (set w.views id u) = ap (total (value_at e i)) is in
    let c = total_set (pushed_at e i) w.views id v u at in
    let d = total_set (value_at e i) w.views id v u at in
    let f : pushed_at e i u ≡ pushed_at e i v = ap (pushes_at e i) same_pushes in
    let g : value_at e i u ≡ value_at e i v = ap (values_at e i) same_pushes in
    let k0 = k.0 in
    let k1 = k.1 in
    (omega arith, omega arith)

-- one visit of a walk is seen or read
pub visits_find : (w : BucketState) (e i : ℕ) (visits : List Visit) (d : Visit) → VisitsFind w e visits → VisitFinds w e i d → VisitsFind w e (set visits i d)
visits_find w e i visits d k new j c there = ⊎_elim
    (λ (t : (j ≡ i) × (d ≡ c)). subst (λ (z : ℕ × Visit). VisitFinds w e z.0 z.1) (λ l. (sym t.0 l, t.1 l)) new)
    (λ (t : (j ≢ i) × (get_elem? visits j ≡ some c)). k j c t.1)
    (at_set visits i j d c there)

module _ (w w' : BucketState) (pushes : (e i x : ℕ) → IsPush w e i x → IsPush w' e i x) where
  pub visit_kept : (e i : ℕ) (c : Visit) → VisitFinds w e i c → VisitFinds w' e i c
  visit_kept e i Unseen k = tt
  visit_kept e i Marked k = tt
  visit_kept e i (Read x) k = pushes e i x k
  visit_kept e i (Wiped x) k = pushes e i x k

  pub walk_kept : (walk : Walk) → WalkFinds w walk → WalkFinds w' walk
  walk_kept walk k i l = pushes walk.epoch i (get_or walk.values i 0) (k i l)

  pub hold_kept : w'.live ≡ w.live → w'.epoch ≡ w.epoch → (e : ℕ) (hold : Hold) → HoldPlaced w e hold → HoldPlaced w' e hold
  hold_kept live epoch e Nothing k = tt
  hold_kept live epoch e (Ticket s i) k = ⊎_elim (λ (t : (s ≡ w.live) × (e ≡ w.epoch)). inl (t.0 ∙ sym live, t.1 ∙ sym epoch)) (λ (t : (s ≡ other w.live) × (suc e ≡ w.epoch)). inr (t.0 ∙ ap other (sym live), t.1 ∙ sym epoch)) k
  hold_kept live epoch e (Written s i x) k = ⊎_elim (λ (t : (s ≡ w.live) × (e ≡ w.epoch)). inl (t.0 ∙ sym live, t.1 ∙ sym epoch)) (λ (t : (s ≡ other w.live) × (suc e ≡ w.epoch)). inr (t.0 ∙ ap other (sym live), t.1 ∙ sym epoch)) k
  hold_kept live epoch e Claimed k = tt
  hold_kept live epoch e (SideKnown s) k = tt
  hold_kept live epoch e (Reading s visits) k = (k.0 ∙ sym epoch, λ i c there. visit_kept e i c (k.1 i c there))
  hold_kept live epoch e (Clearing s visits) k = (k.0 ∙ sym epoch, λ i c there. visit_kept e i c (k.1 i c there))
  hold_kept live epoch e (Settling s xs) k = tt

  pub view_kept : (u : View) → (HoldPlaced w u.epoch u.hold → HoldPlaced w' u.epoch u.hold) → (turn_in u.hold ≡ 1 → walks_made w' ≡ walks_made w) → ViewPlaced w u → ViewPlaced w' u
  view_kept u hold walks k = record {
    hold = hold k.hold;
    turn = λ t. k.turn t ∙ sym (walks t);
    taken = λ n walk e. walk_kept walk (k.taken n walk e);
    read = λ n walk e. walk_kept walk (k.read n walk e);
  }

  -- all threads after a step of one
  pub each_kept : (places id : ℕ) (u : View) → Placed places w → w'.views ≡ set w.views id u → ViewPlaced w' u
      → ((j : ℕ) (z : View) → j ≢ id → get_elem? w.views j ≡ some z → (HoldPlaced w z.epoch z.hold → HoldPlaced w' z.epoch z.hold) × (turn_in z.hold ≡ 1 → walks_made w' ≡ walks_made w))
      → (j : ℕ) (z : View) → get_elem? w'.views j ≡ some z → ViewPlaced w' z
  each_kept places id u p is mine others j z there = ⊎_elim
      (λ (t : (j ≡ id) × (u ≡ z)). subst (ViewPlaced w') t.1 mine)
      (λ (t : (j ≢ id) × (get_elem? w.views j ≡ some z)). let o = others j z t.0 t.1 in view_kept z o.0 o.1 (p.each j z t.1))
      (at_set w.views id j u z (sym (ap (λ (l : List View). get_elem? l j) is) ∙ there))

module _ (places : ℕ) (w : BucketState) (p : Placed places w) where
  pub at_most_one : (e i : ℕ) → total (tickets_at e i) w.views ≤ 1
  at_most_one e i = let a = p.tickets e i in let b = below_le i (given_of e w) in omega arith

  -- what a thread pushed is the push of its place
  pub own_push : (j : ℕ) (v : View) (n : ℕ) (q : Push) → get_elem? w.views j ≡ some v → get_elem? v.pushed n ≡ some q → IsPush w q.epoch q.place q.value
  own_push j v n q at there =
      let e : ℕ = q.epoch in
      let i : ℕ = q.place in
      let held : View → ℕ = λ z. held_in e i z.epoch z.hold in
      let a = at_most_one e i in
      let b = total_add (pushed_at e i) held w.views in
      let some_here = some_push v.pushed n q there in
      let most = total_one (pushed_at e i) w.views j v at in
      let own = own_value v.pushed n q there (omega arith) in
      let own0 = own.0 in
      let rest = rest_none e i w.views j v at (omega arith) in
      (omega arith, rest ∙ own.1)

  -- a finished push is of an earlier epoch, or below the tickets of the current one
  pub own_reach : (j : ℕ) (v : View) (n : ℕ) (q : Push) → get_elem? w.views j ≡ some v → get_elem? v.pushed n ≡ some q → (q.epoch ≤ w.epoch) × (q.epoch ≡ w.epoch → q.place < w.given)
  own_reach j v n q at there =
      let e : ℕ = q.epoch in
      let i : ℕ = q.place in
      let some_here = some_push v.pushed n q there in
      let held : View → ℕ = λ z. held_in e i z.epoch z.hold in
      let most = total_one (tickets_at e i) w.views j v at in
      let t = p.tickets e i in
      let given : i < given_of e w = dite (dec_le (given_of e w) i) (λ l. let b = below_over i (given_of e w) l in absurd (omega arith)) (λ l. omega arith) in (
        dite (dec_le e w.epoch) (λ l. l) (λ l. let z = p.told e (omega arith) in let c = cond_else e w.epoch w.given (λ k. absurd (omega arith)) in absurd (omega arith)),
        λ k. let z = p.told e (omega arith) in let c = cond_here e w.epoch w.given k in omega arith,
      )
