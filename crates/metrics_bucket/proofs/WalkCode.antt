-- What the code of a walk knows of its seat.
use Rattle.std.proofs.Common.{◌≡◌, ◌≢◌, ◌⊎◌, ℕ, zero, suc, ◌+◌, ◌-◌, ◌*◌, ◌<◌, ◌≤◌, List, [], ◌∷◌, ◌++◌, length, get_or, set, take, drop, map, replicate, refl, sym, ap, ◌∙◌, subst, inl, inr, ⊎_elim, arith, min, length-set, get_or-set_same}
use Rattle.std.specs.List.{FoldsTo}
use Rattle.std.proofs.lemmas.Grind.{take-set_at}
use mathlib.Core.Logic.{dite}
use mathlib.Core.List.{map-append}
use native.Mathlib.Decide.{ℕ_discrete, dec_le}
use mathlib.Core.Option.{some, some-injective}
use lib.ListN.{get_elem?}
use Rattle.atomic_table.proofs.Lists.{set_here, set_else}
use Rattle.metrics_bucket.specs.declared.view.Hold.{Hold}
use Rattle.metrics_bucket.specs.declared.view.Hold.TheVariants.{Nothing, Reading, Clearing}
use Rattle.metrics_bucket.specs.declared.view.Visit.{Visit}
use Rattle.metrics_bucket.specs.declared.view.Visit.TheVariants.{Unseen, Read, Wiped}
use Rattle.metrics_bucket.specs.BucketState.{other, walk, holding, holds_as, with_taken, leaving, left_from, put_visit, side_of, visits_of, value_in, values_in}
use Rattle.metrics_bucket.specs.History.{HasVisit, CanLeave, turn_at}
use Rattle.metrics_bucket.specs.Blocks.{valued}
use Rattle.metrics_bucket.specs.declared.view.Push.{Push}
use Rattle.metrics_bucket.specs.WalkedPlaces.{with_walk, WalkKind, reads, clears, walking, visited, walk_of, IsWalked, Goes, Walks}
use Rattle.metrics_bucket.specs.ClearedPlaces.{has_taken, IsSideTaken}
use Rattle.metrics_bucket.specs.Places.{Reaches, Finds, Covers}
use Rattle.metrics_bucket.proofs.Blocks.{chunk, chunks_from, chunks_front, drop_more, part_next}
use Rattle.metrics_bucket.specs.Steps.{Seated}
use Rattle.metrics_bucket.specs.WalkSteps.{IsClearing}
use Rattle.metrics_bucket.specs.Facts.{weigh, weigh_pushes, weigh_walks}
use Rattle.metrics_bucket.specs.declared.view.Walk.{Walk}
use Rattle.metrics_bucket.specs.declared.view.View.{View}
use Rattle.metrics_bucket.proofs.Visits.{weigh_walks-append}
use Rattle.metrics_bucket.proofs.Keep.{at_below}

pub set_twice : {A : Type 0} (xs : List A) (i : ℕ) (a b : A) → set (set xs i a) i b ≡ set xs i b
set_twice [] i a b = refl
set_twice (x ∷ xs) zero a b = refl
set_twice (x ∷ xs) (suc i) a b = λ k. x ∷ set_twice xs i a b k

-- what both walks have in common
pub visits_walking : (kind : WalkKind) (s : ℕ) (visits : List Visit) → visits_of (walking kind s visits) ≡ visits
visits_walking reads s visits = refl
visits_walking clears s visits = refl

pub side_walking : (kind : WalkKind) (s : ℕ) (visits : List Visit) → side_of (walking kind s visits) ≡ s
side_walking reads s visits = refl
side_walking clears s visits = refl

pub put_walking : (kind : WalkKind) (s at : ℕ) (visits : List Visit) (c : Visit) → put_visit (walking kind s visits) at c ≡ walking kind s (set visits at c)
put_walking reads s at visits c = refl
put_walking clears s at visits c = refl

has_walking : (kind : WalkKind) (s at : ℕ) (visits : List Visit) (c : Visit) → get_elem? visits at ≡ some c → HasVisit (walking kind s visits) at c
has_walking reads s at visits c e = e
has_walking clears s at visits c e = e

leave_walking : (kind : WalkKind) (s : ℕ) (visits : List Visit) → ((i : ℕ) (c : Visit) → get_elem? visits i ≡ some c → (x : ℕ) × (c ≡ visited kind x)) → CanLeave (walking kind s visits)
leave_walking reads s visits f = f
leave_walking clears s visits f = f

pub visit_there : (visits : List Visit) (at : ℕ) (b c : Visit) → get_elem? visits at ≡ some b → get_elem? (set visits at c) at ≡ some c
visit_there visits at b c e = set_here visits at c (at_below visits at b e)

pub visits_now : (kind : WalkKind) (m : Seated) (s : ℕ) (visits : List Visit) → m.0.hold ≡ walking kind s visits → visits_of m.0.hold ≡ visits
visits_now kind m s visits h = ap visits_of h ∙ visits_walking kind s visits

-- a visit of a walk
pub has_visit : (kind : WalkKind) (m : Seated) (s at : ℕ) (c : Visit) → m.0.hold ≡ walking kind s (visits_of m.0.hold) → get_elem? (visits_of m.0.hold) at ≡ some c → HasVisit m.0.hold at c
has_visit kind m s at c h e = subst (λ (z : Hold). HasVisit z at c) (sym h) (has_walking kind s at (visits_of m.0.hold) c e)

-- a walk that goes on, with other visits
abbrev pub with_visits : Hold → List Visit → Hold
with_visits (Reading s visits) vs = Reading s vs
with_visits (Clearing s visits) vs = Clearing s vs
with_visits hold vs = hold

pub put_visits : (kind : WalkKind) (s : ℕ) (visits vs : List Visit) → with_visits (walking kind s visits) vs ≡ walking kind s vs
put_visits reads s visits vs = refl
put_visits clears s visits vs = refl

-- places that are of the form already
pub goes_kept : (form : ℕ → Visit) (kind : WalkKind) (m : Seated) (side start end : ℕ) → m.0.hold ≡ walking kind side (visits_of m.0.hold) → ((i : ℕ) → start ≤ i → i < end → (x : ℕ) × (get_elem? (visits_of m.0.hold) i ≡ some (form x))) → Goes form kind m m side start end
goes_kept form kind m side start end h there = record {
  me = λ i. (holding m.0 (h i), m.1);
  long = refl;
  found = there;
  others = λ i _. refl;
}

pub goes_none : (form : ℕ → Visit) (kind : WalkKind) (m : Seated) (side start b : ℕ) → m.0.hold ≡ walking kind side (visits_of m.0.hold) → b ≤ start → Goes form kind m m side start b
goes_none form kind m side start b h l = goes_kept form kind m side start b h (λ i j k. absurd (omega arith))

pub goes_end : (form : ℕ → Visit) (kind : WalkKind) (m m' : Seated) (side start end end' : ℕ) → end ≡ end' → Goes form kind m m' side start end → Goes form kind m m' side start end'
goes_end form kind m m' side start end end' e g = subst (λ (z : ℕ). Goes form kind m m' side start z) e g

-- one place more
pub goes_more : (form : ℕ → Visit) (kind : WalkKind) (m m1 m2 : Seated) (side start at x : ℕ) (old : Visit) → Goes form kind m m1 side start at → get_elem? (visits_of m1.0.hold) at ≡ some old → start ≤ at
    → m2 ≡ (holding m1.0 (walking kind side (set (visits_of m1.0.hold) at (form x))), m1.1) → Goes form kind m m2 side start (suc at)
goes_more form kind m m1 m2 side start at x old c there l e =
    let visits : List Visit = visits_of m1.0.hold in
    let new : List Visit = set visits at (form x) in
    let now : visits_of m2.0.hold ≡ new = ap (λ (z : Seated). visits_of z.0.hold) e ∙ visits_walking kind side new in
    record {
      me = e ∙ (ap (λ (z : Seated). (holding z.0 (walking kind side new), z.1)) c.me ∙ (λ i. (holding m.0 (walking kind side (sym now i)), m.1)));
      long = ap length now ∙ (length-set visits at (form x) ∙ c.long);
      found = λ i a b. dite (ℕ_discrete i at)
          (λ here. (x, ap (λ (z : List Visit). get_elem? z i) now ∙ ((λ k. get_elem? new (here k)) ∙ visit_there visits at old (form x) there)))
          (λ apart. let t = c.found i a (omega arith) in (t.0, ap (λ (z : List Visit). get_elem? z i) now ∙ (set_else visits at i (form x) apart ∙ t.1)));
      others = λ i o.
          let apart : i ≢ at = λ same. ⊎_elim (λ (z : i < start). absurd (omega arith)) (λ (z : suc at ≤ i). absurd (omega arith)) o in
          let o' : (i < start) ⊎ (at ≤ i) = ⊎_elim (λ (z : i < start). inl z) (λ (z : suc at ≤ i). inr (omega arith)) o in
          ap (λ (z : List Visit). get_elem? z i) now ∙ (set_else visits at i (form x) apart ∙ c.others i o');
    }

pub values_set : (visits : List Visit) (i x : ℕ) → values_in (set visits i (Read x)) ≡ set (values_in visits) i x
values_set [] i x = refl
values_set (c ∷ cs) zero x = refl
values_set (c ∷ cs) (suc i) x = λ k. value_in c ∷ values_set cs i x k

-- a place that is wiped has the value that was read
pub values_kept : (visits : List Visit) (i x : ℕ) → get_elem? visits i ≡ some (Read x) → values_in (set visits i (Wiped x)) ≡ values_in visits
values_kept [] i x e = refl
values_kept (c ∷ cs) zero x e = λ k. value_in (sym (some-injective c (Read x) e) k) ∷ values_in cs
values_kept (c ∷ cs) (suc i) x e = λ k. value_in c ∷ values_kept cs i x e k

pub length_values : (visits : List Visit) → length (values_in visits) ≡ length visits
length_values [] = refl
length_values (c ∷ cs) = ap suc (length_values cs)

take_set : (vs : List ℕ) (i x : ℕ) → take i (set vs i x) ≡ take i vs
take_set [] i x = refl
take_set (v ∷ vs) zero x = refl
take_set (v ∷ vs) (suc i) x = ap (λ (l : List ℕ). v ∷ l) (take_set vs i x)

part_set : (vs : List ℕ) (start i x : ℕ) → take i (drop start (set vs (start + i) x)) ≡ take i (drop start vs)
part_set vs zero i x = let e : 0 + i ≡ i = omega arith in ap (λ (k : ℕ). take i (set vs k x)) e ∙ take_set vs i x
part_set [] (suc start) i x = refl
part_set (v ∷ vs) (suc start) i x = let e : suc start + i ≡ suc (start + i) = omega arith in ap (λ (k : ℕ). take i (drop (suc start) (set (v ∷ vs) k x))) e ∙ part_set vs start i x

-- the room has one more value
pub room_more : {T : Type 0} (f : ℕ → T) (vs : List ℕ) (room : List T) (y : T) (start at x : ℕ) → start ≤ at → at < length vs → at - start < length room → y ≡ f x
    → take (at - start) room ≡ map f (take (at - start) (drop start vs)) → take (at + 1 - start) (set room (at - start) y) ≡ map f (take (at + 1 - start) (drop start (set vs at x)))
room_more {T} f vs room y start at x l m inside is before =
    let i : ℕ = at - start in
    let n : at + 1 - start ≡ i + 1 = omega arith in
    let here : start + i ≡ at = omega arith in
    let longer = length-set vs at x in
    let kept : take i (drop start (set vs at x)) ≡ take i (drop start vs) = (λ k. take i (drop start (set vs (sym here k) x))) ∙ part_set vs start i x in
    let next = part_next (set vs at x) start at l (omega arith) in
    let found : get_or (set vs at x) at 0 ≡ x = get_or-set_same vs at x 0 m in
    take-set_at room i (at + 1 - start) y n inside
    ∙ (ap (λ (z : List T). z ++ y ∷ []) before
    ∙ ((λ k. map f (take i (drop start vs)) ++ is k ∷ [])
    ∙ (sym (map-append f (take i (drop start vs)) (x ∷ []))
    ∙ (ap (λ (z : List ℕ). map f (z ++ x ∷ [])) (sym kept) ∙ (ap (λ (z : ℕ). map f (take i (drop start (set vs at x)) ++ z ∷ [])) (sym found) ∙ ap (map f) (sym next))))))

pub new_at : (n i : ℕ) → i < n → get_elem? (replicate n Unseen) i ≡ some Unseen
new_at zero i l = absurd (omega arith)
new_at (suc n) zero l = refl
new_at (suc n) (suc i) l = new_at n i (omega arith)

pub length_visits : (n : ℕ) → length (replicate n Unseen) ≡ n
length_visits zero = refl
length_visits (suc n) = ap suc (length_visits n)

-- how many places a walk has that begins
pub length_walking : (kind : WalkKind) (m : Seated) (s n : ℕ) → m.0.hold ≡ walking kind s (replicate n Unseen) → length (visits_of m.0.hold) ≡ n
length_walking kind m s n h = ap length (visits_now kind m s (replicate n Unseen) h) ∙ length_visits n

-- one more chunk
pub walks_join : (kind : WalkKind) (m m1 m2 : Seated) (side start b end given : ℕ) → Walks kind m m1 side b given → Walks kind m1 m2 side start end → b ≡ start + 64 → end ≡ min given b → Walks kind m m2 side start given
walks_join kind m m1 m2 side start b end given c1 c2 is cut = record {
  me = c2.me ∙ ap (λ (z : Seated). (holding z.0 (walking kind side (visits_of m2.0.hold)), z.1)) c1.me;
  long = c2.long ∙ c1.long;
  found = λ i x y. dite (dec_le end i)
      (λ (high : end ≤ i). let t = c1.found i (omega arith) y in (t.0, c2.others i (inr high) ∙ t.1))
      (λ low. c2.found i x (omega arith));
  others = λ i o. ⊎_elim
      (λ (z : i < start). c2.others i (inl z) ∙ c1.others i (inl (omega arith)))
      (λ (z : given ≤ i). c2.others i (inr (omega arith)) ∙ c1.others i (inr z))
      o;
}

pub still_unseen : (kind : WalkKind) (m m1 : Seated) (side b given end i : ℕ) → Walks kind m m1 side b given → m.0.hold ≡ walking kind side (replicate given Unseen) → end ≡ min given b → i < end → get_elem? (visits_of m1.0.hold) i ≡ some Unseen
still_unseen kind m m1 side b given end i c h cut l =
    c.others i (inl (omega arith)) ∙ (ap (λ (z : List Visit). get_elem? z i) (visits_now kind m side (replicate given Unseen) h) ∙ new_at given i (omega arith))

-- lists of visits that agree from a place on
pub same_from : (xs ys : List Visit) (b : ℕ) → length xs ≡ length ys → ((i : ℕ) → b ≤ i → get_elem? xs i ≡ get_elem? ys i) → drop b (values_in xs) ≡ drop b (values_in ys)
same_from [] [] b e f = refl
same_from [] (y ∷ ys) b e f = absurd (omega arith)
same_from (x ∷ xs) [] b e f = absurd (omega arith)
same_from (x ∷ xs) (y ∷ ys) zero e f = (λ i. value_in (some-injective x y (f 0 (omega arith)) i) ∷ same_from xs ys 0 (omega arith) (λ j l. f (suc j) (omega arith)) i)
same_from (x ∷ xs) (y ∷ ys) (suc b) e f = same_from xs ys b (omega arith) (λ j l. f (suc j) (omega arith))

chunks_same : (V W : List ℕ) (c k : ℕ) → drop (64 * c) V ≡ drop (64 * c) W → chunks_from c k V ≡ chunks_from c k W
chunks_same V W c zero e = refl
chunks_same V W c (suc k) e =
    let is : 64 * (c + k) ≡ 64 * c + 64 * k = omega arith in
    let one : chunk (c + k) V ≡ chunk (c + k) W =
    ap (λ (n : ℕ). take 64 (drop n V)) is ∙ (ap (take 64) (drop_more V (64 * c) (64 * k) ∙ (ap (drop (64 * k)) e ∙ sym (drop_more W (64 * c) (64 * k)))) ∙ sym (ap (λ (n : ℕ). take 64 (drop n W)) is))
    in
    λ i. one i ∷ chunks_same V W c k e i

folds_more : {P A : Type 0} (R : P → A → P → Type 0) (p : P) (xs : List A) (q : P) (x : A) (u : P) → FoldsTo R p xs q → R q x u → FoldsTo R p (xs ++ x ∷ []) u
folds_more {P} R p [] q x u f r = (u, subst (λ (z : P). R z x u) (sym f) r, refl)
folds_more R p (y ∷ ys) q x u f r = (f.0, f.1, folds_more R f.0 ys q x u f.2 r)

-- one more call
pub calls_more : {P T : Type 0} (R : P → List T → P → Type 0) (value : ℕ → T) (V W : List ℕ) (c chunks m : ℕ) (p q u : P) (x : List T) → chunks ≡ suc c → chunks ≤ m → drop (64 * chunks) W ≡ drop (64 * chunks) V
    → FoldsTo R p (valued value (chunks_from chunks (m - chunks) V)) q → R q x u → x ≡ map value (chunk c W) → FoldsTo R p (valued value (chunks_from c (m - c) W)) u
calls_more {P} {T} R value V W c chunks m p q u x is below e f r shown =
    let k : ℕ = m - chunks in
    let count : m - c ≡ suc k = omega arith in
    let before : chunks_from chunks k V ≡ chunks_from (suc c) k W = sym (chunks_same W V chunks k e) ∙ (λ i. chunks_from (is i) k W) in
    let all : valued value (chunks_from chunks k V) ++ x ∷ [] ≡ valued value (chunks_from c (m - c) W) =
    (λ i. valued value (before i) ++ shown i ∷ []) ∙ (sym (map-append (map value) (chunks_from (suc c) k W) (chunk c W ∷ [])) ∙ (ap (valued value) (sym (chunks_front W c k)) ∙ (λ i. valued value (chunks_from c (sym count i) W))))
    in
    subst (λ (l : List (List T)). FoldsTo R p l u) all (folds_more R p (valued value (chunks_from chunks k V)) q x u f r)

pub one_minus : (s : ℕ) → s < 2 → 1 - s ≡ other s
one_minus zero l = omega arith
one_minus (suc zero) l = omega arith
one_minus (suc (suc s)) l = absurd (omega arith)

-- a walk that is done with all its places may leave
pub can_leave : (kind : WalkKind) (m m' : Seated) (side given : ℕ) → Walks kind m m' side 0 given → m.0.hold ≡ walking kind side (replicate given Unseen) → CanLeave m'.0.hold
can_leave kind m m' side given c h =
    let long : length (visits_of m'.0.hold) ≡ given = c.long ∙ length_walking kind m side given h in
    subst CanLeave (sym (ap (λ (z : Seated). z.0.hold) c.me))
    (leave_walking kind side (visits_of m'.0.hold)
    (λ i d there. let below = at_below (visits_of m'.0.hold) i d there in let t = c.found i (omega arith) (omega arith) in (t.0, sym (some-injective (visited kind t.0) d (sym t.1 ∙ there)))))

pub left_walk : (kind : WalkKind) (m m' : Seated) (s : ℕ) (visits : List Visit) → m.0.hold ≡ walking kind s visits → m' ≡ (leaving m.0, []) → m' ≡ (with_walk kind m.0 (walk m.0.epoch (values_in visits)), [])
left_walk reads m m' s visits h e = e ∙ (λ i. (left_from m.0 (h i), []))
left_walk clears m m' s visits h e = e ∙ (λ i. (left_from m.0 (h i), []))

-- the list does not depend on what was held
pub with_walk_held : (kind : WalkKind) (v : View) (hold : Hold) (list : Walk) → with_walk kind (holding v hold) list ≡ with_walk kind v list
with_walk_held reads v hold list = refl
with_walk_held clears v hold list = refl

-- what was pushed is what the walk found and what was taken before
pub left_weigh : (kind : WalkKind) (m m' : Seated) (s : ℕ) (visits : List Visit) (h : ℕ → ℕ) → m.0.hold ≡ walking kind s visits → m' ≡ (leaving m.0, []) → (IsClearing m.0.hold → weigh_pushes h m.0.pushed ≡ weigh_walks h m'.0.taken)
    → (m.0.hold ≡ Reading s visits → weigh_pushes h m.0.pushed ≡ weigh h (values_in visits) + weigh_walks h m.0.taken) → weigh_pushes h m.0.pushed ≡ weigh h (values_in visits) + weigh_walks h m.0.taken
left_weigh reads m m' s visits h hold e of_clear of_read = of_read hold
left_weigh clears m m' s visits h hold e of_clear of_read =
    let told = of_clear (subst IsClearing (sym hold) tt) in
    let list : Walk = walk m.0.epoch (values_in visits) in
    let taken : weigh_walks h m'.0.taken ≡ weigh_walks h (m.0.taken ++ list ∷ []) = ap (λ (z : Seated). weigh_walks h z.0.taken) (left_walk clears m m' s visits hold e) in
    let more = weigh_walks-append h m.0.taken list in
    omega arith

-- a walk that went over all places has the thread's own pushes
pub covered : (pushed : List Push) (epoch end : ℕ) (list : List ℕ) → Reaches pushed epoch end → length list ≡ end → Finds pushed (walk epoch list) → Covers pushed (walk epoch list)
covered pushed epoch end list reach long finds n q there = ⊎_elim
    (λ (low : q.epoch < epoch). inl low)
    (λ (r : (q.epoch ≡ epoch) × (q.place < end)). let below : q.place < length list = subst (λ (z : ℕ). q.place < z) (sym long) r.1 in inr (r.0, below, finds n q there r.0 below))
    (reach n q there)

-- what leaving needs to know of a walk that is done with all its places
pub done : (kind : WalkKind) (m m1 : Seated) (side given : ℕ) → Walks kind m m1 side 0 given → m.0.hold ≡ walking kind side (replicate given Unseen) → (m1.0.hold ≡ walking kind (side_of m1.0.hold) (visits_of m1.0.hold)) × CanLeave m1.0.hold
done kind m m1 side given c h =
    let is = ap (λ (z : Seated). z.0.hold) c.me in
    let here : side_of m1.0.hold ≡ side = ap side_of is ∙ side_walking kind side (visits_of m1.0.hold) in (
      is ∙ ap (λ (n : ℕ). walking kind n (visits_of m1.0.hold)) (sym here),
      can_leave kind m m1 side given c h,
    )

pub done_turn : (kind : WalkKind) (m m1 : Seated) (side given : ℕ) → Walks kind m m1 side 0 given → m.1 ≡ (0, turn_at m.0.turn) ∷ [] → m1.1 ≡ (0, turn_at m1.0.turn) ∷ []
done_turn kind m m1 side given c e = ap (λ (z : Seated). z.1) c.me ∙ (e ∙ ap (λ (z : Seated). (0, turn_at z.0.turn) ∷ []) (sym c.me))

pub done_reach : (kind : WalkKind) (m m1 : Seated) (side given : ℕ) → Walks kind m m1 side 0 given → m.0.hold ≡ walking kind side (replicate given Unseen) → Reaches m.0.pushed m.0.epoch given → Reaches m1.0.pushed m1.0.epoch (length (visits_of m1.0.hold))
done_reach kind m m1 side given c h reach =
    let long : length (visits_of m1.0.hold) ≡ given = c.long ∙ length_walking kind m side given h in
    subst (λ (z : Seated × ℕ). Reaches z.0.0.pushed z.0.0.epoch z.1) (λ i. (sym c.me i, sym long i)) reach

-- what it left with, seen from where it began
pub done_walk : (kind : WalkKind) (m m1 m2 : Seated) (side given : ℕ) → Walks kind m m1 side 0 given → m.0.hold ≡ walking kind side (replicate given Unseen) → IsWalked kind m1 (length (visits_of m1.0.hold)) (walk_of m1.0) m2 → IsWalked kind m given (walk_of m1.0) m2
done_walk kind m m1 m2 side given c h r =
    let list : Walk = walk_of m1.0 in
    let weight : Seated → ℕ = λ (z : Seated). z.0.weight in (
      r.0 ∙ (c.long ∙ length_walking kind m side given h),
      r.1 ∙ (ap (λ (z : Seated). (with_walk kind z.0 list, [])) c.me ∙ (λ i. (with_walk_held kind m.0 (walking kind side (visits_of m1.0.hold)) list i, []))),
      ap (λ (z : Seated). z.0.epoch) c.me,
      subst (λ (z : Seated). Covers z.0.pushed list) c.me r.3,
      (λ whole f. subst (λ (z : Seated). weigh_pushes f z.0.pushed ≡ weigh f list.values + weigh_walks f z.0.taken) c.me (r.4 (ap weight c.me ∙ whole) f)),
    )

-- a clear that took a side and walked it
pub cleared : (m m1 m2 : Seated) (side given : ℕ) (list : Walk) → (t : IsSideTaken m side given m1) → IsWalked clears m1 given list m2
    → (length list.values ≡ given) × (m2 ≡ (has_taken m.0 t.1 list, [])) × Covers m.0.pushed list × (m.0.weight ≡ 1024 → list.epoch ≡ length m.0.taken)
cleared m m1 m2 side given list (e, n, is, reach, own) r =
    let of_epoch : list.epoch ≡ e = r.2 ∙ ap (λ (z : Seated). z.0.epoch) is in (
      r.0,
      r.1 ∙ (ap (λ (z : Seated). (with_taken z.0 list, [])) is ∙ (λ i. (with_taken (holds_as m.0 (sym of_epoch i) n Nothing) list, []))),
      subst (λ (z : Seated). Covers z.0.pushed list) is r.3,
      (λ whole. of_epoch ∙ own whole),
    )

-- what a thread with the whole weight pushed is what it took
pub cleared_weighs : (m m1 m2 : Seated) (side given : ℕ) (list : Walk) (h : ℕ → ℕ) → IsSideTaken m side given m1 → IsWalked clears m1 given list m2 → m.0.weight ≡ 1024 → weigh_pushes h m2.0.pushed ≡ weigh_walks h m2.0.taken
cleared_weighs m m1 m2 side given list h (e, n, is, reach, own) r whole =
    let told = r.4 (ap (λ (z : Seated). z.0.weight) is ∙ whole) h in
    let pushed = ap (λ (z : Seated). weigh_pushes h z.0.pushed) r.1 in
    let taken = ap (λ (z : Seated). weigh_walks h z.0.taken) r.1 in
    let more = weigh_walks-append h m1.0.taken list in
    omega arith

-- calls seen through a part of the state
pub folds_seen : {P Q A : Type 0} (R : P → A → P → Type 0) (part : Q → P) (p : Q) (xs : List A) (q : Q) → FoldsTo (λ p x q. R (part p) x (part q)) p xs q → FoldsTo R (part p) xs (part q)
folds_seen R part p [] q e = ap part e
folds_seen R part p (x ∷ xs) q (m, r, f) = (part m, r, folds_seen R part m xs q f)
