-- From the law of one bucket to the law of a chain.
use Rattle.std.proofs.Common.{◌≡◌, ◌≢◌, ◌⊎◌, ℕ, zero, suc, ◌+◌, ◌<◌, ◌≤◌, cond, eqb, List, [], ◌∷◌, ◌++◌, length, slice_set, replicate, refl, sym, ap, subst, ◌∙◌, inl, inr, ⊎_elim, arith, length-append, append-nil, append_assoc, eq-eqb, ne_eqb}
use mathlib.Core.Logic.{dite}
use mathlib.Core.Option.{some, some-injective, some-ne-none}
use native.Mathlib.Decide.{ℕ_discrete}
use lib.ListN.{get_elem?}
use Rattle.metrics_bucket.specs.declared.view.View.{View}
use Rattle.metrics_bucket.specs.declared.view.Hold.{Hold}
use Rattle.metrics_bucket.specs.declared.view.Hold.TheVariants.{Nothing, Ticket, Written, Claimed, SideKnown, Reading, Clearing, Settling}
use Rattle.metrics_bucket.specs.BucketState.{BucketState, total, new_view, push, left_part, right_part, both_parts, Act, look, look_to_settle, ticket, write, finish, claim, look_at_turn, look_to_read, look_to_clear, takes, see, read, wipe, leave, quit, split, join, view_after, state_after, left_from}
use Rattle.metrics_bucket.specs.Facts.{pushed_of}
use Rattle.metrics_bucket.specs.History.{Event, May, Runs, start, opened}
use Rattle.metrics_bucket.specs.BucketLaw.{IsSound, BucketLaw, push_and_clear, by_first}
use Rattle.metrics_bucket.proofs.Sums.{total_set, total_snoc, weigh_pushes-append}
use Rattle.metrics_bucket.proofs.Histories.{runs_on}
use Rattle.metrics_growing.specs.ChainLaw.{Link, Move, inside, link, link_after, new_link, ChainRuns, history_of, finished_by, finished_in, finished, in_place, in_all, IsLaw, all_inside, TwoSegments, ChainLaw}

module _ {A : Type 0} where
  set_beside : (l : List A) (i j : ℕ) (a : A) → j ≢ i → get_elem? (slice_set l i a) j ≡ get_elem? l j
  set_beside [] i j a n = refl
  set_beside (x ∷ xs) zero zero a n = absurd (n refl)
  set_beside (x ∷ xs) zero (suc j) a n = refl
  set_beside (x ∷ xs) (suc i) zero a n = refl
  set_beside (x ∷ xs) (suc i) (suc j) a n = set_beside xs i j a (λ e. n (ap suc e))

-- what was pushed in a segment
abbrev pushed_there : (ℕ → ℕ) → BucketState → ℕ
pushed_there h w = total (pushed_of h) w.views

leaves_pushed : (h : ℕ → ℕ) (v : View) (hold : Hold) → pushed_of h (left_from v hold) ≡ pushed_of h v
leaves_pushed h v Nothing = refl
leaves_pushed h v (Ticket s i) = refl
leaves_pushed h v (Written s i x) = refl
leaves_pushed h v Claimed = refl
leaves_pushed h v (SideKnown s) = refl
leaves_pushed h v (Reading s visits) = refl
leaves_pushed h v (Clearing s visits) = refl
leaves_pushed h v (Settling s xs) = refl

module _ (h : ℕ → ℕ) (places : ℕ) (w : BucketState) (by : ℕ) (v : View) (at : get_elem? w.views by ≡ some v) where
  one : (act : Act) (u : View) → pushed_of h u ≡ pushed_of h v + finished_by h act → total (pushed_of h) (slice_set w.views by u) ≡ pushed_there h w + finished_by h act
  one act u e = let t = total_set (pushed_of h) w.views by v u at in omega arith

  -- a step adds what it finishes
  step_pushed : (all : ℕ) (act : Act) → May places all w by v act → pushed_there h (state_after places w by v act) ≡ pushed_there h w + finished_by h act
  step_pushed all look may = one look (view_after places w v look) (omega arith)
  step_pushed all look_to_settle may = one look_to_settle (view_after places w v look_to_settle) (omega arith)
  step_pushed all ticket may = one ticket (view_after places w v ticket) (omega arith)
  step_pushed all (write s i x) may = one (write s i x) (view_after places w v (write s i x)) (omega arith)
  step_pushed all (finish s i x) may = one (finish s i x) (view_after places w v (finish s i x)) (let e = weigh_pushes-append h v.pushed (push v.epoch i x ∷ []) in omega arith)
  step_pushed all claim may = one claim (view_after places w v claim) (omega arith)
  step_pushed all look_at_turn may = one look_at_turn (view_after places w v look_at_turn) (omega arith)
  step_pushed all look_to_read may = one look_to_read (view_after places w v look_to_read) (omega arith)
  step_pushed all look_to_clear may = one look_to_clear (view_after places w v look_to_clear) (omega arith)
  step_pushed all takes may = one takes (view_after places w v takes) (omega arith)
  step_pushed all (see i) may = one (see i) (view_after places w v (see i)) (omega arith)
  step_pushed all (read i) may = one (read i) (view_after places w v (read i)) (omega arith)
  step_pushed all (wipe s i x) may = one (wipe s i x) (view_after places w v (wipe s i x)) (omega arith)
  step_pushed all leave may = one leave (view_after places w v leave) (let e = leaves_pushed h v v.hold in omega arith)
  step_pushed all quit may = one quit (view_after places w v quit) (omega arith)
  step_pushed all split may =
      let t = total_set (pushed_of h) w.views by v (left_part v) at in
      let s = total_snoc (pushed_of h) (slice_set w.views by (left_part v)) (right_part v) in
      omega arith
  step_pushed all (join id x) may =
      let t = total_set (pushed_of h) w.views by v (both_parts v x) at in
      let there : get_elem? (slice_set w.views by (both_parts v x)) id ≡ some x = set_beside w.views by id (both_parts v x) may.2 ∙ may.3 in
      let s = total_set (pushed_of h) (slice_set w.views by (both_parts v x)) id x (new_view 0 0) there in
      let e = weigh_pushes-append h v.pushed x.pushed in
      omega arith

runs_pushed : (h : ℕ → ℕ) (places all : ℕ) (w : BucketState) (history : List Event) (w' : BucketState) → Runs places all w history w' → pushed_there h w + finished_in h history ≡ pushed_there h w'
runs_pushed h places all w [] w' r = let e = ap (pushed_there h) r in omega arith
runs_pushed h places all w (e ∷ es) w' r =
    let s = step_pushed h places w e.by r.0 r.1 all e.act r.3 in
    let t = runs_pushed h places all (state_after places w e.by r.0 e.act) es w' r.4 in
    omega arith

abbrev no_threads : ℕ → ℕ → List View
no_threads places n = replicate n (new_view places 1)

start_pushed : (h : ℕ → ℕ) (places n : ℕ) → total (pushed_of h) (no_threads places n) ≡ 0
start_pushed h places zero = refl
start_pushed h places (suc n) = let r = start_pushed h places n in omega arith

module _ (all : ℕ) (first : ℕ → BucketState) where
  abbrev Reached : List Event → Link → Type 0
  Reached history l = Runs l.places all (first l.places) history l.state

  -- each segment is reached by its history, and there is none of a segment that isn't there
  abbrev AreReached : (ℕ → List Event) → List Link → Type 0
  AreReached histories ls = ((i : ℕ) (l : Link) → get_elem? ls i ≡ some l → Reached (histories i) l) × ((i : ℕ) → length ls ≤ i → histories i ≡ [])

  abbrev one_more : (ℕ → List Event) → ℕ → Event → ℕ → List Event
  one_more histories j e i = cond (eqb i j) (histories i ++ e ∷ []) (histories i)

  there_below : (ls : List Link) (i : ℕ) (l : Link) → get_elem? ls i ≡ some l → i < length ls
  there_below [] i l e = absurd (some-ne-none l (sym e))
  there_below (k ∷ ls) zero l e = omega arith
  there_below (k ∷ ls) (suc i) l e = let r = there_below ls i l e in omega arith

  length_set : (ls : List Link) (i : ℕ) (l : Link) → length (slice_set ls i l) ≡ length ls
  length_set [] i l = refl
  length_set (k ∷ ls) zero l = refl
  length_set (k ∷ ls) (suc i) l = ap suc (length_set ls i l)

  set_there : (ls : List Link) (i : ℕ) (l k : Link) → get_elem? ls i ≡ some l → get_elem? (slice_set ls i k) i ≡ some k
  set_there [] i l k e = absurd (some-ne-none l (sym e))
  set_there (m ∷ ls) zero l k e = refl
  set_there (m ∷ ls) (suc i) l k e = set_there ls i l k e

  snoc_there : (ls : List Link) (k : Link) (i : ℕ) (l : Link) → get_elem? (ls ++ k ∷ []) i ≡ some l → (get_elem? ls i ≡ some l) ⊎ ((i ≡ length ls) × (k ≡ l))
  snoc_there [] k zero l e = inr (refl, some-injective k l e)
  snoc_there [] k (suc i) l e = absurd (some-ne-none l (sym e))
  snoc_there (m ∷ ls) k zero l e = inl e
  snoc_there (m ∷ ls) k (suc i) l e = ⊎_elim (λ (a : get_elem? ls i ≡ some l). inl a) (λ (b : (i ≡ length ls) × (k ≡ l)). inr (ap suc b.0, b.1)) (snoc_there ls k i l e)

  step_there : (histories : ℕ → List Event) (ls : List Link) (j : ℕ) (e : Event) (l : Link) (v : View) → AreReached histories ls → get_elem? ls j ≡ some l → get_elem? l.state.views e.by ≡ some v → 0 < v.weight
      → May l.places all l.state e.by v e.act → AreReached (one_more histories j e) (slice_set ls j (link_after l e v))
  step_there histories ls j e l v a at there has may = (each, none)
    where
      each : (i : ℕ) (k : Link) → get_elem? (slice_set ls j (link_after l e v)) i ≡ some k → Reached (one_more histories j e i) k
      each i k is = dite (ℕ_discrete i j)
          (λ same.
          let now : link_after l e v ≡ k = some-injective (link_after l e v) k (sym (set_there ls j l (link_after l e v) at) ∙ (ap (get_elem? (slice_set ls j (link_after l e v))) (sym same) ∙ is)) in
          let before : Reached (histories i) l = a.0 i l (ap (get_elem? ls) same ∙ at) in
          let after : Reached (histories i ++ e ∷ []) (link_after l e v) = runs_on l.places all (first l.places) (histories i) l.state e.by v e.act before there has may in
          rw (eq-eqb i j same) (subst (Reached (histories i ++ e ∷ [])) now after))
          (λ else. rw (ne_eqb i j else) (a.0 i k (sym (set_beside ls j i (link_after l e v) else) ∙ is)))

      none : (i : ℕ) → length (slice_set ls j (link_after l e v)) ≤ i → one_more histories j e i ≡ []
      none i low =
          let long = length_set ls j (link_after l e v) in
          let below = there_below ls j l at in
          rw (ne_eqb i j (omega arith)) (a.1 i (omega arith))

  new_there : (histories : ℕ → List Event) (ls : List Link) (places : ℕ) → AreReached histories ls → AreReached histories (ls ++ new_link first places ∷ [])
  new_there histories ls places a = (
    (λ i l e. ⊎_elim
        (λ (old : get_elem? ls i ≡ some l). a.0 i l old)
        (λ (new : (i ≡ length ls) × (new_link first places ≡ l)). let z = new.0 in subst (λ (es : List Event). Reached es l) (sym (a.1 i (omega arith))) (subst (Reached []) new.1 refl))
        (snoc_there ls (new_link first places) i l e)),
    (λ i low. let long = length-append ls (new_link first places ∷ []) in a.1 i (omega arith)),
  )

  more_of : (histories : ℕ → List Event) (j : ℕ) (e : Event) (moves : List Move) (i : ℕ) → one_more histories j e i ++ history_of i moves ≡ histories i ++ history_of i (inside j e ∷ moves)
  more_of histories j e moves i = dite (ℕ_discrete i j)
      (λ same. rw (eq-eqb i j same) (append_assoc (histories i) (e ∷ []) (history_of i moves)))
      (λ else. rw (ne_eqb i j else) refl)

  reached : (histories : ℕ → List Event) (ls : List Link) (moves : List Move) (ls' : List Link) → AreReached histories ls → ChainRuns all first ls moves ls' → (i : ℕ) (l : Link) → get_elem? ls' i ≡ some l → Reached (histories i ++ history_of i moves) l
  reached histories ls [] ls' a r i l e = subst (λ (es : List Event). Reached es l) (sym (append-nil (histories i))) (a.0 i l (ap (λ (ks : List Link). get_elem? ks i) r ∙ e))
  reached histories ls (inside j e ∷ moves) ls' a r i l is =
      subst (λ (es : List Event). Reached es l) (more_of histories j e moves i)
      (reached (one_more histories j e) (slice_set ls j (link_after r.0 e r.1)) moves ls' (step_there histories ls j e r.0 r.1 a r.2 r.3 r.4 r.5) r.6 i l is)
  reached histories ls (link places ∷ moves) ls' a r i l is = reached histories (ls ++ new_link first places ∷ []) moves ls' (new_there histories ls places a) r i l is

  abbrev pushed_all : (ℕ → ℕ) → List Link → ℕ
  pushed_all h [] = 0
  pushed_all h (l ∷ ls) = pushed_there h l.state + pushed_all h ls

  all_set : (h : ℕ → ℕ) (ls : List Link) (i : ℕ) (l k : Link) → get_elem? ls i ≡ some l → pushed_all h (slice_set ls i k) + pushed_there h l.state ≡ pushed_all h ls + pushed_there h k.state
  all_set h [] i l k e = absurd (some-ne-none l (sym e))
  all_set h (x ∷ xs) zero l k e = let is : pushed_there h x.state ≡ pushed_there h l.state = ap (λ (m : Link). pushed_there h m.state) (some-injective x l e) in omega arith
  all_set h (x ∷ xs) (suc i) l k e = let r = all_set h xs i l k e in omega arith

  all_more : (h : ℕ → ℕ) (ls : List Link) (l : Link) → pushed_all h (ls ++ l ∷ []) ≡ pushed_all h ls + pushed_there h l.state
  all_more h [] l = omega arith
  all_more h (x ∷ xs) l = let r = all_more h xs l in omega arith

  counts : (h : ℕ → ℕ) → ((places : ℕ) → pushed_there h (first places) ≡ 0) → (ls : List Link) (moves : List Move) (ls' : List Link) → ChainRuns all first ls moves ls' → pushed_all h ls + finished h moves ≡ pushed_all h ls'
  counts h empty ls [] ls' r = let e = ap (pushed_all h) r in omega arith
  counts h empty ls (inside i e ∷ moves) ls' r =
      let a = counts h empty (slice_set ls i (link_after r.0 e r.1)) moves ls' r.6 in
      let b = all_set h ls i r.0 (link_after r.0 e r.1) r.2 in
      let c = step_pushed h r.0.places r.0.state e.by r.1 r.3 all e.act r.5 in
      omega arith
  counts h empty ls (link places ∷ moves) ls' r =
      let a = counts h empty (ls ++ new_link first places ∷ []) moves ls' r in
      let b = all_more h ls (new_link first places) in
      let c = empty places in
      omega arith

  all_same : (h : ℕ → ℕ) (ls : List Link) → ((i : ℕ) (l : Link) → get_elem? ls i ≡ some l → pushed_there h l.state ≡ in_place h l) → pushed_all h ls ≡ in_all h ls
  all_same h [] a = refl
  all_same h (l ∷ ls) a = let e = a 0 l refl in let r = all_same h ls (λ i k z. a (suc i) k z) in omega arith

  of_one : ((places : ℕ) (history : List Event) (w : BucketState) → Runs places all (first places) history w → IsSound places all history w) → ((h : ℕ → ℕ) (places : ℕ) → pushed_there h (first places) ≡ 0) → IsLaw all first
  of_one law empty moves ls r =
      let of : (i : ℕ) (l : Link) → get_elem? ls i ≡ some l → Reached (history_of i moves) l =
      reached (λ _. []) [] moves ls ((λ i l e. absurd (some-ne-none l (sym e))), (λ i _. refl)) r in
      let balanced : (h : ℕ → ℕ) (i : ℕ) (l : Link) → get_elem? ls i ≡ some l → pushed_there h l.state ≡ in_place h l =
      λ h i l e. (law l.places (history_of i moves) l.state (of i l e)).facts.bags h in (
        (λ i l e. record {
          runs = of i l e;
          sound = law l.places (history_of i moves) l.state (of i l e);
          own = λ h.
              let p = runs_pushed h l.places all (first l.places) (history_of i moves) l.state (of i l e) in
              let z = empty h l.places in
              let b = balanced h i l e in
              omega arith;
        }),
        (λ h. let n = counts h (empty h) [] moves ls r in let s = all_same h ls (balanced h) in omega arith),
      )

-- a history of one segment, as moves of the chain
lifted : (all : ℕ) (first : ℕ → BucketState) (ls : List Link) (i places : ℕ) (w : BucketState) (history : List Event) (w' : BucketState) → get_elem? ls i ≡ some record { places = places; state = w } → Runs places all w history w'
    → (ls' : List Link) × ChainRuns all first ls (all_inside i history) ls' × (get_elem? ls' i ≡ some record { places = places; state = w' }) × ((j : ℕ) → j ≢ i → get_elem? ls' j ≡ get_elem? ls j)
lifted all first ls i places w [] w' at r = (ls, refl, at ∙ ap (λ (x : BucketState). some record { places = places; state = x }) r, λ j apart. refl)
lifted all first ls i places w (e ∷ es) w' at r =
    let l : Link = record { places = places; state = w } in
    let k : Link = link_after l e r.0 in
    let rest = lifted all first (slice_set ls i k) i places (state_after places w e.by r.0 e.act) es w' (set_there all first ls i l k at) r.4 in
    (rest.0, (l, r.0, at, r.1, r.2, r.3, rest.1), rest.2, λ j apart. rest.3 j apart ∙ set_beside ls i j k apart)

two : BucketLaw → TwoSegments
two law =
    let first : ℕ → BucketState = λ places. start places 1 in
    let done = lifted 1 first (new_link first 2 ∷ new_link first 1 ∷ []) 1 1 (start 1 1) (by_first push_and_clear) law.2.0 refl law.2.1 in
    let apart : 0 ≢ 1 = omega arith in
    (done.0, done.1, done.3 0 apart, (law.2.0, law.2.2, done.2, law.2.3, law.2.4))

pub chain : BucketLaw → ChainLaw
chain law = (
  (λ threads. of_one threads (λ places. start places threads) (λ places history w r. law.0 places threads history w r) (λ h places. start_pushed h places threads)),
  of_one 1024 opened law.1 (λ h places. refl),
  two law,
)
