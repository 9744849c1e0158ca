-- The start, and threads that split and join, keep the facts.
use Rattle.std.proofs.Common.{◌≡◌, ◌≢◌, ◌⊎◌, ℕ, zero, suc, ◌+◌, ◌-◌, ◌/◌, ◌%◌, ◌<◌, List, [], ◌∷◌, ◌++◌, length, get_or, set, replicate, refl, sym, ap, ◌∙◌, subst, inl, inr, ⊎_elim, arith, length-append}
use mathlib.Core.Option.{some, some-ne-none}
use lib.ListN.{get_elem?}
use Rattle.atomic_table.proofs.Lists.{at_set, at_snoc, set_else}
use Rattle.metrics_bucket.specs.declared.view.Walk.{Walk}
use Rattle.metrics_bucket.specs.declared.view.View.{View}
use Rattle.metrics_bucket.specs.declared.view.Hold.{Hold}
use Rattle.metrics_bucket.specs.declared.view.Hold.TheVariants.{Nothing, Ticket, Written, Claimed, SideKnown, Reading, Clearing, Settling}
use Rattle.metrics_bucket.specs.BucketState.{total, BucketState, place_index, new_view, left_part, right_part, both_parts}
use Rattle.metrics_bucket.specs.Facts.{weigh_pushes, weigh_walks, stands, given_at, ticket_in, ticket_at, owed_in, owed_at, turn_in, turn_of, took_in, took_of, weight_of, pushed_of, taken_of, wiped, HoldFits, IsIdle, ViewFits, Facts}
use Rattle.metrics_bucket.proofs.Sums.{total_set, total_snoc, weigh_pushes-append, given_else}

pub weigh_walks-both : (h : ℕ → ℕ) (xss yss : List Walk) → weigh_walks h (xss ++ yss) ≡ weigh_walks h xss + weigh_walks h yss
weigh_walks-both h [] yss = omega arith
weigh_walks-both h (x ∷ xss) yss = let r = weigh_walks-both h xss yss in omega arith

abbrev pub zeros : ℕ → List ℕ
zeros n = replicate n 0

no_marks : (h : ℕ → ℕ) (n m : ℕ) → stands h (zeros n) (zeros m) ≡ 0
no_marks h zero m = refl
no_marks h (suc n) zero = refl
no_marks h (suc n) (suc m) = no_marks h n m

get_zero : (n k : ℕ) → get_or (zeros n) k 0 ≡ 0
get_zero zero k = refl
get_zero (suc n) zero = refl
get_zero (suc n) (suc k) = get_zero n k

length_zero : (n : ℕ) → length (zeros n) ≡ n
length_zero zero = refl
length_zero (suc n) = ap suc (length_zero n)

-- a state where nothing was done, with these threads, none of which has anything
abbrev pub fresh : ℕ → List View → BucketState
fresh places views = record { epoch = 0; live = 0; given = 0; turn = 0; values = zeros (places + places); marks = zeros (places + places); views = views }

abbrev pub IsNew : ℕ → View → Type 0
IsNew places v = (v.places ≡ places) × IsIdle v

pub opens : (places all : ℕ) (views : List View) → total weight_of views ≡ all → ((j : ℕ) (v : View) → get_elem? views j ≡ some v → IsNew places v) → Facts places all (fresh places views)
opens places all views sum new =
    let none_of : (f : View → ℕ) → ((v : View) → IsIdle v → f v ≡ 0) → total f views ≡ 0 = λ f z. Rattle.metrics_bucket.proofs.Sums.total_zero f views (λ j v at. z v (new j v at).1) in
    let none_there : (h : ℕ → ℕ) → total (pushed_of h) views ≡ 0 = λ h. none_of (pushed_of h) (λ v i. ap (weigh_pushes h) i.0) in
    record {
      side = omega arith;
      room = omega arith;
      values_long = length_zero (places + places);
      marks_long = length_zero (places + places);
      even = λ s i a b.
          let m = get_zero (places + places) (place_index places s i) in
          let t = none_of (ticket_at s i) (λ v z. ap (ticket_in s i) z.3) in
          let o = none_of (owed_at s i) (λ v z. ap (owed_in s i) z.3) in
          let g : given_at 0 0 s i ≡ 0 = none_given s i in
          omega arith;
      turns = sym (none_of turn_of (λ v z. ap turn_in z.3));
      one_turn = omega arith;
      swaps = let t = none_of took_of (λ v z. let a : length v.taken ≡ 0 = ap length z.1 in let b : took_in v.hold ≡ 0 = ap took_in z.3 in omega arith) in omega arith;
      shares = sum;
      bags = λ h.
          let p = none_there h in
          let t = none_of (taken_of h) (λ v z. let a : weigh_walks h v.taken ≡ 0 = ap (weigh_walks h) z.1 in let b : wiped h v.hold ≡ 0 = ap (wiped h) z.3 in omega arith) in
          let m = no_marks h (places + places) (places + places) in
          omega arith;
      each = λ j v at. let n = new j v at in record {
        size = λ _. n.0;
        idle = λ _. n.1;
        hold = subst (HoldFits places all (fresh places views) v.weight) (sym n.1.3) tt;
        reads = λ k xs e h. absurd (some-ne-none xs (sym e ∙ ap (λ (l : List Walk). get_elem? l k) n.1.2));
      };
    }
  where
    none_given : (s i : ℕ) → given_at 0 0 s i ≡ 0
    none_given zero i = refl
    none_given (suc s) i = given_else 0 0 (suc s) i (λ e. omega arith)

at_either : {A : Type 0} (xs ys : List A) (n : ℕ) (a : A) → get_elem? (xs ++ ys) n ≡ some a → (get_elem? xs n ≡ some a) ⊎ ((m : ℕ) × (get_elem? ys m ≡ some a))
at_either [] ys n a e = inr (n, e)
at_either (x ∷ xs) ys zero a e = inl e
at_either (x ∷ xs) ys (suc n) a e = at_either xs ys n a e

module _ (places all : ℕ) (w : BucketState) (f : Facts places all w) where
  -- other lists of threads, in which as much was pushed
  same_fits : (views : List View) (u : View) → ((h : ℕ → ℕ) → total (pushed_of h) views ≡ total (pushed_of h) w.views) → ViewFits places all w u → ViewFits places all record w { views = views } u
  same_fits views u same g = record {
    size = g.size;
    idle = g.idle;
    hold = same_hold u.weight u.hold g.hold;
    reads = λ n xs e h. let a = g.reads n xs e h in let b = same h in omega arith;
  }
    where
      same_hold : (weight : ℕ) (hold : Hold) → HoldFits places all w weight hold → HoldFits places all record w { views = views } weight hold
      same_hold weight Nothing h = tt
      same_hold weight (Ticket s i) h = h
      same_hold weight (Written s i x) h = h
      same_hold weight Claimed h = tt
      same_hold weight (SideKnown s) h = h
      same_hold weight (Reading s visits) h = h
      same_hold weight (Clearing s visits) h = h
      same_hold weight (Settling s xs) h = h

  pub splits : (id : ℕ) (v : View) → get_elem? w.views id ≡ some v → 1 < v.weight → v.hold ≡ Nothing → Facts places all record w { views = set w.views id (left_part v) ++ right_part v ∷ [] }
  splits id v at heavy e =
      let vs : List View = set w.views id (left_part v) in
      let views : List View = vs ++ right_part v ∷ [] in
      let same : (g : View → ℕ) → g (left_part v) ≡ g v → g (right_part v) ≡ 0 → total g views ≡ total g w.views = λ g a b. let t = total_set g w.views id v (left_part v) at in let s = total_snoc g vs (right_part v) in omega arith in
      let pushes : (h : ℕ → ℕ) → total (pushed_of h) views ≡ total (pushed_of h) w.views = λ h. same (pushed_of h) refl refl in
      let mine = f.each id v at in
      record {
        side = f.side;
        room = f.room;
        values_long = f.values_long;
        marks_long = f.marks_long;
        even = λ s i a b. let x = f.even s i a b in let t = same (ticket_at s i) refl refl in let o = same (owed_at s i) refl refl in omega arith;
        turns = let x = f.turns in let t = same turn_of refl refl in omega arith;
        one_turn = f.one_turn;
        swaps = f.swaps ∙ ap (λ (n : ℕ). n % 2) (sym (same took_of refl (omega arith)));
        shares = let x = f.shares in let t = total_set weight_of w.views id v (left_part v) at in let s = total_snoc weight_of vs (right_part v) in omega arith;
        bags = λ h. let x = f.bags h in let p = pushes h in let t = same (taken_of h) refl (omega arith) in omega arith;
        each = λ j u there. ⊎_elim
            (λ (r : get_elem? vs j ≡ some u). ⊎_elim
            (λ (t : (j ≡ id) × (left_part v ≡ u)). subst (λ (z : View). ViewFits places all record w { views = views } z) t.1 record {
              size = λ _. mine.size (omega arith);
              idle = λ none. absurd (omega arith);
              hold = subst (HoldFits places all record w { views = views } (v.weight - v.weight / 2)) (sym e) tt;
              reads = λ n xs q h. let a = mine.reads n xs q h in let b = pushes h in omega arith;
            })
            (λ (t : (j ≢ id) × (get_elem? w.views j ≡ some u)). same_fits views u pushes (f.each j u t.1))
            (at_set w.views id j (left_part v) u r))
            (λ (r : right_part v ≡ u). subst (λ (z : View). ViewFits places all record w { views = views } z) r record {
              size = λ _. mine.size (omega arith);
              idle = λ _. (refl, refl, refl, refl);
              hold = tt;
              reads = λ n xs q h. absurd (some-ne-none xs (sym q));
            })
            (at_snoc vs (right_part v) u j there);
      }

  pub joins : (id : ℕ) (v : View) (other_id : ℕ) (x : View) → get_elem? w.views id ≡ some v → other_id ≢ id → get_elem? (set w.views id (both_parts v x)) other_id ≡ some x
      → 0 < v.weight → v.hold ≡ Nothing → x.hold ≡ Nothing → Facts places all record w { views = set (set w.views id (both_parts v x)) other_id (new_view 0 0) }
  joins id v other_id x at apart there heavy e d =
      let vs : List View = set w.views id (both_parts v x) in
      let views : List View = set vs other_id (new_view 0 0) in
      let same : (g : View → ℕ) → g (both_parts v x) ≡ g v + g x → g (new_view 0 0) ≡ 0 → total g views ≡ total g w.views =
      λ g a b. let t = total_set g w.views id v (both_parts v x) at in let s = total_set g vs other_id x (new_view 0 0) there in omega arith
      in
      let pushes : (h : ℕ → ℕ) → total (pushed_of h) views ≡ total (pushed_of h) w.views = λ h. same (pushed_of h) (weigh_pushes-append h v.pushed x.pushed) refl in
      let mine = f.each id v at in
      let there' : get_elem? w.views other_id ≡ some x = sym (set_else w.views id other_id (both_parts v x) apart) ∙ there in
      let his = f.each other_id x there' in
      record {
        side = f.side;
        room = f.room;
        values_long = f.values_long;
        marks_long = f.marks_long;
        even = λ s i a b.
            let y = f.even s i a b in
            let x0 : ticket_at s i x ≡ 0 = ap (ticket_in s i) d in
            let t = same (ticket_at s i) (omega arith) refl in
            let y0 : owed_at s i x ≡ 0 = ap (owed_in s i) d in
            let o = same (owed_at s i) (omega arith) refl in
            omega arith;
        turns = let y = f.turns in let x0 : turn_of x ≡ 0 = ap turn_in d in let t = same turn_of (omega arith) refl in omega arith;
        one_turn = f.one_turn;
        swaps = let x0 : took_in x.hold ≡ 0 = ap took_in d in let l = length-append v.taken x.taken in f.swaps ∙ ap (λ (n : ℕ). n % 2) (sym (same took_of (omega arith) (omega arith)));
        shares = let y = f.shares in let t = same weight_of refl refl in omega arith;
        bags = λ h.
            let y = f.bags h in
            let p = pushes h in
            let x0 : wiped h x.hold ≡ 0 = ap (wiped h) d in
            let m = weigh_walks-both h v.taken x.taken in
            let t = same (taken_of h) (omega arith) (omega arith) in
            omega arith;
        each = λ j u r. ⊎_elim
            (λ (t : (j ≡ other_id) × (new_view 0 0 ≡ u)). subst (λ (z : View). ViewFits places all record w { views = views } z) t.1 record {
              size = λ some_weight. absurd (omega arith);
              idle = λ _. (refl, refl, refl, refl);
              hold = tt;
              reads = λ n xs q h. absurd (some-ne-none xs (sym q));
            })
            (λ (t : (j ≢ other_id) × (get_elem? vs j ≡ some u)). ⊎_elim
            (λ (q : (j ≡ id) × (both_parts v x ≡ u)). subst (λ (z : View). ViewFits places all record w { views = views } z) q.1 record {
              size = λ _. mine.size heavy;
              idle = λ none. absurd (omega arith);
              hold = subst (HoldFits places all record w { views = views } (v.weight + x.weight)) (sym e) tt;
              reads = λ n xs k h. ⊎_elim
                  (λ (l : get_elem? v.read n ≡ some xs). let a = mine.reads n xs l h in let b = pushes h in omega arith)
                  (λ (l : (m : ℕ) × (get_elem? x.read m ≡ some xs)). let a = his.reads l.0 xs l.1 h in let b = pushes h in omega arith)
                  (at_either v.read x.read n xs k);
            })
            (λ (q : (j ≢ id) × (get_elem? w.views j ≡ some u)). same_fits views u pushes (f.each j u q.1))
            (at_set w.views id j (both_parts v x) u t.1))
            (at_set vs other_id j (new_view 0 0) u r);
      }
