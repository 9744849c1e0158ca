-- The steps of a push keep the facts.
use Rattle.std.proofs.Common.{◌≡◌, ℕ, ◌+◌, ◌<◌, [], ◌∷◌, get_or, set, refl, ap, ◌∙◌, ⊎_elim, arith, length-set, get_or-set_same, get_or-set_other}
use mathlib.Core.Option.{some}
use lib.ListN.{get_elem?}
use Rattle.metrics_bucket.specs.declared.view.View.{View}
use Rattle.metrics_bucket.specs.declared.view.Hold.TheVariants.{Nothing, Ticket, Written}
use Rattle.metrics_bucket.specs.BucketState.{BucketState, place_index, holding, holding_at, push, pushing, ticket, write, finish, state_after}
use Rattle.metrics_bucket.specs.Facts.{ticket_in, pushed_of, HoldFits, ViewFits, Facts}
use Rattle.metrics_bucket.proofs.Sums.{weigh_pushes-append, stands_value, stands_mark, index_apart, index_below, here_or, same_here, same_else, given_next}
use Rattle.metrics_bucket.proofs.Keep.{alone, held_by, facts_after}

module _ (places all : ℕ) (w : BucketState) (id : ℕ) (v : View) (f : Facts places all w) (at : get_elem? w.views id ≡ some v) (has : 0 < v.weight) where
  abbrev mine : ViewFits places all w v
  mine = f.each id v at

  pub tickets : v.hold ≡ Nothing → w.given < places → Facts places all (state_after places w id v ticket)
  tickets e room =
      facts_after places all w (state_after places w id v ticket) id (holding v Nothing) (holding_at v w.epoch (Ticket w.live w.given)) f (held_by w id v Nothing at e) has refl refl refl refl refl (omega arith) (omega arith) f.values_long f.marks_long
      (λ s i a b. let g = given_next w.live w.given s i in omega arith) refl f.one_turn (λ h. refl) (λ h. omega arith) (f.side, room) mine.reads
      (λ j z n there s i a b t. refl)
      (λ j z n there s i a b t m. (m, refl))

  module _ (s i : ℕ) where
    abbrev k : ℕ
    k = place_index places s i

    pub writes : (x : ℕ) → v.hold ≡ Ticket s i → Facts places all (state_after places w id v (write s i x))
    writes x e =
        let v0 : View = holding v (Ticket s i) in
        let at0 = held_by w id v (Ticket s i) at e in
        let fits : HoldFits places all w v.weight (Ticket s i) = (f.each id v0 at0).hold in
        let single = alone places all w f id v0 s i at0 fits.0 fits.1 (same_here s i s i refl refl) in
        let in_range = index_below places s i fits.1 in
        let long = f.values_long in
        let apart : (s' i' : ℕ) → s' < 2 → i' < places → (s' ≡ s → i' ≡ i → ⊥) → get_or (set w.values k x) (place_index places s' i') 0 ≡ get_or w.values (place_index places s' i') 0 =
        λ s' i' a b n. get_or-set_other w.values k (place_index places s' i') x 0 (index_apart places s' i' s i a fits.0 b fits.1 n)
        in
        facts_after places all w (state_after places w id v (write s i x)) id v0 (holding v (Written s i x)) f at0 has refl refl refl refl refl (omega arith) f.room (length-set w.values k x ∙ long) f.marks_long (λ s' i' a b. refl) refl f.one_turn
        (λ h. let d = stands_value h w.values w.marks k x single.0 in omega arith) (λ h. omega arith) (fits.0, fits.1, get_or-set_same w.values k x 0 (omega arith)) mine.reads
        (λ j z n there s' i' a b t. apart s' i' a b
        (λ p q. let no : ticket_in s i z.hold ≡ 0 = single.1 j z n there in let same_place : ticket_in s' i' z.hold ≡ ticket_in s i z.hold = (λ m. ticket_in (p m) (q m) z.hold) in absurd (omega arith)))
        (λ j z n there s' i' a b t m. (
          m,
          apart s' i' a b (λ p q. let no = single.0 in let same_place : get_or w.marks (place_index places s' i') 0 ≡ get_or w.marks k 0 = (λ l. get_or w.marks (place_index places (p l) (q l)) 0) in absurd (omega arith)),
        ))

    pub finishes : (x : ℕ) → v.hold ≡ Written s i x → Facts places all (state_after places w id v (finish s i x))
    finishes x e =
        let v0 : View = holding v (Written s i x) in
        let at0 = held_by w id v (Written s i x) at e in
        let fits : HoldFits places all w v.weight (Written s i x) = (f.each id v0 at0).hold in
        let single = alone places all w f id v0 s i at0 fits.0 fits.1 (same_here s i s i refl refl) in
        let in_range = index_below places s i fits.1 in
        let long = f.values_long in
        let marks_long = f.marks_long in
        let none_yet = single.0 in
        let apart : (s' i' : ℕ) → s' < 2 → i' < places → (s' ≡ s → i' ≡ i → ⊥) → get_or (set w.marks k 1) (place_index places s' i') 0 ≡ get_or w.marks (place_index places s' i') 0 =
        λ s' i' a b n. get_or-set_other w.marks k (place_index places s' i') 1 0 (index_apart places s' i' s i a fits.0 b fits.1 n)
        in
        let here : get_or (set w.marks k 1) k 0 ≡ 1 = get_or-set_same w.marks k 1 0 (omega arith) in
        let more : (h : ℕ → ℕ) → pushed_of h (pushing v i x) ≡ pushed_of h v + h x = λ h. let m = weigh_pushes-append h v.pushed (push v.epoch i x ∷ []) in omega arith in
        facts_after places all w (state_after places w id v (finish s i x)) id v0 (pushing v i x) f at0 has refl refl refl refl refl (omega arith) f.room long (length-set w.marks k 1 ∙ marks_long)
        (λ s' i' a b. ⊎_elim
        (λ (r : (s' ≡ s) × (i' ≡ i)).
        let one = same_here s' i' s i r.0 r.1 in
        let now : get_or (set w.marks k 1) (place_index places s' i') 0 ≡ 1 = (λ m. get_or (set w.marks k 1) (place_index places (r.0 m) (r.1 m)) 0) ∙ here in
        let was : get_or w.marks (place_index places s' i') 0 ≡ 0 = (λ m. get_or w.marks (place_index places (r.0 m) (r.1 m)) 0) ∙ none_yet in
        omega arith)
        (λ (n : s' ≡ s → i' ≡ i → ⊥). let zero_here = same_else s' i' s i n in let m = apart s' i' a b n in omega arith)
        (here_or s' i' s i))
        refl f.one_turn
        (λ h. let d = stands_mark h w.values w.marks k (omega arith) (omega arith) none_yet in let is : h (get_or w.values k 0) ≡ h x = ap h fits.2 in let m = more h in omega arith)
        (λ h. let m = more h in omega arith) tt mine.reads
        (λ j z n there s' i' a b t. refl)
        (λ j z n there s' i' a b t m. (
          apart s' i' a b (λ p q. let same_place : get_or w.marks (place_index places s' i') 0 ≡ get_or w.marks k 0 = (λ l. get_or w.marks (place_index places (p l) (q l)) 0) in absurd (omega arith)) ∙ m,
          refl,
        ))
