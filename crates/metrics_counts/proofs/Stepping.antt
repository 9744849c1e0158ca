-- One step on the word of a cell, under its invariant. Assumes `Logic`.
use Rattle.std.proofs.Common.{◌≡◌, ℕ, ◌+◌, Bool, true, false, List, [], ◌∷◌, ◌++◌, set, arith, subst, sym}
use mathlib.Core.Option as maybe
use lib.ListN.{get_elem?}
use seplogic.Ra.Ura.{Ura}
use base.Fraction.{full_share}
use base.Logic.{SProp, ent, sep, ex, all, upd, emp, upd_i, all_e, via}
use base.Fml.{Lft, Share, Fml, ftrue, fsep, fex, fbor, flft}
use types.Logic.{Logic, sem}
use types.Kit.{‵, raw, ◌⊛◌, some, given, later, ◌$◌, ◌∵◌, !, qed, by, move, split, fsplit, fjoin, fpick, fpack, pick, learn, show, frame, each, assume, suffices, settle, use0, use1, use2, updating, await, now, done}
use types.Keyed.{entries_new}
use types.Owned.{basic}
use denote.RawPtr.{block_ptr}
use denote.Steps.{nothing}
use Rattle.core.specs.Sync.RawAtomic.{asks, always}
use Rattle.core.proofs.raw_atomic.Asked.{borrowed, Lies, Again}
use Rattle.atomic_table.specs.Seated.{word, fact, halved, unused, roster}
use Rattle.atomic_table.proofs.Roster.{Moved, moves, Joined, joins}
use Rattle.metrics_counts.specs.declared.view.View.{View}
use Rattle.metrics_counts.specs.Counting.{IsCounted, first_view, WasAdded}
use Rattle.metrics_counts.specs.Owning.{view_coded, seat_owns, beside, counted}
use Rattle.metrics_counts.proofs.CountSteps.{Rises, goes_on, begins}

module _ {M : Type 1} {𝓤 : Ura M} (𝓛 : Logic 𝓤) where
  abbrev pub Opened : ℕ → SProp 𝓤
  Opened γ = sem 𝓛 (roster view_coded.code γ 0 [])

  -- the views of a new cell: none
  pub opens : ent 𝓤 (emp 𝓤) (𝓛.H.⇛ (ex 𝓤 Opened))
  opens = let c = view_coded.code in
      qed 𝓛 [] ∵ updating ! $ use0 𝓛 (later (some (λ (γ : ℕ). ‵ (unused c γ 0 first_view)))) (via 𝓤 _ (entries_new halved 𝓛 0 (λ _. (full_share, c first_view))) (basic 𝓛 (ex 𝓤 (λ (γ : ℕ). sem 𝓛 (unused c γ 0 first_view))))) $ await ! tt $ pick ! (λ γ.
      fpack ! View (unused c γ 0) first_view $ now ! $ show ! Opened γ $ done !)

  module _ (γ : ℕ) (f amount : ℕ → ℕ) (fits : Rises f amount) (v : View) where
    abbrev pub told : ℕ → ℕ × View → Fml
    told n t = fsep (fact (WasAdded (amount n) v n t.1)) (seat_owns true γ t.0 t.1)

    -- the seat after the step
    abbrev pub went : ℕ → Fml
    went n = fex (ℕ × View) (told n)

    abbrev Goal : ℕ → SProp 𝓤
    Goal n = sep 𝓤 (sem 𝓛 (beside γ (f n))) (sem 𝓛 (went n))

    again : (id n : ℕ) → ent 𝓤 (sep 𝓤 (sem 𝓛 (beside γ n)) (sem 𝓛 (seat_owns true γ id v))) (upd 𝓤 (Goal n))
    again id n = let c = view_coded in let Z : SProp 𝓤 = Goal n in
        qed 𝓛 (‵ (beside γ n) ∷ ‵ (seat_owns true γ id v) ∷ []) ∵ fpick ! (λ vs. fsplit ! $ move ! (1 ∷ []) $ fpick ! (λ so. move ! (1 ∷ 2 ∷ []) $
        use2 𝓛 (given (get_elem? vs id ≡ maybe.some v) (raw (all 𝓤 (Moved 𝓛 c γ 0 vs id id)))) (moves 𝓛 c γ vs 0 id id v (omega arith)) $
        learn ! (λ at. let r = goes_on f amount fits n vs so id v at in
        use1 𝓛 (raw (Moved 𝓛 c γ 0 vs id id r.0)) (all_e 𝓤 (Moved 𝓛 c γ 0 vs id id) r.0) $
        settle 𝓛 Z (‵ (roster c.code γ 0 (set vs id r.0)) ⊛ ‵ (seat_owns true γ id r.0)) $ split ! $ suffices ! _ (upd_i 𝓤 Z) $
        move ! (2 ∷ []) $ fpack ! (IsCounted (f n) (set vs id r.0)) (λ _. ftrue) r.1 $ move ! (1 ∷ 0 ∷ []) $ fjoin ! $
        fpack ! (List View) (λ views. fsep (roster c.code γ 0 views) (fact (IsCounted (f n) views))) (set vs id r.0) $ frame ! $
        nothing ! $ fpack ! (WasAdded (amount n) v n r.0) (λ _. ftrue) r.2 $ fjoin ! $ fpack ! (ℕ × View) (told n) (id, r.0) $ done !)))

    first : (id n : ℕ) → v ≡ first_view → ent 𝓤 (sep 𝓤 (sem 𝓛 (beside γ n)) (sem 𝓛 ftrue)) (upd 𝓤 (Goal n))
    first id n is = let c = view_coded in let Z : SProp 𝓤 = Goal n in
        qed 𝓛 (‵ (beside γ n) ∷ ‵ ftrue ∷ []) ∵ fpick ! (λ vs. fsplit ! $ move ! (1 ∷ []) $ fpick ! (λ so. let r = begins f amount fits n vs so in
        let us : List View = vs ++ r.0 ∷ [] in move ! (1 ∷ []) $
        use1 𝓛 (raw (upd 𝓤 (ex 𝓤 (Joined 𝓛 c γ 0 vs r.0)))) (joins 𝓛 c γ vs 0 r.0) $
        settle 𝓛 Z (some (λ (j : ℕ). ‵ (roster c.code γ 0 us) ⊛ ‵ (seat_owns true γ j r.0))) $ pick ! (λ j. split ! $ suffices ! _ (upd_i 𝓤 Z) $
        move ! (2 ∷ []) $ fpack ! (IsCounted (f n) us) (λ _. ftrue) r.1 $ move ! (1 ∷ 0 ∷ []) $ fjoin ! $
        fpack ! (List View) (λ views. fsep (roster c.code γ 0 views) (fact (IsCounted (f n) views))) us $ frame ! $
        move ! (1 ∷ []) $ fpack ! (WasAdded (amount n) v n r.0) (λ _. ftrue) (subst (λ (u : View). WasAdded (amount n) u n r.0) (sym is) r.2) $ fjoin ! $
        fpack ! (ℕ × View) (told n) (j, r.0) $ done !)))

    pub follows : (has_stepped : Bool) (id n : ℕ) → ent 𝓤 (sep 𝓤 (sem 𝓛 (beside γ n)) (sem 𝓛 (seat_owns has_stepped γ id v))) (upd 𝓤 (Goal n))
    follows true id n = again id n
    follows false id n = qed 𝓛 (‵ (beside γ n) ∷ ‵ (fact (v ≡ first_view)) ∷ []) ∵ move ! (1 ∷ []) $ fpick ! (λ is. move ! (1 ∷ 0 ∷ []) $ by ! (first id n is))

    pub steps : (has_stepped : Bool) (id : ℕ) (κ : Lft) (q : Share) (b o : ℕ)
        → ent 𝓤 (sep 𝓤 (𝓛.A.inv (fbor κ (counted γ b o))) (sep 𝓤 (𝓛.A.lft κ q) (sem 𝓛 (seat_owns has_stepped γ id v)))) (asks 𝓛 (block_ptr b (o + 0)) f always (λ n. fsep (flft κ q) (went n)))
    steps has_stepped id κ q b o = let e : ℕ = o + 0 in let I : Fml = counted γ b o in let J : Fml = seat_owns has_stepped γ id v in
        let G : SProp 𝓤 = ex 𝓤 (Lies 𝓛 κ q I b e f always went) in borrowed 𝓛 κ q I b e f always went (sem 𝓛 J) (
        qed 𝓛 (‵ I ∷ ‵ J ∷ []) ∵ suffices ! _ (upd_i 𝓤 G) $ fpick ! (λ n. fsplit ! $ let Z : SProp 𝓤 = sep 𝓤 (sem 𝓛 I) (sem 𝓛 (went n)) in
        show ! (Lies 𝓛 κ q I b e f always went) n $ frame ! $ each ! (λ (_ : Unit {0}). Again 𝓛 κ q I b e f always went n) (λ _. assume ! (‵ (word b e (f n))) $
        move ! (1 ∷ 2 ∷ []) $
        use2 𝓛 (raw (upd 𝓤 (Goal n))) (follows has_stepped id n) $ settle 𝓛 Z (‵ (beside γ (f n)) ⊛ ‵ (went n)) $ split ! $ suffices ! _ (upd_i 𝓤 Z) $
        move ! (2 ∷ 0 ∷ []) $ fjoin ! $ fpack ! ℕ (λ m. fsep (word b e m) (beside γ m)) (f n) $ done !)))
