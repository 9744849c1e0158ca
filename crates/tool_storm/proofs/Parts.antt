-- What the parts of pens of a growing bucket say.
use Rattle.std.proofs.Common.{◌≡◌, ◌⊎◌, ℕ, List, [], ◌∷◌, refl, ap, ⊎_elim, arith}
use Rattle.std.specs.List.{FoldsTo}
use Rattle.metrics_bucket.specs.declared.view.Walk.{Walk}
use Rattle.metrics_bucket.specs.Facts.{weigh}
use Rattle.metrics_bucket.specs.Blocks.{valued}
use Rattle.metrics_growing.specs.Parts.{Part, Keeps, FoundHeld, PushedByTries, TookAll, all_chunks}
use Rattle.metrics_growing.specs.Bags.{pushed_by, taken_by}
use Rattle.metrics_growing.proofs.Settling.{weigh_all, joined_all}
use Rattle.metrics_growing.proofs.Balances.{keeps_sums, held_sums, pushed_sums, took_all_sums}
use Rattle.tool_storm.specs.declared.tally.Tally.{Tally}
use Rattle.tool_storm.specs.Numbers.{count_of, sum_of}
use Rattle.tool_storm.specs.Tallies.{Adds}
use Rattle.tool_storm.specs.Pens.{bags_in, HasPushed, HasTaken, TellsTaken}
use Rattle.tool_storm.proofs.TallyLemmas.{tells_chunks}

pub parts_pushed : (old new : List Part) (v : ℕ) → PushedByTries v old new → HasPushed (bags_in old) (v ∷ []) (bags_in new)
parts_pushed old new v push = (refl, λ h. let a = (pushed_sums h v old new push).0 in (omega arith, (pushed_sums h v old new push).1))

-- a clear's chunks were all added
pub parts_took : (old : List Part) (walks : List Walk) (new : List Part) (t u : Tally) → TookAll old walks new → TellsTaken t (bags_in old) → FoldsTo (λ t xs u. Adds t (count_of xs) (sum_of xs) u) t (valued (λ (x : ℕ). x) (all_chunks walks)) u
    → HasTaken (bags_in old) (bags_in new) × TellsTaken u (bags_in new)
parts_took old walks new t u took told f =
    let k = tells_chunks (all_chunks walks) t u (taken_by (λ _. 1) old) (taken_by (λ x. x) old) told f in
    let x = k.0 in
    let y = k.1 in
    let a = (took_all_sums (λ _. 1) old walks new took).1 in
    let b = (took_all_sums (λ x. x) old walks new took).1 in
    let c = ap (weigh (λ _. 1)) (joined_all walks) in
    let d = ap (weigh (λ x. x)) (joined_all walks) in
    let e = weigh_all (λ _. 1) walks in
    let g = weigh_all (λ x. x) walks in
    ((refl, λ h. (took_all_sums h old walks new took).0), (omega arith, omega arith))

-- a clear that failed took nothing
pub parts_kept : (old new : List Part) (t u : Tally) (A B C : Type 0) → ((A × FoundHeld old new × B) ⊎ (Keeps old new × C)) → TellsTaken t (bags_in old) → u ≡ t → HasTaken (bags_in old) (bags_in new) × TellsTaken u (bags_in new)
parts_kept old new t u A B C none told same =
    let sums : (h : ℕ → ℕ) → (pushed_by h new ≡ pushed_by h old) × (taken_by h new ≡ taken_by h old) =
    λ h. ⊎_elim (λ (held : A × FoundHeld old new × B). held_sums h old new held.1) (λ (kept : Keeps old new × C). keeps_sums h old new kept.0) none in
    let a = (sums (λ _. 1)).1 in
    let b = (sums (λ x. x)).1 in
    let c = ap (λ (z : Tally). z.count) same in
    let d = ap (λ (z : Tally). z.sum) same in
    let x = told.0 in
    let y = told.1 in
    ((refl, λ h. (sums h).0), (omega arith, omega arith))
