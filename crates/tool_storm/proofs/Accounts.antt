-- What the accounts of pens of a `RuledBucket` say.
use Rattle.std.proofs.Common.{◌≡◌, ℕ, ◌+◌, List, [], ◌∷◌, ◌++◌, sym, ap, subst, ◌∙◌, arith}
use Rattle.std.specs.List.{FoldsTo}
use Rattle.metrics_bucket.specs.declared.view.Push.{Push}
use Rattle.metrics_bucket.specs.declared.view.Walk.{Walk}
use Rattle.metrics_bucket.specs.BucketState.{push}
use Rattle.metrics_bucket.specs.Account.{Account, joined_account, took_account, IsPushed, IsBusy}
use Rattle.metrics_bucket.specs.Facts.{weigh, weigh_pushes, weigh_walks}
use Rattle.metrics_bucket.specs.Blocks.{newest_first, valued}
use Rattle.metrics_bucket.proofs.Sums.{weigh_pushes-append}
use Rattle.metrics_bucket.proofs.Shares.{weigh_walks-both}
use Rattle.metrics_bucket.proofs.Visits.{weigh_walks-append}
use Rattle.tool_storm.specs.declared.tally.Tally.{Tally}
use Rattle.tool_storm.specs.Numbers.{count_of, sum_of}
use Rattle.tool_storm.specs.Tallies.{Adds}
use Rattle.tool_storm.specs.Pens.{bags_of, HasPushed, IsJoined, TellsTaken}
use Rattle.tool_storm.proofs.TallyLemmas.{tells_chunks}
use Rattle.tool_storm.proofs.Chunks.{weigh_newest}

pub account_pushed : (a b : Account) (v : ℕ) → IsPushed a v b → HasPushed (bags_of a) (v ∷ []) (bags_of b)
account_pushed a b v (e, i, l, now) =
    let x : Push = push e i v in (
      ap (λ (z : Account). z.weight) now,
      λ h.
          let p : weigh_pushes h b.pushed ≡ weigh_pushes h (a.pushed ++ x ∷ []) = ap (λ (z : Account). weigh_pushes h z.pushed) now in
          let q = weigh_pushes-append h a.pushed (x ∷ []) in
          (omega arith, ap (λ (z : Account). weigh_walks h z.taken) now),
    )

pub account_joined : (a b c : Account) → c ≡ joined_account a b → IsJoined (bags_of a) (bags_of b) (bags_of c)
account_joined a b c is = (
  ap (λ (z : Account). z.weight) is,
  λ h. (
    ap (λ (z : Account). weigh_pushes h z.pushed) is ∙ weigh_pushes-append h a.pushed b.pushed,
    ap (λ (z : Account). weigh_walks h z.taken) is ∙ weigh_walks-both h a.taken b.taken,
  ),
)

-- a clear's chunks were all added
pub account_took : (a b : Account) (walk : Walk) (t u : Tally) → b ≡ took_account a walk → TellsTaken t (bags_of a) → FoldsTo (λ t xs u. Adds t (count_of xs) (sum_of xs) u) t (valued (λ (x : ℕ). x) (newest_first walk.values)) u → TellsTaken u (bags_of b)
account_took a b walk t u is told f =
    let list : List ℕ = walk.values in
    let k = tells_chunks (newest_first list) t u (weigh_walks (λ _. 1) a.taken) (weigh_walks (λ x. x) a.taken) told f in
    let x = k.0 in
    let y = k.1 in
    let taken : (h : ℕ → ℕ) → weigh_walks h b.taken ≡ weigh_walks h a.taken + weigh h list = λ h. ap (λ (z : Account). weigh_walks h z.taken) is ∙ weigh_walks-append h a.taken walk in
    let c = taken (λ _. 1) in
    let s = taken (λ x. x) in
    let d = weigh_newest (λ _. 1) list in
    let e = weigh_newest (λ x. x) list in
    (omega arith, omega arith)

pub account_busy : (a b : Account) (t u : Tally) → IsBusy a b → TellsTaken t (bags_of a) → u ≡ t → TellsTaken u (bags_of b)
account_busy a b t u is told same = subst (λ (z : Account). TellsTaken u (bags_of z)) (sym is) (subst (λ (z : Tally). TellsTaken z (bags_of a)) (sym same) told)
