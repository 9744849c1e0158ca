use Rattle.std.proofs.Common.{rules, true, ◌≡◌, ℕ, Bool, [], subst, sym}
use Rattle.atomic_table.specs.Table.{step, Enters}
use mathlib.Core.Option.{none}
use Rattle.metrics_bucket.specs.BucketState.{first_view}
use Rattle.metrics_bucket.specs.Steps.{control_looked}
use Rattle.metrics_bucket.specs.History.{FollowsHistory}
use Rattle.metrics_bucket.proofs.Allowed.{enters}
use Rattle.metrics_bucket.proofs.atomic.AtomicBucket.enter.Goals as goal

pub load_new_seat-requires : goal.load_new_seat-requires
load_new_seat-requires g c =
    let slots : ℕ = c.deref.result.now.shared.table_id.slots in
    let key : c.deref.result.now.shared.key ≡ (c.args.self.now.bucket.places, true) = search rules in (
      search rules,
      subst (λ (k : ℕ × Bool). Enters (FollowsHistory k.0 k.1) slots 0 (λ n v. control_looked (step slots 0 0 0 none) (first_view k.1 k.0, []) n (v, []))) (sym key) (enters c.args.self.now.bucket.places slots),
    )
