-- What is noted of a counter, after two steps.
use Rattle.std.proofs.Common.{◌≡◌, ◌≤◌, Option, None, Some, sym, subst}
use Rattle.std.proofs.lemmas.Option.{none-some, same_Some}
use Rattle.metrics_counts.specs.Noted.{Noted}
use Rattle.metrics_counts.specs.Noting.{IsNoLess, total_of_note}

-- a step that keeps the total, after one that doesn't lower it
pub no_less_kept : (old mid new : Option Noted) → IsNoLess old mid → total_of_note new ≡ total_of_note mid → IsNoLess old new
no_less_kept None mid new was same = tt
no_less_kept (Some n) None new was same = absurd was
no_less_kept (Some n) (Some m) None was same = absurd (none-some m.total same)
no_less_kept (Some n) (Some m) (Some k) was same = subst (λ t. n.total ≤ t) (sym (same_Some k.total m.total same)) was
