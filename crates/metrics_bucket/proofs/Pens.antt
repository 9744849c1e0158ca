-- What a pen's account says of its seat.
use Rattle.std.proofs.Common.{◌≡◌, ℕ, false, true≢false, Option, Some, None, refl, sym, ap, ◌∙◌, arith}
use Rattle.metrics_bucket.specs.declared.pen.Pen.TheInside.{Inside}
use Rattle.metrics_bucket.specs.declared.view.Hold.TheVariants.{Nothing}
use Rattle.metrics_bucket.specs.Account.{hold_of, has_ticket, IsPushed, IsLookedAnew}
use Rattle.metrics_bucket.specs.Pens.{account_of}
use Rattle.metrics_bucket.specs.BucketState.{having_seen, seeing}
use Rattle.metrics_bucket.specs.Steps.{Seated, HasLookedAnew, HasPushed}

pub free_hold : (t : Option (ℕ × ℕ)) → has_ticket t ≡ false → hold_of t ≡ Nothing
free_hold None e = refl
free_hold (Some t) e = absurd (true≢false e)

pub account_pushed : (p p' : Inside) (x : ℕ) → p'.seat.table_id ≡ p.seat.table_id → has_ticket p'.ticket ≡ false → HasPushed p.seat.me x p'.seat.me → IsPushed (account_of p) x (account_of p')
account_pushed p p' x table ticket (e, i, below, is) = (
  e,
  i,
  below,
  λ k. record {
    home = record { table = table k; places = (is k).0.places };
    weight = (is k).0.weight;
    pushed = (is k).0.pushed;
    taken = (is k).0.taken;
    read = (is k).0.read;
    ticket = ticket k;
    seen = p'.seat.me.0.seen;
    looks = p'.seat.me.0.looks;
    refused = (is k).0.refused;
  },
)

-- one look
pub looks_once : (m m' : Seated) (r : ℕ) → m' ≡ (seeing m.0 r, m.1) → HasLookedAnew m m'
looks_once m m' r is =
    let seen = ap (λ (z : Seated). z.0.seen) is in
    let looks = ap (λ (z : Seated). z.0.looks) is in
    ((is ∙ (λ k. (having_seen m.0 (sym seen k) (sym looks k), m.1)), omega arith), omega arith)

pub account_looked : (p p' : Inside) → p'.seat.table_id ≡ p.seat.table_id → p'.ticket ≡ p.ticket → HasLookedAnew p.seat.me p'.seat.me → IsLookedAnew (account_of p) (account_of p')
account_looked p p' table ticket ((is, more), anew) = (
  (
    λ k. record {
      home = record { table = table k; places = (is k).0.places };
      weight = (is k).0.weight;
      pushed = (is k).0.pushed;
      taken = (is k).0.taken;
      read = (is k).0.read;
      ticket = has_ticket (ticket k);
      seen = p'.seat.me.0.seen;
      looks = p'.seat.me.0.looks;
      refused = (is k).0.refused;
    },
    more,
  ),
  anew,
)
