-- How a pen's fields make its account.
use Rattle.std.specs.Prelude.{false, ◌≡◌, ◌<◌, ◌≤◌, []}
use Rattle.std.specs.Arc.{arc_value}
use Rattle.metrics_bucket.specs.declared.pen.Pen.TheInside.{Inside}
use Rattle.metrics_bucket.specs.Account.{Account, hold_of, has_ticket, TicketFits}

abbrev pub account_of : Inside → Account
account_of p = record {
  home = record { table = p.seat.table_id; places = p.seat.me.0.places };
  weight = p.seat.me.0.weight;
  pushed = p.seat.me.0.pushed;
  taken = p.seat.me.0.taken;
  read = p.seat.me.0.read;
  ticket = has_ticket p.ticket;
  seen = p.seat.me.0.seen;
  looks = p.seat.me.0.looks;
  refused = p.seat.me.0.refused;
}

pub record IsPen (p : Inside) : Type 0 where
  pub seated : p.seat.table_id ≡ (arc_value p.table).shared.table_id
  pub closed : (arc_value p.table).shared.key.1 ≡ false
  pub some_word : 0 < p.seat.table_id.words
  pub bare : p.seat.me.1 ≡ []
  pub weighs : p.weight ≡ p.seat.me.0.weight
  pub some_weight : 0 < p.weight
  pub most : p.weight ≤ 1024
  pub holds : p.seat.me.0.hold ≡ hold_of p.ticket
  pub fits : TicketFits p.ticket p.seat.me.0.places
