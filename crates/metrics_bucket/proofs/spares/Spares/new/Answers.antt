use Rattle.std.proofs.Common.{rules, false, ◌≡◌, subst}
use Rattle.std.specs.Arc.{arc_value}
use Rattle.std.specs.List.{All}
use Rattle.metrics_bucket.specs.Account.{Home}
use Rattle.metrics_bucket.specs.Spares.{IsSpareOf}
use Rattle.metrics_bucket.proofs.spares.Spares.new.Goals as goal

pub invariant_of-result : goal.invariant_of-result
invariant_of-result c =
    let table : c.args.pen.now.home.table ≡ (arc_value c.in-Ok-try_clone.table).shared.table_id = search rules in
    let places : c.args.pen.now.home.places ≡ c.args.places = search rules in
    let all : All (IsSpareOf c.args.pen.now.home) c.divide.new.posts.items = search rules in
    let closed : (arc_value c.in-Ok-try_clone.table).shared.key.1 ≡ false = search rules in
    record { closed = closed; each = subst (λ (h : Home). All (IsSpareOf h) c.divide.new.posts.items) (λ i. record { table = table i; places = places i }) all }
