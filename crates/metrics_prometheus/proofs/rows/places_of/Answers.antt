use Rattle.metrics_prometheus.proofs.PlaceLemmas.{placed-more, is-placed, each-more}
use Rattle.metrics_prometheus.proofs.rows.places_of.Goals as goal

pub loop-row-preserved : goal.loop-row-preserved
loop-row-preserved c =
    let rows = c.args.rows.now in
    let row = c.row-item.result in
    let place = c.place_of.result in
    let before = c.loop-row.places.items in
    let after = c.push.new.self.items in
    let alike = c.args.are_alike in
    record {
      rows = placed-more rows before after c.loop-row.row-index row place c.loop-row-test.true c.row-item.is c.place_of.ensures.row c.in_ok-push.ensures.items c.loop-row.invariant.rows;
      placed = each-more alike before after place c.in_ok-push.ensures.items c.loop-row.invariant.placed (is-placed alike row place c.place_of.ensures.row c.place_of.ensures.value);
    }
