use Rattle.std.proofs.Common.{rules, arith, ◌≡◌, ◌∙◌, string_bytes}
use Rattle.metrics_prometheus.specs.declared.rows.Place.{Place}
use Rattle.metrics_prometheus.specs.Places.{line_head}
use Rattle.metrics_exposition.proofs.PairLemmas.{each-map}
use Rattle.metrics_prometheus.proofs.PlaceLemmas.{begun-alike}
use Rattle.metrics_prometheus.proofs.text.begun_line.Goals as goal

pub returns-in_ok-write_sample_head-in-len1-up-clause-begun : goal.returns-in_ok-write_sample_head-in-len1-up-clause-begun
returns-in_ok-write_sample_head-in-len1-up-clause-begun c =
    let first : Place = c.first-item.result in
    let bytes = string_bytes c.write_sample_head.new.text in
    let is : bytes ≡ line_head first.row.now = search rules in
    each-map (λ q. line_head first.row.now ≡ line_head q.row.now) (λ q. bytes ≡ line_head q.row.now) (λ q e. is ∙ e) c.args.places.now
    (begun-alike c.args.places.now 0 first (omega (arith, c.in-len1-up.len_at_least)) c.first-item.is (c.requires (search rules)))
