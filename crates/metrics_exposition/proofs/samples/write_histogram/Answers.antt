use Rattle.std.proofs.Common.{◌≡◌, ◌∙◌, ◌++◌, ap, rules, map, codes, string_bytes, decimal}
use Rattle.metrics_storage.specs.Histogram.{ascending}
use Rattle.metrics_exposition.specs.Numbers.{number}
use Rattle.metrics_exposition.specs.Samples.{Sample, bucket_sample}
use Rattle.std.specs.Prelude.{flat_map}
use Rattle.metrics_exposition.specs.Heads.{bucket_head, bucket_line}
use Rattle.metrics_exposition.proofs.HeadLemmas.{bucket-line, bucket-lines}
use Rattle.metrics_exposition.proofs.LineLemmas.{three-more}
use Rattle.metrics_exposition.proofs.samples.write_histogram.Goals as goal

pub returns-clause-ok : goal.returns-clause-ok
returns-clause-ok c =
    let name = c.args.name.now in
    let labels = c.args.labels.now in
    let d = c.args.histogram.now in
    let all : Sample = bucket_sample name labels (codes "+Inf") d.count in
    let sum : Sample = record { name = name ++ codes "_sum"; labels = labels; value = number c.args.places d.sum } in
    let count : Sample = record { name = name ++ codes "_count"; labels = labels; value = decimal d.count } in
    let head : string_bytes c.write_bucket_head.new.text ≡ bucket_head name labels = search rules in
    let buckets = ap (λ h. flat_map (λ b. bucket_line h (number c.args.places b.0) b.1) (ascending d.buckets)) head ∙ bucket-lines name labels c.args.places (ascending d.buckets) in
    let whole = ap (λ h. bucket_line h (codes "+Inf") d.count) head ∙ bucket-line name labels (codes "+Inf") d.count in
    three-more (string_bytes c.args.text.now) (map (λ b. bucket_sample name labels (number c.args.places b.0) b.1) (ascending d.buckets)) all sum count
    (string_bytes c.write_buckets.new.text) (string_bytes c.write_bucket.new.text) (string_bytes c.write_sample.new.text) (string_bytes c.write_sample-2.new.text)
    (search (rules, buckets)) (search (rules, whole)) (search rules) (search rules)
