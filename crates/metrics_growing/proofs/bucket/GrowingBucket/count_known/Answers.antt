use Rattle.std.proofs.Common.{rules, ◌≡◌, ℕ, List, length, map, ap, arith}
use Rattle.once_cell.specs.Once.{cell_name}
use Rattle.metrics_growing.proofs.Chains.{few_parts, length_names}
use Rattle.metrics_growing.proofs.bucket.GrowingBucket.count_known.Goals as goal

pub returns : goal.returns
returns g c =
    let few = few_parts c.args.self.now c.args.known.now.items c.requires.own in
    let links = c.self.inside.links.items in
    let are : c.args.self.now ≡ map cell_name links = search rules in
    let long : length c.args.self.now ≡ length (map cell_name links) = ap (λ (xs : List ℕ). length xs) are in
    let same = length_names cell_name links in
    let all : length links ≡ 64 = search rules in
    let known : c.len.result ≡ length c.args.known.now.items = search rules in
    let count : c.len-links.result ≡ length links = search rules in
    (omega arith, omega arith)
