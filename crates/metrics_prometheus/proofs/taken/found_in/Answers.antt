use Rattle.std.proofs.Common.{rules, List, ℕ, [], get_or}
use Rattle.std.specs.Borrow.{Bor}
use Rattle.std.specs.Cmp.Lexicographic.{slice_cmp}
use Rattle.std.specs.Ordering.{nat_cmp}
use Rattle.std.proofs.lemmas.Fn.{always_returns_same}
use Rattle.std.proofs.lemmas.List.{get_or_default}
use Rattle.metrics_prometheus.proofs.SearchLemmas.{searched-there, searched-none}
use Rattle.metrics_prometheus.proofs.taken.found_in.Goals as goal

pub returns-in-Ok : goal.returns-in-Ok
returns-in-Ok c =
    let names = c.args.names.now in
    let name = c.args.name.now in
    let place = c.in-Ok.place in
    let small = c.in-Ok.ensures.bound in
    let by = c.in-Ok.ensures.position (λ n. slice_cmp nat_cmp n.now name) (always_returns_same _ _ _ (λ a r f k. search rules)) in
    let none : Bor (List ℕ) = record { ref_ptr = (0, 0); now = [] } in
    let found = get_or names place none in
    searched-there (λ n. n.now) names name place found small (get_or_default names place none found small) (by none)

pub returns-in-Err : goal.returns-in-Err
returns-in-Err c =
    let name = c.args.name.now in
    let by = c.in-Err.ensures.position (λ n. slice_cmp nat_cmp n.now name) (always_returns_same _ _ _ (λ a r f k. search rules)) in
    searched-none (λ n. n.now) c.args.names.now name c.in-Err.field-0 c.requires by
