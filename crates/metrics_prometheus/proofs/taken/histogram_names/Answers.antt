use Rattle.std.proofs.Common.{rules, ◌∙◌, ◌++◌, ◌∷◌, [], List, ℕ, None, cond, option_map, refl, ap, sym, subst}
use Rattle.std.specs.Borrow.{Bor}
use Rattle.std.specs.List.Sorted.{IsSorted}
use Rattle.std.specs.Cmp.Lexicographic.{slice_cmp}
use Rattle.std.specs.Ordering.{nat_cmp}
use Rattle.metrics_prometheus.specs.declared.row.Head.{Head}
use Rattle.metrics_prometheus.specs.Exposition.{histogram_names, uses_name}
use Rattle.metrics_prometheus.specs.Places.{rows_placed}
use Rattle.metrics_prometheus.specs.Rows.{row_shown, rows_shown, names_shown}
use Rattle.metrics_prometheus.proofs.SearchLemmas.{Uses, up-start, up-sorted, uses-more, used-then}
use Rattle.metrics_prometheus.proofs.PlaceLemmas.{numbers-used}
use Rattle.metrics_prometheus.proofs.taken.histogram_names.Goals as goal
use Rattle.metrics_prometheus.proofs.taken.histogram_names.Goals.{then-uses_name+in_ok-push, else-uses_name}

pub loop-place-init : goal.loop-place-init
loop-place-init c =
    let rows = rows_shown (rows_placed c.args.places.now) in
    subst (λ (l : List (Bor (List ℕ))). Uses (names_shown l) None (histogram_names rows) c.args.places.now) (sym c.new-names.ensures.items) (refl, up-start rows c.requires.sorted)

pub uses_name-requires-clause-sorted : goal.uses_name-requires-clause-sorted
uses_name-requires-clause-sorted c =
    subst (λ (l : List (Bor (List ℕ))). IsSorted (slice_cmp nat_cmp) (names_shown l)) (sym c.deref.ensures.value) (up-sorted (names_shown c.loop-place.names.items) _ c.loop-place.invariant.1)

pub loop-place-preserved : goal.loop-place-preserved
loop-place-preserved c =
    let place = c.place-item.result in
    let row = row_shown place.row.now in
    let items = c.loop-place.names.items in
    let last = option_map (λ (n : Bor (List ℕ)). n.now) c.loop-place.last in
    let more = uses-more c.args.places.now c.loop-place.place-index place (names_shown items) (names_shown c.if-uses_name.names.items) _ last _ c.loop-place-test.true c.place-item.is in
    let same = ap (λ (l : List (Bor (List ℕ))). uses_name (names_shown l) last row) (sym c.deref.ensures.value) ∙ sym c.uses_name.ensures in
    elim c.if-uses_name.branch [
      | then-uses_name+in_ok-push w ↦ more (ap (λ v. names_shown v.items) w.names-is ∙ used-then items w.push.new.self.items _ (uses_name (names_shown items) last row) row.name w.in_ok-push.ensures.items (w.as_str.ensures ∙ ap (λ (h : Head). h.name) w.deref-then-uses_name.ensures) (same ∙ w.if-uses_name.true)) c.last_number-last.ensures c.loop-place.invariant
      | else-uses_name w ↦ more (ap (λ v. names_shown v.items) w.names-is ∙ sym (ap (λ b. cond b (names_shown items ++ row.name ∷ []) (names_shown items)) (same ∙ w.if-uses_name.false))) c.last_number-last.ensures c.loop-place.invariant
    ]

pub returns-clause-sorted : goal.returns-clause-sorted
returns-clause-sorted c = up-sorted (names_shown c.loop-place.names.items) _ c.loop-place.invariant.1

pub returns-then-are_numbers-clause-names : goal.returns-then-are_numbers-clause-names
returns-then-are_numbers-clause-names c = ap names_shown c.new-names.ensures.items ∙ sym (numbers-used c.args.places.now [] None (c.are_numbers.ensures (search rules)))
