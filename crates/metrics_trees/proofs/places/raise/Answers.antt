use Rattle.std.proofs.Common.{refl, arith, ◌≡◌, ◌∙◌, ap, ◌<◌, ◌≤◌, length, get_or, append-nil}
use Rattle.std.proofs.lemmas.List.{places, take_all, drop_all, get_or_default}
use Rattle.std.proofs.lemmas.List.Edits.{map_over_more}
use Rattle.metrics.specs.declared.handles.Address.{Address}
use Rattle.metrics_trees.specs.Places.{raised, raised_one}
use Rattle.metrics_trees.proofs.places.raise.Goals as goal

pub loop-at-init : goal.loop-at-init
loop-at-init c = refl

pub overflow_add-at : goal.overflow_add-at
overflow_add-at c =
    let l = c.loop-at in
    let z : Address = record { book = 0; series = 0 } in
    let n : get_or l.at-items l.at-index z ≡ get_or c.args.found.now l.at-index z = rw l.invariant (grind (arith, places)) in
    let b = c.requires.books_fit l.at-index z c.loop-at-test.true in
    omega (arith, ap (λ a. a.book) n, b, c.requires.front_fits)

pub loop-at-preserved : goal.loop-at-preserved
loop-at-preserved c =
    let l = c.loop-at in
    let z : Address = record { book = 0; series = 0 } in
    let x = get_or l.at-items l.at-index z in
    let lt : l.at-index < length l.at-items = omega (arith, c.loop-at-test.true, l.auto.at-items) in
    map_over_more (raised_one c.args.front) c.args.found.now l.at-items l.at-index x c.loop-at-test.true l.invariant (get_or_default l.at-items l.at-index z x lt)

pub returns : goal.returns
returns c =
    let l = c.loop-at in
    let end : length c.args.found.now ≤ l.at-index = omega (arith, c.loop-at-test.false, l.auto.at-index-end) in
    l.invariant ∙ rw (take_all l.at-index c.args.found.now end, drop_all l.at-index c.args.found.now end) (append-nil (raised c.args.front c.args.found.now))
