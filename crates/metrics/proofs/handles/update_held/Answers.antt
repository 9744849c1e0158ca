use Rattle.std.proofs.Common.{◌≡◌, get_or, ◌∙◌, rules, arith}
use Rattle.metrics.specs.declared.handles.Address.{Address}
use Rattle.metrics.specs.Book.{kind_of}
use Rattle.metrics.proofs.HandlesLemmas.{update_more, update_err, update_follows, held_at, all_held_more, default_same}
use Rattle.metrics.proofs.handles.update_held.Goals as goal

pub returns-in-Err-clause-updates : goal.returns-in-Err-clause-updates
returns-in-Err-clause-updates g c =
    let M = g.R.Recorder.meaning in
    let found = c.args.found.now in
    let at : Address = get_or found c.loop-i.i (record { book = 0; series = 0 }) in
    let is : at ≡ get_or found c.loop-i.i at = default_same found c.loop-i.i _ at c.loop-i-test.true in
    let r = rw c.in-Err.is at c.update.ensures.updates in
    let follows = update_follows (M c.loop-i.on) (M c.update.new.self) c.args.by c.loop-i.i at c.in-Err.refused r (search (rules, arith)) in
    rw (c.after.ensures.sum follows) (update_err (M c.args.on.now) (M c.loop-i.on) (M c.update.new.self) found c.args.by c.loop-i.i at c.in-Err.refused r
    (held_at (kind_of c.args.by) found (M c.loop-i.on).contents c.loop-i.i at c.loop-i-test.true is c.loop-i.invariant.held) c.loop-i.invariant.updated c.loop-i-test.true)

pub loop-i-preserved : goal.loop-i-preserved
loop-i-preserved g c =
    let M = g.R.Recorder.meaning in
    let found = c.args.found.now in
    let at : Address = get_or found c.loop-i.i (record { book = 0; series = 0 }) in
    let is : at ≡ get_or found c.loop-i.i at = default_same found c.loop-i.i _ at c.loop-i-test.true in
    let r = rw c.in-Ok.is at c.update.ensures.updates in
    record {
      keeps = c.update.ensures.keeps ∙ c.loop-i.invariant.keeps;
      updated = update_more found c.args.by c.loop-i.i at _ _ _ c.loop-i-test.true is c.loop-i.invariant.updated r.1;
      held = all_held_more (kind_of c.args.by) found c.args.by at (M c.loop-i.on).contents (M c.update.new.self).contents r.1 c.loop-i.invariant.held;
    }
