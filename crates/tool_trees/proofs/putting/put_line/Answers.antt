use Rattle.std.proofs.Common.{◌≡◌, ◌+◌, arith, length}
use Rattle.std.proofs.lemmas.Result.{err_from_is_err_and}
use Rattle.tool_trees.specs.Trees.{arity}
use Rattle.tool_trees.proofs.Doing.{bad_line, can, does_put, does_short}
use Rattle.tool_trees.proofs.putting.put_line.Goals as goal

pub returns-in_err-taken : goal.returns-in_err-taken
returns-in_err-taken c =
    let p = err_from_is_err_and c.from_residual.result c.from_residual.ensures.1 in
    rw (p.1, p.2) (bad_line c.args.said.now c.args.stack.now.items _ (λ bad. does_short c.args.said.now c.args.stack.now.items (omega (arith, c.in_err-taken.ensures bad, c.uses.ensures))))

pub returns-in_err-child : goal.returns-in_err-child
returns-in_err-child c =
    let p = err_from_is_err_and c.from_residual-in_err-child.result c.from_residual-in_err-child.ensures.1 in
    let taken = c.in_ok-taken.taken in
    let count : length taken.items ≡ arity c.args.said.now = omega (arith, c.in_ok-taken.ensures.1, c.uses.ensures, taken.ok.0, taken.small.0, taken.small.1) in
    let can_use = can c.args.said.now c.args.stack.now.items c.take_top.new.stack.items taken.items c.in_ok-taken.ensures.0 count in
    rw (p.1, p.2) (bad_line c.args.said.now c.args.stack.now.items _ (λ bad ts us h s. c.in_err-child.ensures bad (can_use ts us h s).0))

pub returns-then-most-ge-MOST_LEVELS : goal.returns-then-most-ge-MOST_LEVELS
returns-then-most-ge-MOST_LEVELS c =
    let taken = c.in_ok-taken.taken in
    let count : length taken.items ≡ arity c.args.said.now = omega (arith, c.in_ok-taken.ensures.1, c.uses.ensures, taken.ok.0, taken.small.0, taken.small.1) in
    let can_use = can c.args.said.now c.args.stack.now.items c.take_top.new.stack.items taken.items c.in_ok-taken.ensures.0 count in
    bad_line c.args.said.now c.args.stack.now.items _ (λ bad ts us h s. omega (arith, (can_use ts us h s).1, c.in_ok-taken.ensures.2))

pub returns : goal.returns
returns c = λ bytes sp not_end ts h.
    let taken = c.in_ok-taken.taken in
    let count : length taken.items ≡ arity c.args.said.now = omega (arith, c.in_ok-taken.ensures.1, c.uses.ensures, taken.ok.0, taken.small.0, taken.small.1) in
    let made = c.in_ok-child.ensures in
    let (us, st, built) = does_put c.args.said.now c.args.stack.now.items c.take_top.new.stack.items taken.items c.in_ok-taken.ensures.0 count
    c.push.new.self.items (record { child = c.in_ok-child.child; levels = c.in_ok-taken.most + 1 }) c.requires made.0 made.1 (omega (arith, c.in_ok-taken.ensures.2)) (omega (arith, c.in_ok-taken.ensures.2)) c.in_ok-push.ensures.items ts h in
    (c.args.said.now, us, sp, st, built)
