use Rattle.std.proofs.Common.{rules, ◌∙◌, ap, sym}
use Rattle.std.specs.Prelude.{insert}
use Rattle.tool_requests.specs.Lines.{LacksKey}
use Rattle.tool_requests.proofs.CommonLemmas.{stays, joins}
use Rattle.tool_requests.proofs.labels.put_common.Goals as goal

pub returns-in_default : goal.returns-in_default
returns-in_default c =
    let has : LacksKey c.key.result.now c.deref.result.now → ⊥ = search rules in
    sym (stays c.args.common.now c.args.labels.now.items (λ lacks. has (rw (c.deref.ensures.value, c.key.ensures) lacks)))

pub returns : goal.returns
returns c =
    let place = c.in-Err.place in
    let found = rw (c.deref.ensures.value, c.key.ensures) at c.in-Err.ensures in
    c.in_ok-insert.ensures.items
    ∙ ap (insert c.args.labels.now.items place) (rw (c.key-2.ensures, c.value.ensures) at c.in_ok-copy.ensures)
    ∙ found.2 c.args.common.now.1 ∙ sym (joins c.args.common.now c.args.labels.now.items found.0)
