use Rattle.std.proofs.Common.{rules, ◌≡◌, ◌<◌, ◌^◌, sym, ◌∙◌, arith}
use Rattle.std.proofs.lemmas.Fmt.{decimal_injective}
use Rattle.tool_lines.proofs.requests.number_within.Goals as goal
use Rattle.tool_lines.proofs.requests.number_within.Goals.{else-least-number-via-then-least-number+else-number-most, else-least-number-via-else-least-number}

pub returns-else-least-number : goal.returns-else-least-number
returns-else-least-number c = λ n low high is.
    let room : c.in_ok-number.number < 2 ^ 64 = search rules in
    let same : c.in_ok-number.number ≡ n = decimal_injective _ _ room (let f = c.ranges.most.fits in omega arith) (sym c.in_ok-number.ensures ∙ (c.as_bytes.ensures.value ∙ is)) in
    elim c.else-least-number.branch [
      | else-least-number-via-then-least-number+else-number-most w ↦ (let a = w.if-number-most.false in omega arith)
      | else-least-number-via-else-least-number w ↦ (let a = w.if-least-number.false in omega arith)
    ]
