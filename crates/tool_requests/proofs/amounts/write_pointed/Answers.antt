use Rattle.std.proofs.Common.{ℕ, ◌<◌, sym, subst}
use Rattle.tool_numbers.proofs.ShiftLemmas.{power-some}
use Rattle.tool_requests.proofs.amounts.write_pointed.Goals as goal

pub nonzero_rem-rest : goal.nonzero_rem-rest
nonzero_rem-rest g c = subst (λ (z : ℕ). 0 < z) (sym c.in-Some.ensures.1) (power-some c.from.result)

pub nonzero_div-units : goal.nonzero_div-units
nonzero_div-units g c = subst (λ (z : ℕ). 0 < z) (sym c.in-Some.ensures.1) (power-some c.from.result)
