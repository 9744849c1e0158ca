use Rattle.std.proofs.Common.{◌≡◌, ℕ, ◌+◌, ◌-◌, ◌*◌, ◌<◌, ◌≤◌, ◌^◌, Option, None, Some, MatchOption, arith}
use Rattle.tool_numbers.proofs.ShiftLemmas.{raised-to, raised-from, lowered-to, lowered-from}
use Rattle.tool_numbers.proofs.shifts.shifted.Goals as goal

up : (n d u : ℕ) → d ≤ u → (r : Option ℕ)
    → MatchOption r ((units : ℕ) → units < 2 ^ 64 → units ≡ n * 10 ^ (u - d) → ⊥) (λ units. units ≡ n * 10 ^ (u - d))
    → MatchOption r ((units : ℕ) → units < 2 ^ 64 → units * 10 ^ d ≡ n * 10 ^ u → ⊥) (λ units. units * 10 ^ d ≡ n * 10 ^ u)
up n d u le (Some units) e = raised-to (u - d) d u n units (omega (arith, le)) e
up n d u le None none = λ units small e. none units small (raised-from (u - d) d u n units (omega (arith, le)) e)

down : (n d u : ℕ) → u ≤ d → (r : Option ℕ)
    → MatchOption r ((units : ℕ) → units < 2 ^ 64 → units * 10 ^ (d - u) ≡ n → ⊥) (λ units. units * 10 ^ (d - u) ≡ n)
    → MatchOption r ((units : ℕ) → units < 2 ^ 64 → units * 10 ^ d ≡ n * 10 ^ u → ⊥) (λ units. units * 10 ^ d ≡ n * 10 ^ u)
down n d u le (Some units) e = lowered-to (d - u) d u n units (omega (arith, le)) e
down n d u le None none = λ units small e. none units small (lowered-from (d - u) d u n units (omega (arith, le)) e)

pub returns-then-down-up : goal.returns-then-down-up
returns-then-down-up c = up c.args.n c.args.down c.args.up (omega (arith, c.if-down-up.true)) c.raised.result c.raised.ensures

pub returns-else-down-up : goal.returns-else-down-up
returns-else-down-up c = down c.args.n c.args.down c.args.up (omega (arith, c.if-down-up.false)) c.lowered.result c.lowered.ensures
