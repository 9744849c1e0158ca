-- When the clock asks for a scrape.
use Rattle.std.specs.Prelude.{if◌then◌else◌, ◌≡◌, ℕ, ◌-◌, nat_lt, nat_le, Bool, false, ◌||◌, List, [], ◌∷◌, Option, None, Some}
use Rattle.tool_prometheus.specs.declared.timing.Timer.{Timer}
use Rattle.tool_requests.specs.declared.requests.Request.{Request}
use Rattle.tool_requests.specs.declared.requests.Request.TheVariants.{Scrape}
use Rattle.tool_requests.specs.Scrapes.{is_scrape, at_moment}
use Rattle.tool_prometheus.specs.Asked.{Asked, nothing_asked, clock_gave}

-- the period is over that began at the last scrape; so it is where the clock went back past that
abbrev pub is_over : Timer → ℕ → Bool
is_over timer now = nat_lt now timer.last || nat_le timer.period (now - timer.last)

-- after a line that is no scrape comes one, if the period is over
abbrev pub is_due : Timer → ℕ → Request → Bool
is_due timer now request = if is_scrape request then false else is_over timer now

-- what a line asks for that comes at this moment
abbrev pub in_time : Timer → ℕ → Request → List Request
in_time timer now request = at_moment now request ∷ (if is_due timer now request then Scrape (Some now) ∷ [] else [])

-- each scrape begins a period
abbrev pub restarted : Timer → ℕ → Request → Timer
restarted timer now request = record timer { last = (if is_scrape request || is_over timer now then now else timer.last) }

-- What a line asks for in the end, what that takes from the clock, and the timer afterwards. With a timer each line takes one
-- moment.
abbrev pub Timed : Option Timer → Request → Asked → List Request → Option Timer → Type 0
Timed None request asked requests after = (asked ≡ nothing_asked) × (requests ≡ request ∷ []) × (after ≡ None)
Timed (Some timer) request asked requests after = (now : ℕ) × (asked ≡ clock_gave now)
    × (requests ≡ in_time timer now request) × (after ≡ Some (restarted timer now request))

-- the timer of a run's start, for scrapes by the clock
abbrev pub Starts : Option ℕ → Asked → Option Timer → Type 0
Starts None asked timer = (asked ≡ nothing_asked) × (timer ≡ None)
Starts (Some period) asked timer = (now : ℕ) × (asked ≡ clock_gave now) × (timer ≡ Some (record { period = period; last = now }))
