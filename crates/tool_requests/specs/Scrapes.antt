-- Scrapes among requests, and their moments.
use Rattle.std.specs.Prelude.{ℕ, Bool, true, false, None, Some}
use Rattle.tool_requests.specs.declared.requests.Request.{Request}
use Rattle.tool_requests.specs.declared.requests.Request.TheVariants.{Change, Describe, Scrape, Nothing}

abbrev pub is_scrape : Request → Bool
is_scrape (Change key by) = false
is_scrape (Describe kind name unit note) = false
is_scrape (Scrape moment) = true
is_scrape Nothing = false

-- a scrape without a moment of its own has this one
abbrev pub at_moment : ℕ → Request → Request
at_moment now (Change key by) = Change key by
at_moment now (Describe kind name unit note) = Describe kind name unit note
at_moment now (Scrape None) = Scrape (Some now)
at_moment now (Scrape (Some moment)) = Scrape (Some moment)
at_moment now Nothing = Nothing
