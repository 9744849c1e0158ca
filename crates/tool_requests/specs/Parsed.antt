-- What a line spells, as a request.
use Rattle.tool_requests.specs.declared.requests.Request.{Request}
use Rattle.tool_requests.specs.declared.requests.Request.TheVariants.{Change, Describe, Scrape, Nothing}
use Rattle.tool_requests.specs.declared.requests.Parsed.{Parsed}
use Rattle.tool_requests.specs.declared.requests.Parsed.TheVariants as parsed

-- the request by the name as it stands in the line
abbrev pub request_parsed : Parsed → Request
request_parsed (parsed.Change name labels by) = Change (record { name = name.now; labels = labels.items }) by
request_parsed (parsed.Describe kind name unit note) = Describe kind name.now unit note.now
request_parsed (parsed.Scrape moment) = Scrape moment
request_parsed parsed.Nothing = Nothing
