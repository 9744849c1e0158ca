use Rattle.std.proofs.Common.{rules}
use Rattle.std.proofs.lemmas.Fn.{always_returns_same}
use Rattle.tool_requests.proofs.PlaceLemmas.{keys, searched}
use Rattle.tool_requests.proofs.labels.find_key.Goals as goal

pub returns : goal.returns
returns c =
    let key = c.args.key.now in
    searched key c.args.labels.now c.requires c.binary_search_by.result c.binary_search_by.ensures.bound
    (c.binary_search_by.ensures.position (λ l. keys l.0 key) (always_returns_same _ _ _ (λ a r f k. search rules)))
