use Rattle.std.proofs.Common.{◌≡◌, rules, sym, subst}
use Rattle.tool_requests.specs.Lines.{Reads, SpellsSeries, body_of as body}
use Rattle.tool_requests.proofs.CacheLemmas.{change-kept, series-spelled}
use Rattle.tool_requests.proofs.cache.cached_request_of.Goals as goal

pub returns-in-Some-kept_change : goal.returns-in-Some-kept_change
returns-in-Some-kept_change c =
    let kept = c.in-Some-kept_change.ensures in
    let same : c.have.new.self ≡ c.args.dialect.now.labels = search rules in
    let spells = subst (λ common. SpellsSeries common c.in-Some.series.now c.in-Some-kept_change.key.now) same kept.0 in
    let reads = change-kept c.args.dialect.now (body c.args.line.now) c.in-Some.word.now c.in-Some.amount.now c.in-Some.series.now
    c.in-Some.ensures.0 c.in-Some-kept_change.key.now c.in-Some-kept_change.by spells kept.1 kept.2 in
    search (rules, reads)

pub keep-requires : goal.keep-requires
keep-requires c =
    let same : c.have.new.self ≡ c.args.dialect.now.labels = search rules in
    subst (λ common. SpellsSeries common c.in-Some.series.now c.in-Change.key) (sym same)
    (series-spelled c.args.dialect.now (body c.args.line.now) c.in-Some.word.now c.in-Some.amount.now c.in-Some.series.now
    c.in-Some.ensures.0 c.in-Some.ensures.1 c.in-Some.ensures.2 c.in-Some.ensures.3 c.in-Change.key c.in-Change._by
    (subst (Reads c.args.dialect.now (body c.args.line.now)) c.in-Change.is c.in_ok-request.ensures))
