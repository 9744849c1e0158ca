use Rattle.std.proofs.Common.{option_map, take, ap, arith, Bor}
use Rattle.tool_requests.specs.declared.places.PrefixPlaces.{PrefixPlaces}
use Rattle.tool_requests.proofs.PlacesLemmas.{best-next, best-whole, best-found, best-none}
use Rattle.tool_requests.proofs.places.places_at.Goals as goal

pub loop-one-preserved : goal.loop-one-preserved
loop-one-preserved c =
    let list = c.args.list.now in
    let i = c.loop-one.one-index in
    best-next list i c.one-item.result c.args.name.now (option_map (λ (r : Bor PrefixPlaces). r.now) c.better-best.result) c.loop-one-test.true c.one-item.is
    (c.better-best.ensures (take i list) c.loop-one.invariant)

pub returns-in-Some : goal.returns-in-Some
returns-in-Some c =
    let list = c.args.list.now in
    let name = c.args.name.now in
    best-found list name (option_map (λ (r : Bor PrefixPlaces). r.now) c.loop-one.best) c.in-Some.one.now (ap (option_map (λ (r : Bor PrefixPlaces). r.now)) c.in-Some.is)
    (best-whole list c.loop-one.one-index name _ (omega arith) c.loop-one.invariant)

pub returns-in-None : goal.returns-in-None
returns-in-None c =
    let list = c.args.list.now in
    let name = c.args.name.now in
    best-none list name (option_map (λ (r : Bor PrefixPlaces). r.now) c.loop-one.best) (ap (option_map (λ (r : Bor PrefixPlaces). r.now)) c.in-None.is)
    (best-whole list c.loop-one.one-index name _ (omega arith) c.loop-one.invariant)
