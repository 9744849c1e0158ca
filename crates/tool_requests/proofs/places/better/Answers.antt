use Rattle.std.proofs.Common.{◌∙◌, length, option_map, Bor, subst, sym, ap, arith}
use Rattle.prefix_match.specs.TriePatterns.{IsFront}
use Rattle.tool_requests.specs.declared.places.PrefixPlaces.{PrefixPlaces}
use Rattle.tool_requests.proofs.PlacesLemmas.{best-stays, best-new, best-kept-of, longer-of, longer-none}
use Rattle.tool_requests.proofs.places.better.Goals as goal

pub returns-then-not-is_front : goal.returns-then-not-is_front
returns-then-not-is_front c = λ list h.
    let same = c.as_bytes.ensures.value ∙ c.as_str.ensures in
    best-stays list c.args.one.now c.args.name.now (option_map (λ (r : Bor PrefixPlaces). r.now) c.args.best)
    (λ front. c.is_front.ensures.no c.if-not-is_front.true (subst (λ p. IsFront p c.args.name.now) (sym same) front)) h

pub returns-in-None : goal.returns-in-None
returns-in-None c = λ list h.
    let same = c.as_bytes.ensures.value ∙ c.as_str.ensures in
    best-new list c.args.one.now c.args.name.now (option_map (λ (r : Bor PrefixPlaces). r.now) c.args.best)
    (subst (λ p. IsFront p c.args.name.now) same (c.is_front.ensures.yes c.if-not-is_front.false))
    (longer-none _ c.args.one.now (ap (option_map (λ (r : Bor PrefixPlaces). r.now)) c.in-None.is)) h

pub returns-then-as_str : goal.returns-then-as_str
returns-then-as_str c = λ list h.
    let same = c.as_bytes.ensures.value ∙ c.as_str.ensures in
    let t = c.if-as_str.true in
    let x = ap length c.as_str-in-Some.ensures in
    let y = ap length c.as_str-in-Some-2.ensures in
    best-new list c.args.one.now c.args.name.now (option_map (λ (r : Bor PrefixPlaces). r.now) c.args.best)
    (subst (λ p. IsFront p c.args.name.now) same (c.is_front.ensures.yes c.if-not-is_front.false))
    (longer-of _ c.args.one.now c.in-Some.other.now (ap (option_map (λ (r : Bor PrefixPlaces). r.now)) c.in-Some.is) (omega (arith, t, x, y))) h

pub returns-else-as_str : goal.returns-else-as_str
returns-else-as_str c = λ list h.
    let t = c.if-as_str.false in
    let x = ap length c.as_str-in-Some.ensures in
    let y = ap length c.as_str-in-Some-2.ensures in
    best-kept-of list c.args.one.now c.args.name.now (option_map (λ (r : Bor PrefixPlaces). r.now) c.args.best) c.in-Some.other.now
    (ap (option_map (λ (r : Bor PrefixPlaces). r.now)) c.in-Some.is) (omega (arith, t, x, y)) h
