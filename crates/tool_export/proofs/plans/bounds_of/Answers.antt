use Rattle.std.proofs.Common.{rules, ◌≡◌, Ok, FitsSigned, w64, ◌++◌, ◌∷◌, [], sym, subst}
use Rattle.std.proofs.lemmas.Result.{err_from_is_err_and}
use Rattle.std.proofs.lemmas.Int.{to_z-of_z}
use Rattle.tool_grammar.specs.Printing.{samples_text}
use Rattle.tool_export.specs.Plans.{AreSamples}
use Rattle.tool_export.proofs.BoundsLemmas.{no_bound, no_last, bounds_more, bounds_end, bounds_pushed}
use Rattle.tool_export.proofs.plans.bounds_of.Goals as goal

pub returns-in_default-signed_number_of : goal.returns-in_default-signed_number_of
returns-in_default-signed_number_of c =
    let (ns, so, held) = c.loop-digits.invariant in
    no_bound c.args.word.now c.loop-digits.rest.now c.in-Some.digits.now c.in-Some.later.now ns so c.in-Some.ensures.0 c.in-Some.ensures.1
    c.in_default-signed_number_of.ensures

pub loop-digits-preserved : goal.loop-digits-preserved
loop-digits-preserved c =
    let (ns, so, held) = c.loop-digits.invariant in
    let n = c.in-Some-signed_number_of.bound in
    let fits : FitsSigned w64 n = search rules in (
      ns ++ n ∷ [],
      bounds_more c.args.word.now c.loop-digits.rest.now c.in-Some.digits.now c.in-Some.later.now ns so c.in-Some.ensures.0 c.in-Some.ensures.1 n
          fits c.in-Some-signed_number_of.ensures,
      bounds_pushed c.loop-digits.bounds c.with_bound-bounds.result (λ v. v.items) ns n _ held c.with_bound-bounds.ensures (search (rules, to_z-of_z)),
    )

pub returns-in_err-with_bound-in-Some-signed_number_of-2 :
    goal.returns-in_err-with_bound-in-Some-signed_number_of-2
returns-in_err-with_bound-in-Some-signed_number_of-2 c =
    let (ns, so, held) = c.loop-digits.invariant in
    let n = c.in-Some-signed_number_of-2.last in
    let fits : FitsSigned w64 n = search rules in
    let end = bounds_end c.args.word.now c.loop-digits.rest.now ns n so fits c.in-Some-signed_number_of-2.ensures in
    let p = err_from_is_err_and c.from_residual.result c.from_residual.ensures.1 in
    rw p.1 (ns ++ n ∷ [], end.0, end.1)

pub returns-in_ok-with_bound-in-Some-signed_number_of-2 :
    goal.returns-in_ok-with_bound-in-Some-signed_number_of-2
returns-in_ok-with_bound-in-Some-signed_number_of-2 c =
    let (ns, so, held) = c.loop-digits.invariant in
    let n = c.in-Some-signed_number_of-2.last in
    let fits : FitsSigned w64 n = search rules in
    let end = bounds_end c.args.word.now c.loop-digits.rest.now ns n so fits c.in-Some-signed_number_of-2.ensures in
    let found = c.in_ok-with_bound-in-Some-signed_number_of-2.field-0 in
    let all : found.items ≡ ns ++ n ∷ [] =
    bounds_pushed c.loop-digits.bounds (Ok found) (λ v. v.items) ns n _ held c.in_ok-with_bound-in-Some-signed_number_of-2.ensures
    (search (rules, to_z-of_z)) in
    subst (λ xs. AreSamples xs × (c.args.word.now ≡ samples_text xs)) (sym all) end

pub returns-in-None : goal.returns-in-None
returns-in-None c =
    let (ns, so, held) = c.loop-digits.invariant in
    no_last c.args.word.now c.loop-digits.rest.now ns so c.in_default.ensures c.in-None.ensures
