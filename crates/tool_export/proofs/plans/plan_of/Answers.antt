use Rattle.std.proofs.Common.{◌≡◌, [], ◌∷◌, sym, ◌∙◌, decimal}
use Rattle.tool_grammar.specs.Printing.{samples_text}
use Rattle.tool_export.specs.declared.plans.ExportPlan.{ExportPlan as Plan}
use Rattle.tool_export.specs.Plans.{timeout_word, watched_word}
use Rattle.tool_export.proofs.plans.plan_of.Goals as goal

pub returns-in-Err : goal.returns-in-Err
returns-in-Err c =
    let (ns, are, is) = c.in-Err.ensures in
    let plan : Plan = record { shards = c.in-Some.shards; watched = c.in-Some-watched_of.watched; idle_timeout = c.in-Some-timeout_of.idle_timeout; bounds = ns } in
    let shards : c.args.shards.now ≡ decimal c.in-Some.shards = sym c.as_bytes.ensures.value ∙ c.in-Some.ensures.1 in
    let kinds : c.args.kinds.now ≡ watched_word c.in-Some-watched_of.watched = sym c.as_bytes-2.ensures.value ∙ c.in-Some-watched_of.ensures.1 in
    let timeout : c.args.timeout.now ≡ timeout_word c.in-Some-timeout_of.idle_timeout = sym c.as_bytes-3.ensures.value ∙ c.in-Some-timeout_of.ensures.1 in
    let bounds : c.args.bounds.now ≡ samples_text ns = sym c.as_bytes-4.ensures.value ∙ is in
    (plan, (c.in-Some.ensures.0, c.in-Some-watched_of.ensures.0, c.in-Some-timeout_of.ensures.0, are), λ i. shards i ∷ kinds i ∷ timeout i ∷ bounds i ∷ [])
