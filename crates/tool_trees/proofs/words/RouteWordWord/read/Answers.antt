use Rattle.std.proofs.Common.{◌<◌, ◌^◌, ◌∙◌, rules, decimal, sym, subst, IsUtf8}
use Rattle.tool_trees.proofs.Lines.{first_part, other_parts, route_found}
use Rattle.tool_trees.proofs.words.RouteWordWord.read.Goals as goal

pub returns-in_default-split_at_first : goal.returns-in_default-split_at_first
returns-in_default-split_at_first c = λ r h e.
    c.in_default-split_at_first.ensures (decimal r.target) r.pattern (first_part _ _ _ c.in-Some.ensures.0 c.in-Some.ensures.1 r h e).1

pub returns-in_default-kinds_of : goal.returns-in_default-kinds_of
returns-in_default-kinds_of c = λ r h e. c.in_default-kinds_of.ensures r.kinds h.0 (first_part _ _ _ c.in-Some.ensures.0 c.in-Some.ensures.1 r h e).0

pub returns-in_default-number_of : goal.returns-in_default-number_of
returns-in_default-number_of c = λ r h e.
    let cut = c.in-Some-split_at_first.ensures in
    c.in_default-number_of.ensures r.target h.1 (other_parts _ _ _ c.in-Some.ensures.0 c.in-Some.ensures.1 r h e _ _ cut.0 cut.1).0

pub returns-in_default-from_utf8 : goal.returns-in_default-from_utf8
returns-in_default-from_utf8 c = λ r h e.
    let cut = c.in-Some-split_at_first.ensures in
    c.in_default-from_utf8.ensures.cases.0 (subst IsUtf8 (sym (other_parts _ _ _ c.in-Some.ensures.0 c.in-Some.ensures.1 r h e _ _ cut.0 cut.1).1) h.2)

pub returns : goal.returns
returns c =
    let fits : c.in-Some-number_of.target < 2 ^ 64 = search rules in
    let kinds = c.in-Some-kinds_of.ensures in
    route_found _ _ _ _ _ _ _ _ c.in-Some.ensures.0 c.in-Some-split_at_first.ensures.0 c.requires kinds.0 kinds.1 fits c.in-Some-number_of.ensures c.in-Ok.ensures.cases.1 (c.in_ok-new.ensures ∙ c.in-Ok.ensures.cases.0)
