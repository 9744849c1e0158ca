use Rattle.std.proofs.Common.{◌≡◌, ℕ, ◌+◌, ◌<◌, arith, ap, ◌∙◌}
use Rattle.std.proofs.lemmas.List.{length_push}
use Rattle.prefix_match.specs.SubstringStates.{IsChild, HasNoChild}
use Rattle.prefix_match.proofs.SubstringLinks.{root_more, root_more_none, option_child}
use Rattle.prefix_match.proofs.substring.links.root_row.Goals as goal

pub loop-byte-preserved : goal.loop-byte-preserved
loop-byte-preserved c =
    let xs = c.loop-byte.roots.items in
    let b : ℕ = c.loop-byte.byte in
    let o = option_child c.args.nodes.now 0 b c.child.result c.child.ensures.found c.child.ensures.none in
    let v : ℕ = c.unwrap_or-next.result in
    let found : 0 < v → IsChild c.args.nodes.now 0 b v = rw c.unwrap_or-next.ensures o.0 in
    let none : v ≡ 0 → HasNoChild c.args.nodes.now 0 b = rw c.unwrap_or-next.ensures o.1 in
    rw (c.in_ok-push.ensures {u = tt}).items record {
      len = length_push xs v ∙ ap (λ n. n + 1) c.loop-byte.invariant.len;
      found = root_more c.args.nodes.now xs b v c.loop-byte.invariant.len c.loop-byte.invariant.found found;
      none = root_more_none c.args.nodes.now xs b v c.loop-byte.invariant.len c.loop-byte.invariant.none none;
    }

pub returns : goal.returns
returns c =
    let all : c.loop-byte.byte ≡ 256 = omega (arith, c.loop-byte.auto.byte-end) in
    record {
      len = c.loop-byte.invariant.len ∙ all;
      found = λ y l. c.loop-byte.invariant.found y (omega arith);
      none = λ y l. c.loop-byte.invariant.none y (omega arith);
    }
