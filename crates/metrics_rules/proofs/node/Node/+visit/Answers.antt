use Rattle.std.proofs.Common.{rules, arith, Ok, get_or, ◌+◌, ◌<◌, length, subst}
use Rattle.std.proofs.lemmas.List.{get_or_default}
use Rattle.metrics.specs.Targets.{raise}
use Rattle.metrics_rules.specs.Nodes.{node_meaning}
use Rattle.metrics_rules.specs.Visits.{Visits}
use Rattle.metrics_rules.specs.declared.node.Node.{the_lemmas}
use Rattle.metrics_rules.proofs.NodesLemmas.{group-of, choice-is, indexes, chosen, subtree, fits-in}
use Rattle.metrics_rules.proofs.VisitLemmas.{only-targets, got-all, next-fits, next-visits, next-ends}
use Rattle.metrics_rules.proofs.node.Node.+visit.Goals.{in-Leaf-child, in_default-child}
use Rattle.metrics_rules.proofs.node.Node.+visit.Goals as goal

-- ---- the branch that the routes choose

pub branch-number-requires : goal.branch-number-requires
branch-number-requires g t c =
    let p = c.in-Group in
    let group = group-of p.children p.starts p._leaves p.is c.in-Some.is c.requires.tree in
    let w = choice-is group c.args.kind c.name-in-Some.result.now in
    omega (arith, w, p.children.ok.0, p.children.small)

pub index-requires : goal.index-requires
index-requires g t c =
    let p = c.in-Group in
    let group = group-of p.children p.starts p._leaves p.is c.in-Some.is c.requires.tree in
    (indexes group (chosen group c.args.kind _ _ _ c.branch-number.ensures c.name-in-Some.ensures).0).1

pub overflow_add-there : goal.overflow_add-there
overflow_add-there g t c =
    let p = c.in-Group in
    let group = group-of p.children p.starts p._leaves p.is c.in-Some.is c.requires.tree in
    let (lt, is) = chosen group c.args.kind _ _ _ c.branch-number.ensures c.name-in-Some.ensures in
    let x = get_or p.children.items c.branch-number.result c.args.self.now in
    let fits = fits-in group _ x lt (get_or_default p.children.items c.branch-number.result c.args.self.now x lt) c.index.result.now c.index.ensures in
    omega (arith, fits, c.requires.few)

pub index-requires-in-Some : goal.index-requires-in-Some
index-requires-in-Some g t c =
    let p = c.in-Group in
    let group = group-of p.children p.starts p._leaves p.is c.in-Some.is c.requires.tree in
    (indexes group (chosen group c.args.kind _ _ _ c.branch-number.ensures c.name-in-Some.ensures).0).0

pub visit-requires-in-Some : goal.visit-requires-in-Some
visit-requires-in-Some g t c κs inside =
    let p = c.in-Group in
    let group = group-of p.children p.starts p._leaves p.is c.in-Some.is c.requires.tree in
    let (lt, is) = chosen group c.args.kind _ _ _ c.branch-number.ensures c.name-in-Some.ensures in
    let x = c.index-in-Some.result.now in
    let fits = fits-in group _ x lt c.index-in-Some.ensures c.index.result.now c.index.ensures in
    let within = (indexes group lt).0 in
    (search (rules, the_lemmas, within, c.index-in-Some.ensures), (search rules, (search rules, (subtree group _ x lt c.index-in-Some.ensures, omega (arith, fits, c.requires.few)))))

pub returns-in-Some : goal.returns-in-Some
returns-in-Some g t c =
    let p = c.in-Group in
    let group = group-of p.children p.starts p._leaves p.is c.in-Some.is c.requires.tree in
    let (lt, is) = chosen group c.args.kind _ _ _ c.branch-number.ensures c.name-in-Some.ensures in
    let key = g.K.Named.parts c.args.key.now in
    subst (λ ts. Visits g.V.Visitor.accepts g.V.Visitor.refuses key.labels c.args.visitor.now ts c.visit-in-Some.new.visitor c.visit-in-Some.result)
    (only-targets c.args.kind key.name c.args.front group _ c.index-in-Some.result.now lt c.index-in-Some.ensures c.index.result.now c.index.ensures is) c.visit-in-Some.ensures

-- ---- one branch after another

pub index-requires-in-loop-i : goal.index-requires-in-loop-i
index-requires-in-loop-i g t c =
    let p = c.in-Group in
    let group = group-of p.children p.starts p._leaves p.is c.in-None.is c.requires.tree in
    let lt : c.loop-i.i < length p.children.items = (let l = c.loop-i-test.true in omega (arith, l, c.len-count.ensures, p.children.ok.0)) in
    (indexes group lt).1

pub overflow_add-there-in-loop-i : goal.overflow_add-there-in-loop-i
overflow_add-there-in-loop-i g t c =
    let p = c.in-Group in
    let group = group-of p.children p.starts p._leaves p.is c.in-None.is c.requires.tree in
    let lt : c.loop-i.i < length p.children.items = (let l = c.loop-i-test.true in omega (arith, l, c.len-count.ensures, p.children.ok.0)) in
    let fits = fits-in group _ c.index-child.result.now lt c.index-child.ensures _ c.index-in-loop-i.ensures in
    omega (arith, fits, c.requires.few)

pub visit-visited-requires-in_default-child : goal.visit-visited-requires-in_default-child
visit-visited-requires-in_default-child g t c κs inside =
    let p = c.in-Group in
    let group = group-of p.children p.starts p._leaves p.is c.in-None.is c.requires.tree in
    let lt : c.loop-i.i < length p.children.items = (let l = c.loop-i-test.true in omega (arith, l, c.len-count.ensures, p.children.ok.0)) in
    let x = c.index-child.result.now in
    let fits = fits-in group _ x lt c.index-child.ensures _ c.index-in-loop-i.ensures in
    let within = (indexes group lt).0 in
    (search (rules, the_lemmas, within, c.index-child.ensures), (search rules, (search rules, (subtree group _ x lt c.index-child.ensures, omega (arith, fits, c.requires.few)))))

pub with_more-requires : goal.with_more-requires
with_more-requires g t c =
    let p = c.in-Group in
    let key = g.K.Named.parts c.args.key.now in
    let group = group-of p.children p.starts p._leaves p.is c.in-None.is c.requires.tree in
    let lt : c.loop-i.i < length p.children.items = (let l = c.loop-i-test.true in omega (arith, l, c.len-count.ensures, p.children.ok.0)) in
    let x = c.index-child.result.now in
    let start = c.index-in-loop-i.result.now in
    let met : Visits g.V.Visitor.accepts g.V.Visitor.refuses key.labels c.loop-i.visitor (raise (c.args.front + start) ((node_meaning x).targets c.args.kind key.name)) c.match-child.visitor c.match-child.visited =
    elim c.match-child.branch [
      | in-Leaf-child w ↦ rw (w.visited-is, w.visitor-is, w.in-Leaf-child.is) w.show-visited.ensures
      | in_default-child w ↦ rw (w.visited-is, w.visitor-is) w.visit-visited-in_default-child.ensures
    ] in
    next-fits c.args.kind key.name c.args.front group _ x lt c.index-child.ensures start c.index-in-loop-i.ensures g.V.Visitor.accepts g.V.Visitor.refuses key.labels _ _ _ _ c.loop-i.invariant.0 met

pub returns-in-Err-with_more : goal.returns-in-Err-with_more
returns-in-Err-with_more g t c =
    let p = c.in-Group in
    let key = g.K.Named.parts c.args.key.now in
    let group = group-of p.children p.starts p._leaves p.is c.in-None.is c.requires.tree in
    let lt : c.loop-i.i < length p.children.items = (let l = c.loop-i-test.true in omega (arith, l, c.len-count.ensures, p.children.ok.0)) in
    let x = c.index-child.result.now in
    let start = c.index-in-loop-i.result.now in
    let met : Visits g.V.Visitor.accepts g.V.Visitor.refuses key.labels c.loop-i.visitor (raise (c.args.front + start) ((node_meaning x).targets c.args.kind key.name)) c.match-child.visitor c.match-child.visited =
    elim c.match-child.branch [
      | in-Leaf-child w ↦ rw (w.visited-is, w.visitor-is, w.in-Leaf-child.is) w.show-visited.ensures
      | in_default-child w ↦ rw (w.visited-is, w.visitor-is) w.visit-visited-in_default-child.ensures
    ] in
    next-ends c.args.kind key.name c.args.front group _ x lt c.index-child.ensures start c.index-in-loop-i.ensures g.V.Visitor.accepts g.V.Visitor.refuses key.labels _ _ _ _ c.loop-i.invariant.0 met _ c.in-Err-with_more.stopped c.loop-i.invariant.1 (c.in-Err-with_more.ensures {u = tt})

pub loop-i-preserved : goal.loop-i-preserved
loop-i-preserved g t c =
    let p = c.in-Group in
    let key = g.K.Named.parts c.args.key.now in
    let group = group-of p.children p.starts p._leaves p.is c.in-None.is c.requires.tree in
    let lt : c.loop-i.i < length p.children.items = (let l = c.loop-i-test.true in omega (arith, l, c.len-count.ensures, p.children.ok.0)) in
    let x = c.index-child.result.now in
    let start = c.index-in-loop-i.result.now in
    let met : Visits g.V.Visitor.accepts g.V.Visitor.refuses key.labels c.loop-i.visitor (raise (c.args.front + start) ((node_meaning x).targets c.args.kind key.name)) c.match-child.visitor c.match-child.visited =
    elim c.match-child.branch [
      | in-Leaf-child w ↦ rw (w.visited-is, w.visitor-is, w.in-Leaf-child.is) w.show-visited.ensures
      | in_default-child w ↦ rw (w.visited-is, w.visitor-is) w.visit-visited-in_default-child.ensures
    ] in
    next-visits c.args.kind key.name c.args.front group _ x lt c.index-child.ensures start c.index-in-loop-i.ensures g.V.Visitor.accepts g.V.Visitor.refuses key.labels _ _ _ _ c.loop-i.invariant.0 met _ (Ok c.in-Ok.more) c.loop-i.invariant.1 (c.in-Ok.ensures {u = tt})

pub returns-after-loop-i : goal.returns-after-loop-i
returns-after-loop-i g t c =
    let p = c.in-Group in
    let key = g.K.Named.parts c.args.key.now in
    let group = group-of p.children p.starts p._leaves p.is c.in-None.is c.requires.tree in
    let end = c.loop-i-test.false in
    let all = got-all c.args.kind key.name c.args.front group c.loop-i.i (omega (arith, end, c.len-count.ensures, p.children.ok.0)) in
    rw all at c.loop-i.invariant
