use Rattle.std.proofs.Common.{rules, ◌≡◌, ◌+◌, List, [], ◌∷◌, ◌++◌, Some, length, length-append, refl, ap, arith}
use Rattle.std.proofs.lemmas.Result.{IfOk-weaker}
use Rattle.std.proofs.lemmas.List.Elements.{All-pop}
use Rattle.tool_storm.specs.Pens.{IsFresh, weights}
use Rattle.tool_storm.specs.Worked.{IsWorked}
use Rattle.tool_storm.specs.Ran.{IsRan}
use Rattle.tool_storm.proofs.Joining.{weights-push, ran_for, joins_more}
use Rattle.tool_storm.proofs.threads.+run.Goals as goal

pub returns-in_default-clause-ok : goal.returns-in_default-clause-ok
returns-in_default-clause-ok g t c =
    let bags = g.B.Bucket.bags in
    let values = c.args.shared.now.values in
    let ran = c.clear_all.result in
    let none : c.args.pens.items ≡ [] = search rules in
    let a = ap (weights bags) none in
    let b = ap (λ (l : List g.row.B-Pen.Denot). length l) none in
    ran_for values values (bags c.args.pen).weight ((bags c.args.pen).weight + weights bags c.args.pens.items) 0 (length c.args.pens.items) (bags ran.pen) ran.pushed ran.found ran.stopped refl (omega arith) (omega arith) (c.clear_all.ensures.ran values)

pub run-ran-requires-clause-pens : goal.run-ran-requires-clause-pens
run-ran-requires-clause-pens g t c κs within =
    let is : c.args.pens.items ≡ c.pop.new.self.items ++ c.in-Some.mine ∷ [] = search rules in
    (All-pop (λ (p : g.row.B-Pen.Denot). g.B.Bucket.owns c.args.shared.now.bucket p × IsFresh (g.B.Bucket.bags p)) c.args.pens.items c.pop.new.self.items (Some c.in-Some.mine) is c.requires.pens).0

pub returns-in_ok-worked-in-Ok-clause-ok : goal.returns-in_ok-worked-in-Ok-clause-ok
returns-in_ok-worked-in-Ok-clause-ok g t c =
    let bags = g.B.Bucket.bags in
    let values = c.args.shared.now.values in
    let front = c.pop.new.self.items in
    let mine = c.in-Some.mine in
    let ran = c.in_ok-ran-in-Ok.field-0 in
    let worked = c.in_ok-worked-in-Ok.field-0 in
    let is : c.args.pens.items ≡ front ++ mine ∷ [] = search rules in
    let fresh = (All-pop (λ (p : g.row.B-Pen.Denot). g.B.Bucket.owns c.args.shared.now.bucket p × IsFresh (bags p)) c.args.pens.items front (Some mine) is c.requires.pens).1.1 in
    let works : IsWorked (bags mine) values (bags worked.pen) worked.pushed worked.stopped = search rules in
    let k : IsRan values ((bags c.args.pen).weight + weights bags front) (length front) (bags ran.pen) ran.pushed ran.found ran.stopped = search rules in
    let a = ap (weights bags) is in
    let b = weights-push bags front mine in
    let d = ap (λ (l : List g.row.B-Pen.Denot). length l) is in
    let e = length-append front (mine ∷ []) in
    IfOk-weaker c.joined.result _ _
    (λ r j. ran_for values values ((bags c.args.pen).weight + weights bags front + (bags mine).weight) _ (length front + 1) _ (bags r.pen) r.pushed r.found r.stopped refl (omega arith) (omega arith)
    (joins_more values _ (length front) (bags mine) (bags ran.pen) (bags worked.pen) (bags r.pen) ran.pushed ran.found worked.pushed r.pushed r.found ran.stopped r.stopped worked.stopped k fresh works j.0 j.1 j.2 j.3))
    c.joined.ensures.ok
