use Rattle.std.proofs.Common.{◌≡◌, ◌+◌, List, ◌++◌, ◌∷◌, [], map, ap, sym, ◌∙◌, subst, arith, length, append_assoc, length-append}
use Rattle.std.specs.Vec.Iter.{into_iter_items}
use Rattle.std.proofs.lemmas.List.{map-append}
use Rattle.metrics.specs.Meaning.{Meaning}
use Rattle.metrics.specs.Layers.{joined_all}
use Rattle.metrics_rules.specs.Branches.{HasSpare}
use Rattle.metrics_rules.proofs.JoinedLemmas.{leaves-append}
use Rattle.metrics_trees.specs.Recorders.{books_in}
use Rattle.metrics_trees.proofs.row.Row.append_reserved.Goals as goal

parts : {B : Type 0} (m : B → Meaning) (xs ys : List B) → books_in (map m (xs ++ ys)) ≡ books_in (map m xs) + books_in (map m ys)
parts m xs ys = ap books_in (map-append m xs ys) ∙ leaves-append (map m xs) (map m ys)

pub push_reserved-requires-clause-few : goal.push_reserved-requires-clause-few
push_reserved-requires-clause-few g c =
    let m = g.B.Recorder.meaning in
    let here = c.loop-recorder.self.recorders.items in
    let one = c.in-Some.recorder in
    let rest = into_iter_items c.next.new.self in
    let next : into_iter_items c.loop-recorder.recorder-iterator ≡ one ∷ rest = (c.in-Some.ensures {u = tt}).steps.0 in
    let all = ap (λ xs. books_in (map m xs)) (ap (λ xs. here ++ xs) (sym next) ∙ c.loop-recorder.invariant.items) in
    omega (arith, all, parts m here (one ∷ rest), parts m c.args.self.now.recorders.items c.args.recorders.items, length-append (m one).contents (joined_all (map m rest)).contents, c.requires.few)

pub loop-recorder-preserved : goal.loop-recorder-preserved
loop-recorder-preserved g c =
    let s = c.loop-recorder.self in
    let rest = into_iter_items c.next.new.self in
    let next : into_iter_items c.loop-recorder.recorder-iterator ≡ c.in-Some.recorder ∷ rest = (c.in-Some.ensures {u = tt}).steps.0 in
    record {
      ready = (tt, tt);
      items = ap (λ xs. xs ++ rest) c.push_reserved.ensures.items ∙ append_assoc s.recorders.items (c.in-Some.recorder ∷ []) rest
          ∙ ap (λ xs. s.recorders.items ++ xs) (sym next) ∙ c.loop-recorder.invariant.items;
      spare = c.push_reserved.ensures.spare (length rest) (subst (λ xs. HasSpare (length xs) s.recorders s.starts) next c.loop-recorder.invariant.spare);
    }
