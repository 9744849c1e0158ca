use Rattle.std.proofs.Common.{refl, ap, inl, inr, arith}
use Rattle.metrics.proofs.MeaningLemmas.{length-registers}
use Rattle.metrics_trees.specs.Leaves.{recorders_of}
use Rattle.metrics_trees.specs.Visiting.{kind_of}
use Rattle.metrics_trees.proofs.OneChildLemmas.{stay-called}
use Rattle.metrics_trees.proofs.RegisterLemmas.{can-append, asked}
use Rattle.metrics_trees.proofs.visits.RegistrarVisitorKey.visit.Goals as goal

pub returns-in_default : goal.returns-in_default
returns-in_default g c = inr (inl (refl, refl))

pub add_answer-requires-clause-fits : goal.add_answer-requires-clause-fits
add_answer-requires-clause-fits g c =
    let h = c.register-answer.ensures in
    can-append g.B.Recorder.meaning (recorders_of c.args.self.now.leaves) c.args.leaf h.before h.within h.at c.before-front.result c.before-front.ensures c.args.self.now.few
    h.after _ c.args.key.now _ h.called

pub invariant_of-self-2 : goal.invariant_of-self-2
invariant_of-self-2 g c =
    let m = g.B.Recorder.meaning in
    let h = c.register-answer.ensures in
    let stay = stay-called m c.args.leaf h (length-registers (m h.before) (m h.after) _ c.args.key.now _ h.called) in
    record { few = omega (arith, stay.books, c.args.self.now.few) }

pub returns : goal.returns
returns g c =
    let s = c.args.self.now in
    asked g.B.Recorder.meaning c.args.leaf c.args.key.now (recorders_of s.leaves) (recorders_of c.register-answer.new.self) s.call c.add_answer.new.call c.add_answer.ensures.kind
    c.before-front.result c.before-front.ensures _ (ap kind_of c.in-Some.is) _ c.register-answer.ensures c.add_answer.result c.add_answer.ensures.appended
