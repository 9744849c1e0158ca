use Rattle.std.proofs.Common.{rules, ◌≡◌, ℕ, List, OnOk, sym, subst}
use Rattle.metrics_growing.specs.Parts.{Part, Pushed}
use Rattle.metrics_growing.proofs.bucket.GrowingBucket.try_push.Goals.{in-Ok, in-Err}
use Rattle.metrics_growing.proofs.bucket.GrowingBucket.try_push.Goals as goal

pub returns-clause-ok : goal.returns-clause-ok
returns-clause-ok g c =
    let new = c.try_word.new.known.items in
    let word : c.to_word.result ≡ g.T.Sample.word c.args.value = search rules in
    let known : c.pen.inside.known.items ≡ c.args.pen.now = search rules in
    elim c.match-try_word.branch [
      | in-Ok w ↦
          let pushed : Pushed c.to_word.result c.pen.inside.known.items new = search rules in
          let own : Pushed (g.T.Sample.word c.args.value) c.args.pen.now new = subst (λ (ps : List Part). Pushed (g.T.Sample.word c.args.value) ps new) known (subst (λ (x : ℕ). Pushed x c.pen.inside.known.items new) word pushed) in
          subst (λ r. OnOk r (Pushed (g.T.Sample.word c.args.value) c.args.pen.now new)) (sym w.result-is) own
      | in-Err w ↦ search rules
    ]
