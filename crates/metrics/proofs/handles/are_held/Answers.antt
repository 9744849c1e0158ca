use Rattle.std.proofs.Common.{◌+◌, ◌&&◌, get_or, drop, sym, ◌∙◌, ap}
use Rattle.metrics.specs.declared.handles.Address.{Address}
use Rattle.metrics.specs.Answering.{holds_all}
use Rattle.metrics.proofs.HandlesLemmas.{holds-more, drop-all, default_same}
use Rattle.metrics.proofs.handles.are_held.Goals as goal

pub loop-at-preserved : goal.loop-at-preserved
loop-at-preserved g c =
    let found = c.args.found.now in
    let cs = (g.R.Recorder.meaning c.args.on.now).contents in
    let i = c.loop-at.at-index in
    let at : Address = get_or found i (record { book = 0; series = 0 }) in
    c.loop-at.invariant
    ∙ holds-more c.args.kind found cs i at c.loop-at-test.true (default_same found i _ at c.loop-at-test.true)
    ∙ ap (λ b. b && holds_all c.args.kind (drop (i + 1) found) cs) (sym c.holds.ensures ∙ c.if-not-holds.false)

pub returns : goal.returns
returns g c =
    let found = c.args.found.now in
    let cs = (g.R.Recorder.meaning c.args.on.now).contents in
    sym (c.loop-at.invariant ∙ ap (λ xs. holds_all c.args.kind xs cs) (drop-all found c.loop-at.at-index c.loop-at-test.false))
