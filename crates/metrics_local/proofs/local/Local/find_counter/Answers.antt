use Rattle.std.proofs.Common.{refl, rules}
use Rattle.metrics_local.proofs.KeepingLemmas.{kept-more, kept-at, kept-given, looks-up-held, looks-up-nothing, looks-up-new, looks-up-refused}
use Rattle.metrics_local.proofs.local.Local.find_counter.Goals as goal

pub returns-in-Some-clause-found : goal.returns-in-Some-clause-found
returns-in-Some-clause-found g c =
    looks-up-held (λ k. k.counters) (λ k es. record k { counters = es }) g.S.SharedRecorder.gives_counter c.args.self.now _ _ c.self.view_is c.renew.ensures.epoch c.renew.ensures.on refl c.args.key.now c.in-Some.place c.self.invariant.0 c.in-Some.ensures

pub returns-in_err-handle-clause-err : goal.returns-in_err-handle-clause-err
returns-in_err-handle-clause-err g c =
    let kept = looks-up-nothing (λ k. k.counters) (λ k es. record k { counters = es }) g.S.SharedRecorder.gives_counter c.args.self.now _ _ c.self.view_is c.renew.ensures.epoch c.renew.ensures.on refl c.args.key.now c.in_default.ensures in
    search (rules, kept)

pub invariant_of-self : goal.invariant_of-self
invariant_of-self g c =
    let more = kept-more c.self.inside.counters c.keep.new.kept c.args.key.now c.in_ok-handle.handle c.keep.result c.keep.ensures.ok in
    (kept-given c.self.inside.counters c.keep.new.kept c.args.key.now c.in_ok-handle.handle (g.S.SharedRecorder.gives_counter c.self.inside.on) c.keep.result more c.keep.ensures.err c.self.invariant.0 c.in_ok-handle.ensures, c.self.invariant.1, c.self.invariant.2)

pub returns-clause-found : goal.returns-clause-found
returns-clause-found g c =
    let more = kept-more c.self.inside.counters c.keep.new.kept c.args.key.now c.in_ok-handle.handle c.keep.result c.keep.ensures.ok in
    let at = kept-at c.self.inside.counters c.keep.new.kept c.args.key.now c.in_ok-handle.handle c.keep.result more c.keep.ensures.place in
    looks-up-new (λ k. k.counters) (λ k es. record k { counters = es }) g.S.SharedRecorder.gives_counter c.args.self.now _ _ c.self.view_is c.renew.ensures.epoch c.renew.ensures.on refl c.args.key.now c.in_default.ensures c.keep.result _ c.in_ok-handle.handle c.in_ok-handle.ensures refl at more

pub returns-clause-err : goal.returns-clause-err
returns-clause-err g c =
    looks-up-refused (λ k. k.counters) (λ k es. record k { counters = es }) g.S.SharedRecorder.gives_counter c.args.self.now _ _ c.self.view_is c.renew.ensures.epoch c.renew.ensures.on refl c.args.key.now c.in_default.ensures c.keep.result _ refl c.keep.ensures.err
