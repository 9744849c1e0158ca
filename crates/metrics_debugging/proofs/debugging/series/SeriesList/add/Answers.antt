use Rattle.std.proofs.Common.{◌≡◌, ◌∙◌, ◌++◌, ◌∷◌, [], true, map, ap, sym, length, arith}
use Rattle.std.proofs.lemmas.List.{map-append}
use Rattle.metrics_names.specs.Names.{key_eq}
use Rattle.metrics_names.specs.Equality.{key_eq-Decides}
use Rattle.metrics_registry.specs.contracts.keys.KeyEqualClone.TheImpl.Laws.{clones-law}
use Rattle.metrics.specs.Kinds.{of_kind}
use Rattle.metrics_registry.specs.Held.{held}
use Rattle.metrics_debugging.specs.declared.debugging.series.Stored.{Stored}
use Rattle.metrics_debugging.specs.DebuggingSeries.{is_active}
use Rattle.metrics_debugging.proofs.AgreesLemmas.{number-found}
use Rattle.metrics_debugging.proofs.AddedLemmas.{all-added, agree-added, agree-kept, appended}
use Rattle.metrics_debugging.proofs.debugging.series.SeriesList.add.Goals as goal

pub insert-requires : goal.insert-requires
insert-requires c =
    let self = c.args.self.now in
    ap (λ es. held key_eq es c.args.key.now) c.of_mut-numbers.ensures.value ∙ number-found self.numbers self.series.items self.agree c.args.kind c.args.key.now ∙ c.requires

pub invariant_of-self-in-Err : goal.invariant_of-self-in-Err
invariant_of-self-in-Err c =
    let self = c.args.self.now in
    record { agree = agree-kept self.numbers self.series.items c.reserve.new.self.items c.args.kind c.insert.new.self self.agree ((c.in-Err.ensures {u = tt}).err.1 ∙ c.of_mut-numbers.ensures.value) (c.in_ok-reserve.ensures {u = tt}).items }

pub invariant_of-self-in-Ok : goal.invariant_of-self-in-Ok
invariant_of-self-in-Ok c =
    let self = c.args.self.now in
    let kind = c.args.kind in
    let key = c.args.key.now in
    let number = c.len-number.result in
    let x : Stored = record { cell = c.new-cell.result; place = c.in-Ok.place; description = c.args.description; active = true } in
    let count : number ≡ length self.series.items = omega (arith, c.len-number.ensures, self.series.ok.0) in
    let is = c.of_mut-numbers.ensures.value in
    let place : c.in-Ok.place ≡ length (of_kind kind self.numbers) = (c.in-Ok.ensures {u = tt}).place ∙ ap length is in
    let stored = c.push_reserved.ensures.items ∙ ap (λ xs. xs ++ x ∷ []) ((c.in_ok-reserve.ensures {u = tt}).items) in
    let put = (c.in-Ok.ensures {u = tt}).ok in
    let same = sym ((key_eq-Decides key put.0).0 (clones-law key put.0 put.1)) in
    let added = appended self.numbers kind key put.0 number c.of_mut-numbers.result.now c.insert.new.self is same put.2 in
    record { agree = agree-added self.numbers self.series.items c.push_reserved.new.self.items self.agree kind key c.requires x c.new-cell.ensures place stored number count c.insert.new.self added }

pub returns-in-Ok-clause-ok : goal.returns-in-Ok-clause-ok
returns-in-Ok-clause-ok c =
    let self = c.args.self.now in
    let kind = c.args.kind in
    let key = c.args.key.now in
    let number = c.len-number.result in
    let x : Stored = record { cell = c.new-cell.result; place = c.in-Ok.place; description = c.args.description; active = true } in
    let count : number ≡ length self.series.items = omega (arith, c.len-number.ensures, self.series.ok.0) in
    let is = c.of_mut-numbers.ensures.value in
    let place : c.in-Ok.place ≡ length (of_kind kind self.numbers) = (c.in-Ok.ensures {u = tt}).place ∙ ap length is in
    let stored = c.push_reserved.ensures.items ∙ ap (λ xs. xs ++ x ∷ []) ((c.in_ok-reserve.ensures {u = tt}).items) in
    let put = (c.in-Ok.ensures {u = tt}).ok in
    let same = sym ((key_eq-Decides key put.0).0 (clones-law key put.0 put.1)) in
    let added = appended self.numbers kind key put.0 number c.of_mut-numbers.result.now c.insert.new.self is same put.2 in
    all-added self.numbers self.series.items c.push_reserved.new.self.items self.agree kind key c.requires x c.new-cell.ensures place stored number count c.insert.new.self added

pub returns-in-Ok-clause-active : goal.returns-in-Ok-clause-active
returns-in-Ok-clause-active c =
    let items = c.args.self.now.series.items in
    let x : Stored = record { cell = c.new-cell.result; place = c.in-Ok.place; description = c.args.description; active = true } in
    let stored = c.push_reserved.ensures.items ∙ ap (λ xs. xs ++ x ∷ []) ((c.in_ok-reserve.ensures {u = tt}).items) in
    ap (map is_active) stored ∙ map-append is_active items (x ∷ [])
