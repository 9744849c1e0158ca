use Rattle.std.proofs.Common.{◌≡◌, ap, sym, refl, ◌∙◌, string_bytes, Some, None, rules, cond, bytes_eq}
use Rattle.std.specs.Option.{option_or, option_copied_mut}
use Rattle.std.proofs.lemmas.Map.Text.{hash_map_updates_text}
use Rattle.indexmap.specs.IndexMap.{get_by_text}
use Rattle.metrics_descriptions.specs.declared.descriptions.Described.{Described}
use Rattle.metrics_descriptions.specs.Legends.{description_of}
use Rattle.metrics_descriptions.proofs.DescriptionsLemmas.{noted, or-none, keyed-again}
use Rattle.metrics_descriptions.proofs.descriptions.describe_name.Goals as goal

pub returns-then-is_described_so-clause-ok : goal.returns-then-is_described_so-clause-ok
returns-then-is_described_so-clause-ok c = λ n. keyed-again (λ m. description_of (get_by_text c.args.names.now m)) c.args.name.now c.args.unit c.args.text.now n (c.is_described_so.ensures (search rules))

pub returns-in-Some-clause-ok : goal.returns-in-Some-clause-ok
returns-in-Some-clause-ok c = λ n.
    let was = c.args.names.now in
    let name = c.args.name.now in
    let x : Described = record { unit = c.or-described.result; text = c.in_ok-text.text } in
    let put = hash_map_updates_text name was (c.get_mut.follows.lender x) _ ((c.get_mut.follows.holds x).3 (search rules)) n in
    let there : get_by_text was name ≡ Some c.in-Some.described.now = sym c.get_mut.ensures.value ∙ ap option_copied_mut c.in-Some.is in
    let unit = c.or-described.ensures ∙ ap (λ o. option_or c.args.unit (description_of o).unit) (sym there) in
    noted (get_by_text was) (get_by_text (c.get_mut.follows.lender x)) name name c.args.unit c.args.text.now x n put refl unit c.in_ok-text.ensures

pub returns-clause-ok : goal.returns-clause-ok
returns-clause-ok c = λ n.
    let was = c.args.names.now in
    let name = c.args.name.now in
    let bs = string_bytes c.in_ok-from_str.field-0 in
    let x : Described = record { unit = c.args.unit; text = c.in_ok-text.text } in
    let put = hash_map_updates_text bs c.get_mut.follows.lender-at-none c.insert.new.self _ (c.in_ok-insert.ensures {u = tt}).updates n in
    let kept = ap (λ m. cond (bytes_eq bs n) (Some x) (get_by_text m n)) c.get_mut.follows.holds-at-none in
    let there : get_by_text was name ≡ None = sym c.get_mut.ensures.value ∙ ap option_copied_mut c.in_default.is in
    let unit = or-none c.args.unit ∙ ap (λ o. option_or c.args.unit (description_of o).unit) (sym there) in
    noted (get_by_text was) (get_by_text c.insert.new.self) name bs c.args.unit c.args.text.now x n (put ∙ kept) c.in_ok-from_str.ensures.ok unit c.in_ok-text.ensures
