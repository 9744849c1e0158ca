use Rattle.std.proofs.Common.{rules, ◌≡◌, ◌∙◌, ◌++◌, OnOk, string_bytes, sym, subst, ap}
use Rattle.std.specs.List.{list_all}
use Rattle.metrics_exposition.specs.Names.{is_plain}
use Rattle.metrics_exposition.proofs.ValueLemmas.{value-whole}
use Rattle.metrics_exposition.proofs.names.write_value.Goals as goal

pub returns-then-are_plain : goal.returns-then-are_plain
returns-then-are_plain c =
    let v = c.args.value.now in
    let whole : OnOk c.push_str.result (string_bytes c.push_str.new.self ≡ string_bytes c.args.text.now ++ v) = search rules in
    let same = value-whole v c.utf8.value (ap (list_all is_plain) (sym c.as_bytes.ensures.value) ∙ sym c.if-are_plain.ensures) in
    subst (λ x. OnOk c.push_str.result (string_bytes c.push_str.new.self ≡ string_bytes c.args.text.now ++ x)) (sym same) whole
