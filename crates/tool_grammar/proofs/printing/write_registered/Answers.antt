use Rattle.std.proofs.Common.{◌≡◌, ◌++◌, ◌∷◌, [], OnOk, codes, decimal, string_bytes, subst, ap, ◌∙◌, append_assoc}
use Rattle.tool_grammar.proofs.printing.write_registered.Goals as goal

pub returns : goal.returns
returns c =
    let rest = 32 ∷ (decimal c.args.count ++ (10 ∷ [])) in
    let number = decimal c.args.number in
    let words = codes "registered " in
    let both = c.in_ok-push_str-2.ensures.bytes ∙ ap (λ z. z ++ c.format.result.now) c.in_ok-push_str.ensures.bytes ∙ ap (λ z. (string_bytes c.args.text.now ++ words) ++ z) c.format.ensures.text in
    let whole = ap (λ z. z ++ rest) both ∙ append_assoc (string_bytes c.args.text.now ++ words) number rest ∙ append_assoc (string_bytes c.args.text.now) words (number ++ rest) in
    subst (λ s. OnOk c.write_counted.result (string_bytes c.write_counted.new.text ≡ s)) whole c.write_counted.ensures
