use Rattle.std.proofs.Common.{◌≡◌, ◌++◌, ◌∷◌, [], ℕ, List, Result, Ok, Err, if◌then◌else◌, OnOk, codes, decimal, string_bytes, subst, sym, ap, ◌∙◌, arith}
use Rattle.std.specs.Result.{is_ok}
use Rattle.std.proofs.lemmas.Fmt.{decimal_digit}
use Rattle.tool_grammar.proofs.printing.write_updated.Goals as goal

on_ok : {X E : Type 0} (r : Result X E) (new one other : List ℕ) → new ≡ (if is_ok r then one else other) → OnOk r (new ≡ one)
on_ok (Ok x) new one other e = e
on_ok (Err x) new one other e = tt

pub returns-then-count-eq1 : goal.returns-then-count-eq1
returns-then-count-eq1 c =
    let digit = sym (ap decimal c.if-count-eq1.true ∙ decimal_digit 1 (omega arith)) in
    let line = ap (λ d. codes "updated " ++ (d ++ (10 ∷ []))) digit in
    let old = string_bytes c.args.text.now in
    subst (λ z. OnOk c.push_str.result (string_bytes c.push_str.new.self ≡ old ++ z)) line (on_ok c.push_str.result _ _ _ c.push_str.ensures.bytes)
