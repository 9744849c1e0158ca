use Rattle.std.proofs.Common.{rules, ◌≡◌, ◌∙◌, ◌++◌, ◌∷◌, [], List, ℕ, ap, append-nil, string_bytes, codes}
use Rattle.metrics_exposition.specs.Samples.{labels_text}
use Rattle.metrics_exposition.proofs.HeadLemmas.{labels-written}
use Rattle.metrics_exposition.proofs.samples.write_braced.Goals as goal

pub returns-clause-bare : goal.returns-clause-bare
returns-clause-bare c = λ ends.
    let start : List ℕ = string_bytes c.args.text.now in
    let all : List ℕ = labels_text (c.args.first.now ∷ c.args.more.now) in
    let bare : c.args.end.now ≡ codes "\"}" ++ [] = ends in
    labels-written start (string_bytes c.push_str.new.self) (string_bytes c.write_open.new.text) (string_bytes c.write_more.new.text) (string_bytes c.push_str-2.new.self) c.args.end.now [] c.args.first.now c.args.more.now
    (search rules) (search rules) (search rules) (search rules) bare ∙ ap (λ t. start ++ t) (append-nil all)

pub returns-clause-spaced : goal.returns-clause-spaced
returns-clause-spaced c = λ ends.
    labels-written (string_bytes c.args.text.now) (string_bytes c.push_str.new.self) (string_bytes c.write_open.new.text) (string_bytes c.write_more.new.text) (string_bytes c.push_str-2.new.self) c.args.end.now (32 ∷ []) c.args.first.now c.args.more.now
    (search rules) (search rules) (search rules) (search rules) ends
