use Rattle.std.proofs.Common.{rules, ◌≡◌, ℕ, [], ◌∷◌, List, Bor, get_or, map, codes, ◌∙◌, ap}
use Rattle.tool_lines.proofs.ExportWords.{asks_of}
use Rattle.tool_lines.proofs.WordLists.{five_words}
use Rattle.tool_lines.proofs.exports.export_of.Goals as goal

abbrev empty_word : Bor (List ℕ)
empty_word = record { ref_ptr = (0, 0); now = [] }

pub returns-in-len5 : goal.returns-in-len5
returns-in-len5 c =
    let ws = c.args.words.now in
    let name : (get_or ws 0 empty_word).now ≡ codes "export" = search rules in
    let four = (get_or ws 1 empty_word).now ∷ (get_or ws 2 empty_word).now ∷ (get_or ws 3 empty_word).now ∷ (get_or ws 4 empty_word).now ∷ [] in
    let are = five_words (λ w. w.now) empty_word ws c.in-len5.len_at_least c.in-len5.len_below ∙ ap (λ w. w ∷ four) name in
    asks_of c.plan_of.result (map (λ w. w.now) ws) four are c.plan_of.ensures
