use Rattle.std.proofs.Common.{rules, ◌≡◌, ℕ, [], ◌∷◌, List, Bor, get_or, map, codes, ◌∙◌, ap}
use Rattle.tool_lines.proofs.WordLists.{one_word, four_words, five_words, refuses_five}
use Rattle.tool_lines.proofs.requests.request_of.Goals as goal

abbrev empty_word : Bor (List ℕ)
empty_word = record { ref_ptr = (0, 0); now = [] }

pub returns-in-len1 : goal.returns-in-len1
returns-in-len1 c =
    let name : (get_or c.args.words.now 0 empty_word).now ≡ codes "run" = search rules in
    (tt, one_word (λ w. w.now) empty_word c.args.words.now c.in-len1.len_at_least c.in-len1.len_below ∙ ap (λ w. w ∷ []) name)

pub returns-in_ok-plan_of-in-len4 : goal.returns-in_ok-plan_of-in-len4
returns-in_ok-plan_of-in-len4 c =
    let name : (get_or c.args.words.now 0 empty_word).now ≡ codes "storm" = search rules in
    let plan = c.in_ok-plan_of-in-len4.ensures in
    (plan.0, four_words (λ w. w.now) empty_word c.args.words.now c.in-len4.len_at_least c.in-len4.len_below ∙ (λ i. name i ∷ plan.1.0 i ∷ plan.1.1 i ∷ plan.1.2 i ∷ []))

pub returns-in_ok-plan_of-in-len5 : goal.returns-in_ok-plan_of-in-len5
returns-in_ok-plan_of-in-len5 c =
    let name : (get_or c.args.words.now 0 empty_word).now ≡ codes "storm" = search rules in
    let last : (get_or c.args.words.now 4 empty_word).now ≡ codes "grow" = search rules in
    let plan = c.in_ok-plan_of-in-len5.ensures in
    (plan.0, five_words (λ w. w.now) empty_word c.args.words.now c.in-len5.len_at_least c.in-len5.len_below ∙ (λ i. name i ∷ plan.1.0 i ∷ plan.1.1 i ∷ plan.1.2 i ∷ last i ∷ []))

pub returns-in_err-plan_of-in-len5 : goal.returns-in_err-plan_of-in-len5
returns-in_err-plan_of-in-len5 c =
    let ws = c.args.words.now in
    let are = five_words (λ w. w.now) empty_word ws c.in-len5.len_at_least c.in-len5.len_below in
    let no = c.in_err-plan_of-in-len5.ensures in
    rw c.from_residual-in_err-plan_of-in-len5.ensures (refuses_five _ _ _ _ _ (map (λ w. w.now) ws) are (λ plan storm grow allowed is. no plan allowed is))

pub returns-in_default-5 : goal.returns-in_default-5
returns-in_default-5 c =
    let ws = c.args.words.now in
    let are = five_words (λ w. w.now) empty_word ws c.in-len5.len_at_least c.in-len5.len_below in
    let differs : (get_or ws 4 empty_word).now ≡ codes "grow" → ⊥ = search rules in
    refuses_five _ _ _ _ _ (map (λ w. w.now) ws) are (λ plan storm grow allowed is. differs grow)
