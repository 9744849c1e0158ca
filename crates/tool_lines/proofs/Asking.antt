-- What words ask for, and what is written for it.
use Rattle.std.proofs.Common.{◌≡◌, ℕ, pos, ◌-◌, ◌*◌, ◌∙◌, List, [], ◌++◌, length, get_or, decimal, Result, Ok, Err, OnOk, refl, sym, ap, subst, arith}
use Rattle.std.specs.Result.{IsErr}
use Rattle.std.proofs.lemmas.Fmt.{decimal_injective}
use Rattle.tool_grammar.specs.declared.error.RunError.{RunError}
use Rattle.tool_storm.specs.declared.totals.Totals.{Totals}
use Rattle.tool_storm.specs.Numbers.{sum_below}
use Rattle.tool_storm.specs.Texts.{totals_text}
use Rattle.tool_lines.specs.declared.requests.StormPlan.{StormPlan}
use Rattle.tool_lines.specs.declared.requests.Request.{Request}
use Rattle.tool_lines.specs.declared.requests.Request.TheVariants.{Run, Storm, GrowingStorm}
use Rattle.tool_lines.specs.Requests.{IsAllowedPlan, request_words, Asks, PrintsTotals, Prints, Begins}

-- ---- words ask for one thing at most

abbrev words_in : List (List ℕ) → ℕ
words_in ws = length ws

-- words of two requests are as many
as_many : (words : List (List ℕ)) (a b : Request) → Asks words a → Asks words b → words_in (request_words a) ≡ words_in (request_words b)
as_many words a b p q = ap words_in (sym p.1 ∙ q.1)

plan_same : (p q : StormPlan) → p.pushers ≡ q.pushers → p.values ≡ q.values → p.blocks ≡ q.blocks → p ≡ q
plan_same p q a b c = λ i. record { pushers = a i; values = b i; blocks = c i }

one_plan : (p q : StormPlan) → IsAllowedPlan p → IsAllowedPlan q → decimal p.pushers ≡ decimal q.pushers → decimal p.values ≡ decimal q.values → decimal p.blocks ≡ decimal q.blocks → p ≡ q
one_plan p q h g a b c =
    plan_same p q (decimal_injective p.pushers q.pushers (omega (arith, h.1)) (omega (arith, g.1)) a)
    (decimal_injective p.values q.values (omega (arith, h.2)) (omega (arith, g.2)) b)
    (decimal_injective p.blocks q.blocks (omega (arith, h.4)) (omega (arith, g.4)) c)

pub asks_same : (words : List (List ℕ)) (a b : Request) → Asks words a → Asks words b → a ≡ b
asks_same words Run Run p q = refl
asks_same words Run (Storm k) p q = let n = as_many words Run (Storm k) p q in absurd (omega (arith, n))
asks_same words Run (GrowingStorm k) p q = let n = as_many words Run (GrowingStorm k) p q in absurd (omega (arith, n))
asks_same words (Storm j) Run p q = let n = as_many words (Storm j) Run p q in absurd (omega (arith, n))
asks_same words (Storm j) (GrowingStorm k) p q = let n = as_many words (Storm j) (GrowingStorm k) p q in absurd (omega (arith, n))
asks_same words (GrowingStorm j) Run p q = let n = as_many words (GrowingStorm j) Run p q in absurd (omega (arith, n))
asks_same words (GrowingStorm j) (Storm k) p q = let n = as_many words (GrowingStorm j) (Storm k) p q in absurd (omega (arith, n))
asks_same words (Storm j) (Storm k) p q =
    let e = sym p.1 ∙ q.1 in
    ap Storm (one_plan j k p.0 q.0 (ap (λ (l : List (List ℕ)). get_or l 1 []) e) (ap (λ (l : List (List ℕ)). get_or l 2 []) e) (ap (λ (l : List (List ℕ)). get_or l 3 []) e))
asks_same words (GrowingStorm j) (GrowingStorm k) p q =
    let e = sym p.1 ∙ q.1 in
    ap GrowingStorm (one_plan j k p.0 q.0 (ap (λ (l : List (List ℕ)). get_or l 1 []) e) (ap (λ (l : List (List ℕ)). get_or l 2 []) e) (ap (λ (l : List (List ℕ)). get_or l 3 []) e))

-- ---- what is written

-- for whatever the words ask
pub begun : {A : Type 0} (words : List (List ℕ)) (request : Request) (W : List ℕ → Type 0) (r : Result A RunError) → Asks words request → Begins (Prints request) W r
    → (asked : Request) → Asks words asked → (text more : List ℕ) × W text × Prints asked (text ++ more)
begun words request W r p (text, more, w, print, e) asked q = (text, more, w, subst (λ a. Prints a (text ++ more)) (asks_same words request asked p q) print)

not_ok : {A : Type 0} (r : Result A RunError) (P : Type 0) → IsErr r → OnOk r P
not_ok (Ok x) P h = absurd (cc)
not_ok (Err e) P h = tt

-- the totals of a storm of which no worker was stopped
abbrev free_totals : StormPlan → Totals
free_totals plan =
    let all : ℕ × ℕ = ((plan.pushers - 0) * plan.values, (plan.pushers - 0) * sum_below plan.values) in
    record { pushed = all; found = all; sampled = (0, 0, pos 0); stopped = 0 }

-- nothing begins their text
pub none_of_totals : {A : Type 0} (plan : StormPlan) (W : List ℕ → Type 0) (r : Result A RunError) → IsErr r → W [] → Begins (PrintsTotals plan) W r
none_of_totals plan W r err w = ([], totals_text (free_totals plan), w, (free_totals plan, record { stopped = omega arith; pushed = refl; found = refl }, refl), not_ok r _ err)

-- an error is passed through
pub handed_on : {A B : Type 0} (Print W : List ℕ → Type 0) (r : Result A RunError) (q : Result B RunError) → IsErr q → Begins Print W r → Begins Print W q
handed_on Print W r q err (text, more, w, print, all) = (text, more, w, print, not_ok q _ err)
