-- Lists of one, of four and of five words.
use Rattle.std.proofs.Common.{◌≡◌, ℕ, ◌<◌, ◌≤◌, ◌∙◌, List, [], ◌∷◌, length, map, get_or, codes, refl, sym, ap, arith}
use Rattle.tool_lines.specs.declared.requests.StormPlan.{StormPlan}
use Rattle.tool_lines.specs.declared.requests.Request.{Request}
use Rattle.tool_lines.specs.declared.requests.Request.TheVariants.{Run, Storm, GrowingStorm}
use Rattle.tool_lines.specs.Requests.{IsAllowedPlan, IsPlanOf, Asks}

pub one_word : {A B : Type 0} (f : A → B) (d : A) (ws : List A) → 1 ≤ length ws → length ws < 2 → map f ws ≡ f (get_or ws 0 d) ∷ []
one_word f d [] low high = absurd (omega arith)
one_word f d (a ∷ []) low high = refl
one_word f d (a ∷ b ∷ ws) low high = absurd (omega arith)

pub four_words : {A B : Type 0} (f : A → B) (d : A) (ws : List A) → 4 ≤ length ws → length ws < 5 → map f ws ≡ f (get_or ws 0 d) ∷ f (get_or ws 1 d) ∷ f (get_or ws 2 d) ∷ f (get_or ws 3 d) ∷ []
four_words f d [] low high = absurd (omega arith)
four_words f d (a ∷ []) low high = absurd (omega arith)
four_words f d (a ∷ b ∷ []) low high = absurd (omega arith)
four_words f d (a ∷ b ∷ c ∷ []) low high = absurd (omega arith)
four_words f d (a ∷ b ∷ c ∷ e ∷ []) low high = refl
four_words f d (a ∷ b ∷ c ∷ e ∷ g ∷ ws) low high = absurd (omega arith)

pub five_words : {A B : Type 0} (f : A → B) (d : A) (ws : List A) → 5 ≤ length ws → length ws < 6 → map f ws ≡ f (get_or ws 0 d) ∷ f (get_or ws 1 d) ∷ f (get_or ws 2 d) ∷ f (get_or ws 3 d) ∷ f (get_or ws 4 d) ∷ []
five_words f d [] low high = absurd (omega arith)
five_words f d (a ∷ []) low high = absurd (omega arith)
five_words f d (a ∷ b ∷ []) low high = absurd (omega arith)
five_words f d (a ∷ b ∷ c ∷ []) low high = absurd (omega arith)
five_words f d (a ∷ b ∷ c ∷ e ∷ []) low high = absurd (omega arith)
five_words f d (a ∷ b ∷ c ∷ e ∷ g ∷ []) low high = refl
five_words f d (a ∷ b ∷ c ∷ e ∷ g ∷ h ∷ ws) low high = absurd (omega arith)

-- five words that ask for no storm on a growing bucket ask for nothing
pub refuses_five : (a b c d e : List ℕ) (words : List (List ℕ)) → words ≡ a ∷ b ∷ c ∷ d ∷ e ∷ [] → ((plan : StormPlan) → a ≡ codes "storm" → e ≡ codes "grow" → IsAllowedPlan plan → IsPlanOf b c d plan → ⊥) → (asked : Request) → Asks words asked → ⊥
refuses_five a b c d e words are none Run asks = let n = ap (λ (l : List (List ℕ)). length l) (sym are ∙ asks.1) in absurd (omega arith)
refuses_five a b c d e words are none (Storm plan) asks = let n = ap (λ (l : List (List ℕ)). length l) (sym are ∙ asks.1) in absurd (omega arith)
refuses_five a b c d e words are none (GrowingStorm plan) asks =
    let same = sym are ∙ asks.1 in
    none plan (ap (λ (l : List (List ℕ)). get_or l 0 []) same) (ap (λ (l : List (List ℕ)). get_or l 4 []) same) asks.0
    (ap (λ (l : List (List ℕ)). get_or l 1 []) same, ap (λ (l : List (List ℕ)). get_or l 2 []) same, ap (λ (l : List (List ℕ)). get_or l 3 []) same)
