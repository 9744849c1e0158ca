-- The letters of kinds.
use Rattle.std.proofs.Common.{if◌then◌else◌, ◌≡◌, ◌≢◌, ℕ, zero, suc, ◌+◌, ◌<◌, ◌≤◌, List, [], ◌∷◌, ◌++◌, length, Bool, true, false, ◌||◌, eqb, codes, get_or, refl, sym, ap, ◌∙◌, arith}
use Rattle.std.proofs.lemmas.List.Elements.{All-from_recursion, All-append}
use Rattle.metrics_names.specs.declared.kind.MetricKind.{MetricKind}
use Rattle.metrics_names.specs.declared.kind.MetricKind.TheVariants.{Counter, Gauge, Histogram}
use Rattle.metrics.specs.Layers.{mask_has}
use Rattle.tool_grammar.specs.Cuts.{Lacks}
use Rattle.tool_grammar.specs.Kinds.{HasKind, letter, kinds_word}

-- the mask of the letters c, g and h
abbrev pub kinds_in : List ℕ → ℕ
kinds_in [] = 0
kinds_in (x ∷ xs) = (if eqb x 99 then 1 else if eqb x 103 then 2 else if eqb x 104 then 4 else 0) + kinds_in xs

kinds_read : (mask : ℕ) → mask ≤ 7 → kinds_in (kinds_word mask) ≡ mask
kinds_read (suc (suc (suc (suc (suc (suc (suc (suc mask)))))))) le = absurd (omega (arith, le))
kinds_read mask le = refl

pub kinds_same : (j k : ℕ) → HasKind j → HasKind k → kinds_word j ≡ kinds_word k → j ≡ k
kinds_same j k h g e = sym (kinds_read j h.1) ∙ ap kinds_in e ∙ kinds_read k g.1

lacks_letter : (c : ℕ) (b : Bool) (x : ℕ) → c < x → Lacks c (letter b (x ∷ []))
lacks_letter c false x lt = All-from_recursion (λ y. y ≢ c) [] tt
lacks_letter c true x lt = All-from_recursion (λ y. y ≢ c) (x ∷ []) ((λ e. absurd (omega (arith, lt, e))), tt)

pub lacks_kinds : (c mask : ℕ) → c < 99 → Lacks c (kinds_word mask)
lacks_kinds c mask lt =
    All-append (λ y. y ≢ c) _ _ (lacks_letter c (mask_has Counter mask) 99 lt)
    (All-append (λ y. y ≢ c) _ _ (lacks_letter c (mask_has Gauge mask) 103 (omega (arith, lt))) (lacks_letter c (mask_has Histogram mask) 104 (omega (arith, lt))))

two_bytes : (word : List ℕ) (x y : ℕ) → length word ≡ 2 → get_or word 0 0 ≡ x → get_or word 1 0 ≡ y → word ≡ x ∷ (y ∷ [])
two_bytes (a ∷ (b ∷ [])) x y l p q = ap (λ z. z ∷ (b ∷ [])) p ∙ ap (λ z. x ∷ (z ∷ [])) q
two_bytes word x y l p q = absurd (omega (arith, l))

some_kind : (word : List ℕ) (mask : ℕ) → word ≡ kinds_word mask → length word ≡ 2 → 0 < mask
some_kind word zero e l = absurd (omega (arith, ap length e, l))
some_kind word (suc mask) e l = omega arith

-- the kinds of two masks, spelled by two letters
pub kinds_of_both : (word : List ℕ) (a b both x y : ℕ) → length word ≡ 2 → get_or word 0 0 ≡ x → get_or word 1 0 ≡ y → both ≤ 7 → ((kind : MetricKind) → mask_has kind both ≡ (mask_has kind a || mask_has kind b))
    → x ∷ (y ∷ []) ≡ letter (mask_has Counter a || mask_has Counter b) (codes "c") ++ (letter (mask_has Gauge a || mask_has Gauge b) (codes "g") ++ letter (mask_has Histogram a || mask_has Histogram b) (codes "h"))
    → HasKind both × (word ≡ kinds_word both)
kinds_of_both word a b both x y l p q le has e =
    let same : word ≡ kinds_word both = rw (has Counter, has Gauge, has Histogram) (two_bytes word x y l p q ∙ e) in
    ((some_kind word both same l, le), same)
