-- Cells that stay when one call changes one key.
use Rattle.std.proofs.Common.{◌≡◌, Bool, true, false, cond, List, [], ◌∷◌, Option, None, Some, Result, Ok, Err, refl, sym, ◌∙◌, ap, subst}
use Rattle.std.specs.Cmp.{IsEquivalence}
use Rattle.std.specs.Map.{lookup}
use Rattle.std.proofs.lemmas.Bool.{cond-true, cond-false}
use Rattle.metrics.specs.declared.error.Error.{Error}
use Rattle.metrics_registry.specs.Held.{held, Sets, IsCellOf, CallsAt, GetsOrCreates}
use Rattle.metrics_journal.specs.Cells.{StaySame}

by_answer : {P : Type 0} (b : Bool) → (b ≡ true → P) → (b ≡ false → P) → P
by_answer true p q = p refl
by_answer false p q = q refl

some-is : {C : Type 0} {a b : C} → Some a ≡ Some b → a ≡ b
some-is h = cc h

pub stay-same : {K C : Type 0} (eq : K → K → Bool) (old new : List (K × C)) → new ≡ old → StaySame eq old new
stay-same eq old new is q before after was now = some-is (sym now ∙ (ap (λ es. held eq es q) is ∙ was))

same-held : {K C : Type 0} {eq : K → K → Bool} (laws : IsEquivalence eq) (es : List (K × C)) (key q : K) → eq key q ≡ true → held eq es key ≡ held eq es q
same-held laws [] key q same = refl
same-held {eq = eq} laws (e ∷ es) key q same =
    ap (λ b. cond b (Some e.1) (lookup (eq key) es)) (laws.congr key q e.0 same)
    ∙ ap (λ l. cond (eq q e.0) (Some e.1) l) (same-held laws es key q same)

of-cell : {C : Type 0} (Makes : C → Type 0) (found : Option C) (cell before : C) → found ≡ Some before → IsCellOf Makes found cell → cell ≡ before
of-cell Makes None cell before is made = absurd (cc is)
of-cell Makes (Some x) cell before is made = made ∙ some-is is

-- a key holds the cell that it held, or a new one, and all other keys stay
abbrev pub MadeAt : {K C : Type 0} → (K → K → Bool) → (K → C → Type 0) → K → List (K × C) → List (K × C) → Type 0
MadeAt {K} {C} eq Makes key old new = (cell : C) × IsCellOf (Makes key) (held eq old key) cell × Sets eq key (Some cell) old new

module _ {K C : Type 0} {eq : K → K → Bool} (laws : IsEquivalence eq) (Makes : K → C → Type 0) (key : K) (old new : List (K × C)) where
  stay-made : MadeAt eq Makes key old new → StaySame eq old new
  stay-made at q before after was now =
      by_answer (eq key q)
      (λ t.
      some-is (sym now ∙ (at.2 q ∙ cond-true (eq key q) (Some at.0) (held eq old q) t))
      ∙ of-cell (Makes key) (held eq old key) at.0 before (same-held laws old key q t ∙ was) at.1)
      (λ f. some-is (sym now ∙ (at.2 q ∙ (cond-false (eq key q) (Some at.0) (held eq old q) f ∙ was))))

  -- one call that leaves the cell as it is
  made-by : {V : Type 0} (call : C → V → C → Type 0) → ((b : C) (v : V) (a : C) → call b v a → a ≡ b) → (v : V) → CallsAt eq Makes call key v old new → MadeAt eq Makes key old new
  made-by call same v at = let P : C → Type 0 = λ a. Sets eq key (Some a) old new in (at.0, at.2, subst P (same at.0 v at.1 at.3) at.4)

  -- a call that fails changes nothing
  pub stay : {V : Type 0} (clone : K → K → Type 0) (call : C → V → C → Type 0) (InOneShard : Type 0) → ((b : C) (v : V) (a : C) → call b v a → a ≡ b) → (result : Result V Error) → GetsOrCreates eq clone Makes call InOneShard key result old new → StaySame eq old new
  stay clone call InOneShard same (Ok v) got = stay-made (made-by call same v got.0)
  stay clone call InOneShard same (Err e) got = stay-same eq old new got.1
