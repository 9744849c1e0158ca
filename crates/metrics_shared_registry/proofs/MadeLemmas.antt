-- Cells that were made for their keys, before and after a change.
use Rattle.std.proofs.Common.{◌≡◌, Bool, true, false, cond, List, [], ◌∷◌, ◌++◌, Option, None, Some, refl, sym, ap, ◌∙◌, subst}
use Rattle.std.specs.Cmp.{IsEquivalence}
use Rattle.std.specs.List.{IsDistinct, FoldsTo}
use Rattle.std.specs.Map.{lookup, keys_of}
use Rattle.std.proofs.lemmas.Bool.{cond-true, cond-false}
use Rattle.metrics_registry.specs.Held.{held, IsCellOf, Sets, Calls, Retains}
use Rattle.metrics_registry.proofs.HeldLemmas.{by_answer, FoldsTo-append}
use Rattle.metrics_registry.proofs.HandlesLemmas.{one-half}
use Rattle.metrics_shared_registry.specs.Made.{IsMadeFor, AreMade, EachIsMade}

abbrev some_of : {C : Type 0} → C → Option C → C
some_of c None = c
some_of c (Some x) = x

module _ {K C : Type 0} {eq : K → K → Bool} (laws : IsEquivalence eq) (Makes : K → C → Type 0) where
  -- what is made for a key is made for an equal one
  pub made-equal : (key q : K) (c : C) → eq key q ≡ true → IsMadeFor eq Makes key c → IsMadeFor eq Makes q c
  made-equal key q c same made = (made.0, laws.congr made.0 key q made.1 ∙ same, made.2)

  pub made-found : (es : List (K × C)) → EachIsMade eq Makes es → AreMade eq Makes es
  made-found [] each q c is = cc is
  made-found (e ∷ es) each q c is =
      by_answer (eq q e.0)
      (λ t.
      let same : e.1 ≡ c = ap (some_of e.1) (sym (cond-true (eq q e.0) (Some e.1) (lookup (eq q) es) t) ∙ is) in
      subst (λ x. IsMadeFor eq Makes q x) same (made-equal e.0 q e.1 (laws.symm e.0 q ∙ t) each.0))
      (λ f. made-found es each.1 q c (sym (cond-false (eq q e.0) (Some e.1) (lookup (eq q) es) f) ∙ is))

  pub each-made : (es : List (K × C)) → IsDistinct eq (keys_of es) → AreMade eq Makes es → EachIsMade eq Makes es
  unfolding IsDistinct
  each-made [] distinct made = tt
  each-made (e ∷ es) distinct made = (
    made e.0 e.1 (cond-true (eq e.0 e.0) (Some e.1) (lookup (eq e.0) es) (laws.refl e.0)),
    each-made es distinct.1 (λ q c is. by_answer (eq q e.0)
        (λ t. cc (one-half laws (e ∷ []) es q e.1 distinct (cond-true (eq q e.0) (Some e.1) None t), is))
        (λ f. made q c (cond-false (eq q e.0) (Some e.1) (lookup (eq q) es) f ∙ is))),
  )

  -- the cell that a call found, or that was added for it
  pub made-call : (key : K) (found : Option C) (cell before : C) → ((c : C) → found ≡ Some c → IsMadeFor eq Makes key c) → Makes key cell → IsCellOf (λ c. c ≡ cell) found before → IsMadeFor eq Makes key before
  made-call key None cell before here new is = subst (λ x. IsMadeFor eq Makes key x) (sym is) (key, laws.refl key, new)
  made-call key (Some c) cell before here new is = subst (λ x. IsMadeFor eq Makes key x) (sym is) (here c refl)

  each-kept : {F : Type 0} (call : F → K × C → Bool → F → Type 0) (f last : F) (es kept : List (K × C)) → EachIsMade eq Makes es → Retains call f es kept last → EachIsMade eq Makes kept
  each-kept call f last [] kept each was = subst (λ l. EachIsMade eq Makes l) (sym was.0) tt
  each-kept call f last (e ∷ es) kept each was =
      subst (λ l. EachIsMade eq Makes l) (sym was.5) (one was.0 (each-kept call was.1 last es was.2 each.1 was.4))
    where
      one : (b : Bool) → EachIsMade eq Makes was.2 → EachIsMade eq Makes (cond b (e ∷ was.2) was.2)
      one true rest = (each.0, rest)
      one false rest = rest

  -- those that are kept
  pub made-kept : {F : Type 0} (call : F → K × C → Bool → F → Type 0) (f last : F) (old new : List (K × C)) → IsDistinct eq (keys_of old) → AreMade eq Makes old → Retains call f old new last → AreMade eq Makes new
  made-kept call f last old new distinct made was = made-found new (each-kept call f last old new (each-made old distinct made) was)

  held-same : (es : List (K × C)) (x y : K) → eq x y ≡ true → held eq es x ≡ held eq es y
  held-same [] x y e = refl
  held-same (z ∷ es) x y e = ap (λ b. cond b (Some z.1) (held eq es x)) (laws.congr x y z.0 e) ∙ ap (λ l. cond (eq y z.0) (Some z.1) l) (held-same es x y e)

  -- a key is given the cell that it has
  pub set-as-it-was : (old new : List (K × C)) (key : K) (c : C) → held eq old key ≡ Some c → Sets eq key (Some c) old new → (q : K) → held eq new q ≡ held eq old q
  set-as-it-was old new key c is sets q =
      sets q ∙ by_answer (eq key q)
      (λ t. cond-true (eq key q) (Some c) (held eq old q) t ∙ (sym is ∙ held-same old key q t))
      (λ f. cond-false (eq key q) (Some c) (held eq old q) f)

  -- a key has a cell and then none: no other key has changed
  pub set-removed : (old mid new : List (K × C)) (key : K) (w : Option C) → Sets eq key w old mid → Sets eq key None mid new → Sets eq key None old new
  set-removed old mid new key w first second q =
      second q ∙ by_answer (eq key q)
      (λ t. cond-true (eq key q) None (held eq mid q) t ∙ sym (cond-true (eq key q) None (held eq old q) t))
      (λ f. cond-false (eq key q) None (held eq mid q) f ∙ (first q ∙ (cond-false (eq key q) w (held eq old q) f ∙ sym (cond-false (eq key q) None (held eq old q) f))))

  -- a call left the cell of a key as it was
  pub call-kept : {V : Type 0} (call : C → V → C → Type 0) (key : K) (v : V) (old new : List (K × C)) → ((cell left : C) → call cell v left → left ≡ cell) → Calls eq call key v old new → (q : K) → held eq new q ≡ held eq old q
  call-kept call key v old new keeps calls = set-as-it-was old new key calls.0 calls.2 (subst (λ x. Sets eq key (Some x) old new) (keeps calls.0 calls.1 calls.3) calls.4)

  pub made-same : (old new : List (K × C)) → AreMade eq Makes old → ((q : K) → held eq new q ≡ held eq old q) → AreMade eq Makes new
  made-same old new made same q c is = made q c (sym (same q) ∙ is)

-- the calls of a walk at entries whose cells were made for their keys
abbrev pub Walked : {F K C : Type 0} → (F → K × C → F → Type 0) → (K → K → Bool) → (K → C → Type 0) → F → F → Type 0
Walked {F} {K} {C} call eq Makes f last = (es : List (K × C)) × EachIsMade eq Makes es × FoldsTo call f es last

each-append : {K C : Type 0} (eq : K → K → Bool) (Makes : K → C → Type 0) (xs ys : List (K × C)) → EachIsMade eq Makes xs → EachIsMade eq Makes ys → EachIsMade eq Makes (xs ++ ys)
each-append eq Makes [] ys first second = second
each-append eq Makes (x ∷ xs) ys first second = (first.0, each-append eq Makes xs ys first.1 second)

-- one more shard
pub walked-more : {F K C : Type 0} (call : F → K × C → F → Type 0) (eq : K → K → Bool) (Makes : K → C → Type 0) (f g h : F) (es : List (K × C)) → Walked call eq Makes f g → EachIsMade eq Makes es → FoldsTo call g es h → Walked call eq Makes f h
walked-more call eq Makes f g h es was each more = (was.0 ++ es, each-append eq Makes was.0 es was.1 each, FoldsTo-append call f was.0 es g h was.2 more)
