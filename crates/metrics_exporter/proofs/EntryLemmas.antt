-- Entries with the same keys and the same look-ups.
use Rattle.std.proofs.Common.{◌≡◌, Bool, true, false, cond, List, [], ◌∷◌, Option, None, Some, refl, ap, sym, ◌∙◌, subst, length, suc, arith}
use Rattle.std.specs.List.{IsDistinct, AllByRecursion}
use Rattle.std.specs.Map.{keys_of, lookup}
use Rattle.std.proofs.lemmas.Map.Keys.{IsDistinct-head, IsDistinct-tail}

head_or : {A : Type 0} → A → List A → A
head_or d [] = d
head_or d (x ∷ xs) = x

tail_of : {A : Type 0} → List A → List A
tail_of [] = []
tail_of (x ∷ xs) = xs

inside : {A : Type 0} → A → Option A → A
inside d None = d
inside d (Some x) = x

module _ {K X : Type 0} (eq : K → K → Bool) (same : (k : K) → eq k k ≡ true) (exact : (a b : K) → eq a b ≡ true → a ≡ b) where
  absent : (q : K) (es : List (K × X)) → AllByRecursion (λ y. eq q y ≡ false) (keys_of es) → lookup (eq q) es ≡ None
  absent q [] h = refl
  absent q (e ∷ es) h = ap (λ b. cond b (Some e.1) (lookup (eq q) es)) h.0 ∙ absent q es h.1

  -- entries that have the same keys, each once, and the same look-ups are the same entries
  pub same-entries : (es fs : List (K × X)) → keys_of fs ≡ keys_of es → IsDistinct eq (keys_of es) → ((q : K) → lookup (eq q) fs ≡ lookup (eq q) es) → fs ≡ es
  unfolding head_or tail_of inside
  same-entries [] [] keys once found = refl
  same-entries [] (f ∷ fs) keys once found = absurd (let e : suc (length (keys_of fs)) ≡ 0 = ap length keys in omega (arith, e))
  same-entries (e ∷ es) [] keys once found = absurd (let h : 0 ≡ suc (length (keys_of es)) = ap length keys in omega (arith, h))
  same-entries ((k, x) ∷ es) ((j, y) ∷ fs) keys once found =
      let at : j ≡ k = ap (head_or k) keys in
      let rest : keys_of fs ≡ keys_of es = ap tail_of keys in
      let here : cond (eq k j) (Some y) (lookup (eq k) fs) ≡ Some x = found k ∙ ap (λ b. cond b (Some x) (lookup (eq k) es)) (same k) in
      let value : y ≡ x = ap (inside x) (sym (ap (λ b. cond b (Some y) (lookup (eq k) fs)) (ap (eq k) at ∙ same k)) ∙ here) in
      let apart : AllByRecursion (λ z. eq k z ≡ false) (keys_of es) = IsDistinct-head eq k (keys_of es) once in
      let P : List K → Type 0 = AllByRecursion (λ z. eq k z ≡ false) in
      let others : AllByRecursion (λ z. eq k z ≡ false) (keys_of fs) = subst P (sym rest) apart in
      let later : (q : K) → lookup (eq q) fs ≡ lookup (eq q) es = λ q. go q apart others at (eq q k) refl in
      ap (λ z. (z, y) ∷ fs) at ∙ ap (λ z. (k, z) ∷ fs) value ∙ ap (λ l. (k, x) ∷ l) (same-entries es fs rest (IsDistinct-tail eq k (keys_of es) once) later)
    where
      go : (q : K) → AllByRecursion (λ z. eq k z ≡ false) (keys_of es) → AllByRecursion (λ z. eq k z ≡ false) (keys_of fs) → j ≡ k → (b : Bool) → eq q k ≡ b → lookup (eq q) fs ≡ lookup (eq q) es
      go q apart others at true h =
          let is : q ≡ k = exact q k h in
          ap (λ z. lookup (eq z) fs) is ∙ absent k fs others ∙ sym (ap (λ z. lookup (eq z) es) is ∙ absent k es apart)
      go q apart others at false h =
          sym (ap (λ b. cond b (Some y) (lookup (eq q) fs)) (ap (eq q) at ∙ h)) ∙ found q ∙ ap (λ b. cond b (Some x) (lookup (eq q) es)) h
