-- A closure that gathers items until it fails.
use Rattle.std.proofs.Common.{◌≡◌, ◌∙◌, ℕ, List, ◌∷◌, [], ◌++◌, Result, Ok, Err, OnOk, IsOk, ap, refl}
use Rattle.std.specs.List.{FoldsTo}
use Rattle.std.proofs.lemmas.Fn.{chained_keeps}

one-more : {E A : Type 0} (before after : Result (Unit {0}) E) (was now xs : List A) (x : A) → OnOk after (now ≡ was ++ x ∷ []) → OnOk after (IsOk before) → OnOk before (was ≡ xs) → OnOk after (now ≡ xs ++ x ∷ [])
one-more (Ok a) (Ok b) was now xs x h g e = h ∙ ap (λ l. l ++ x ∷ []) e
one-more (Err a) (Ok b) was now xs x h g e = absurd (let f = g in cc)
one-more before (Err b) was now xs x h g e = tt

-- each call adds an item unless one has failed, and leaves the two places where they are
module _ {F E A : Type 0} (R : F → A → F → Type 0) (first second : F → ℕ) (done : F → Result (Unit {0}) E) (items : F → List A) where
  pub gathers : ((q : F) (x : A) (v : F) → R q x v → (first v ≡ first q) × (second v ≡ second q) × OnOk (done v) (items v ≡ items q ++ x ∷ []) × OnOk (done v) (IsOk (done q)))
      → (xs : List A) (f last : F) → OnOk (done f) (items f ≡ []) → FoldsTo R f xs last → (first last ≡ first f) × (second last ≡ second f) × OnOk (done last) (items last ≡ xs)
  gathers step xs f last start folds =
      chained_keeps R (λ xs q. (first q ≡ first f) × (second q ≡ second f) × OnOk (done q) (items q ≡ xs))
      (λ xs q x v j r. let s = step q x v r in (s.0 ∙ j.0, s.1 ∙ j.1, one-more (done q) (done v) (items q) (items v) xs x s.2 s.3 j.2)) xs f last (refl, refl, start) folds

pub on-ok : {E : Type 0} (r : Result (Unit {0}) E) (t : Unit {0}) {P : Type 0} → OnOk r P → r ≡ Ok t → P
on-ok (Ok u) t p e = p
on-ok (Err x) t p e = absurd (let f = e in cc)
