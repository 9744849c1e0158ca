-- Walks over the blocks of a bucket, from the newest on.
use Rattle.std.proofs.Common.{◌≡◌, ◌+◌, ◌<◌, length, arith, ℕ, zero, suc, List, [], ◌∷◌, ◌++◌, reverse, get_or, set, Result, Ok, Err, ap, refl, sym, ◌∙◌, subst, append_assoc}
use Rattle.std.proofs.lemmas.List.{reverse-append, length-append}
use Rattle.std.specs.Prelude.{IsOk, OnOk, IfErr}
use Rattle.std.specs.List.{AllZip}
use Rattle.std.specs.Fn.{Mut, CalledAt, TakesAt}
use denote.Ref.{Bor}
use Rattle.metrics.specs.Book.{joined_lists}
use Rattle.metrics_storage.specs.Bucket.{IsCalledAtEach, TakesInTurn}
use Rattle.std.specs.List.{FoldsTo}

-- the last item, and what a write there leaves
pub last_of : {A : Type 0} (bs : List A) (i : ℕ) (d y : A) → i + 1 ≡ length bs → (front : List A) × (bs ≡ front ++ get_or bs i d ∷ []) × (set bs i y ≡ front ++ y ∷ [])
last_of [] i d y e = absurd (omega arith)
last_of (b ∷ []) zero d y e = ([], refl, refl)
last_of (b ∷ []) (suc i) d y e = absurd (omega arith)
last_of (b ∷ c ∷ bs) zero d y e = absurd (omega arith)
last_of (b ∷ c ∷ bs) (suc i) d y e = let on = last_of (c ∷ bs) i d y (omega arith) in (b ∷ on.0, ap (λ l. b ∷ l) on.1, ap (λ l. b ∷ l) on.2)

module _ {E : Type 0} where
  -- a fact of the case Ok, if that case is known
  pub on_ok : {A P Q : Type 0} (r : Result A E) → (IsOk r → P → Q) → OnOk r P → OnOk r Q
  on_ok (Ok x) h p = h refl p
  on_ok (Err e) h p = p

  -- what holds after either outcome of a new block
  pub either_way : {A T : Type 0} (J : List (List T) → Type 0) (r : Result A E) (old new : List (List T)) (x : T) (P : E → Type 0)
      → OnOk r (new ≡ old ++ (x ∷ []) ∷ []) → IfErr r (λ e. P e × (new ≡ old)) → J (old ++ (x ∷ []) ∷ []) → J old → J new
  either_way J (Ok y) old new x P h g more same = subst J (sym h) more
  either_way J (Err e) old new x P h g more same = subst J (sym g.1) same

module _ {T : Type 0} where
  -- the last block comes first
  newest : (bs front : List (List T)) (b : List T) → bs ≡ front ++ b ∷ [] → reverse bs ≡ b ∷ reverse front
  newest bs front b e = ap reverse e ∙ reverse-append front (b ∷ [])

  -- a call at the last block, and then one at each other
  pub called_more : {F : Type 0} (g : Mut F (Bor (List T) × Unit {0}) (Unit {0})) (f f' last : F) (bs front : List (List T)) (b c : List T)
      → bs ≡ front ++ b ∷ [] → CalledAt g f c tt f' → c ≡ b → IsCalledAtEach g f' (reverse front) last → IsCalledAtEach g f (reverse bs) last
  called_more g f f' last bs front b c e call same rest =
      subst (λ cs. IsCalledAtEach g f cs last) (sym (newest bs front b e)) (f', subst (λ x. CalledAt g f x tt f') same call, rest)

  -- what is callable at each in turn is so at the last block, and then at each other
  pub takes_last : {F : Type 0} (g : Mut F (Bor (List T) × Unit {0}) (Unit {0})) (f : F) (bs front : List (List T)) (b c : List T)
      → bs ≡ front ++ b ∷ [] → c ≡ b → TakesInTurn g f (reverse bs) → TakesAt g f c
  takes_last g f bs front b c e same takes = subst (λ x. TakesAt g f x) (sym same) (subst (λ cs. TakesInTurn g f cs) (newest bs front b e) takes).0

  pub takes_more : {F : Type 0} (g : Mut F (Bor (List T) × Unit {0}) (Unit {0})) (f f' : F) (bs front : List (List T)) (b c : List T)
      → bs ≡ front ++ b ∷ [] → CalledAt g f c tt f' → c ≡ b → TakesInTurn g f (reverse bs) → TakesInTurn g f' (reverse front)
  takes_more g f f' bs front b c e call same takes = (subst (λ cs. TakesInTurn g f cs) (newest bs front b e) takes).1 f' (subst (λ x. CalledAt g f x tt f') same call)

  pub none_left : (R : T → T → Type 0) (bs : List (List T)) → length bs ≡ 0 → AllZip R (joined_lists (reverse bs)) []
  none_left R [] e = tt
  none_left R (b ∷ bs) e = absurd (omega arith)

  -- the blocks before the last one are fewer
  pub shorter : (bs front : List (List T)) (b : List T) → bs ≡ front ++ b ∷ [] → length front < length bs
  shorter bs front b e = omega (arith, ap length e, length-append front (b ∷ []))

  -- clones of the last block, and then of each other
  pub cloned_more : (R : T → T → Type 0) (bs front : List (List T)) (b told more rest : List T) (P : List T → Type 0)
      → bs ≡ front ++ b ∷ [] → AllZip R b more
      → ((ys : List T) → AllZip R (joined_lists (reverse bs)) ys → P (told ++ ys))
      → AllZip R (joined_lists (reverse front)) rest → P ((told ++ more) ++ rest)
  cloned_more R bs front b told more rest P e cloned all left =
      subst P (sym (append_assoc told more rest)) (all (more ++ rest) (subst (λ cs. AllZip R (joined_lists cs) (more ++ rest)) (sym (newest bs front b e)) (both b more cloned)))
    where
      both : (xs ys : List T) → AllZip R xs ys → AllZip R (xs ++ joined_lists (reverse front)) (ys ++ rest)
      both [] [] h = left
      both [] (y ∷ ys) h = absurd h
      both (x ∷ xs) [] h = absurd h
      both (x ∷ xs) (y ∷ ys) h = (h.0, both xs ys h.1)

  -- what is callable at each is so call by call
  pub in_turn : {F : Type 0} (g : Mut F (Bor (List T) × Unit {0}) (Unit {0})) (f : F) (cs : List (List T))
      → ((before after : List (List T)) (f' : F) (c : List T) → cs ≡ before ++ c ∷ after → FoldsTo (λ p x q. CalledAt g p x tt q) f before f' → TakesAt g f' c) → TakesInTurn g f cs
  in_turn g f [] h = tt
  in_turn g f (c ∷ cs) h = (h [] cs f c refl refl, λ f' call. in_turn g f' cs (λ before after f'' d e folds. h (c ∷ before) after f'' d (ap (λ l. c ∷ l) e) (f', call, folds)))
