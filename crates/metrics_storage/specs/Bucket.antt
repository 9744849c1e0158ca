-- The blocks of a bucket, and the calls of a walk.
use Rattle.std.specs.Prelude.{◌≡◌, ◌<◌, ◌≤◌, ◌⊎◌, List, [], ◌∷◌, ◌++◌, length, ⊤}
use Rattle.std.specs.List.{FoldsTo}
use Rattle.std.specs.Fn.{Mut, CalledAt, TakesAt}
use denote.Ref.{Bor}

module _ {T : Type 0} where
  -- each block has 64 values, but for the last, which has 1 to 64
  abbrev pub AreChunks : List (List T) → Type 0
  AreChunks [] = ⊤
  AreChunks (c ∷ []) = (0 < length c) × (length c ≤ 64)
  AreChunks (c ∷ d ∷ cs) = (length c ≡ 64) × AreChunks (d ∷ cs)

  -- new is old with x added to the last block, which had room
  abbrev pub AddsToLast : List (List T) → T → List (List T) → Type 0
  AddsToLast old x new = (front : List (List T)) × (last : List T) × (length last < 64) × (old ≡ front ++ last ∷ []) × (new ≡ front ++ (last ++ x ∷ []) ∷ [])

  -- there is no block, or the last is full
  abbrev pub HasNoRoom : List (List T) → Type 0
  HasNoRoom cs = (cs ≡ []) ⊎ ((front : List (List T)) × (last : List T) × (length last ≡ 64) × (cs ≡ front ++ last ∷ []))

  -- calls of f at each chunk, in order, left it as it is in last
  abbrev pub IsCalledAtEach : {F : Type 0} → Mut F (Bor (List T) × Unit {0}) (Unit {0}) → F → List (List T) → F → Type 0
  IsCalledAtEach g f cs last = FoldsTo (λ p c q. CalledAt g p c tt q) f cs last

  -- f may be called at each chunk, as calls at those before it left it
  pub record TakesEach {F : Type 0} (g : Mut F (Bor (List T) × Unit {0}) (Unit {0})) (f : F) (cs : List (List T)) : Type 0 where
    pub at : (before after : List (List T)) (f' : F) (c : List T) → cs ≡ before ++ c ∷ after → FoldsTo (λ p c q. CalledAt g p c tt q) f before f' → TakesAt g f' c

  -- the same, call by call
  abbrev pub TakesInTurn : {F : Type 0} → Mut F (Bor (List T) × Unit {0}) (Unit {0}) → F → List (List T) → Type 0
  TakesInTurn g f [] = ⊤
  TakesInTurn {F} g f (c ∷ cs) = TakesAt g f c × ((f' : F) → CalledAt g f c tt f' → TakesInTurn g f' cs)
