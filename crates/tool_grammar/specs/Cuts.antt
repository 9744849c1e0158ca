-- The place of a byte in a text.
use Rattle.std.specs.Prelude.{◌≡◌, ◌≢◌, ℕ, List, [], ◌∷◌, All}

-- the byte isn't there
abbrev pub Lacks : ℕ → List ℕ → Type 0
Lacks c bytes = All (λ x. x ≢ c) bytes

-- nothing, or the byte comes first
abbrev pub StartsAt : ℕ → List ℕ → Type 0
StartsAt c [] = Unit {0}
StartsAt c (x ∷ xs) = x ≡ c
