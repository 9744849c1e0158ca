-- Lists of targets, and what a call does to a list of contents, target by target.
-- A target is the number of a book, and what is meant there: mostly the name that a metric has in that book.
use Rattle.std.specs.Prelude.{if◌then◌else◌, ℕ, zero, suc, ◌+◌, ◌<◌, List, [], ◌∷◌, ◌≡◌, nat_eq}

-- the targets with their book numbers raised, for a recorder that comes after others
abbrev pub raise : {X : Type 0} → ℕ → List (ℕ × X) → List (ℕ × X)
raise k [] = []
raise k (t ∷ ts) = (k + t.0, t.1) ∷ raise k ts

-- the contents with that of one book changed
abbrev pub change_at : {C : Type 0} → ℕ → (C → C) → List C → List C
change_at b f [] = []
change_at zero f (c ∷ cs) = f c ∷ cs
change_at (suc b) f (c ∷ cs) = c ∷ change_at b f cs

-- the contents after each target was acted on, in order
abbrev pub after_targets : {X C : Type 0} → (X → C → C) → List (ℕ × X) → List C → List C
after_targets f [] cs = cs
after_targets f (t ∷ ts) cs = after_targets f ts (change_at t.0 (f t.1) cs)

-- what is meant in one book
abbrev pub in_book : {X : Type 0} → ℕ → List (ℕ × X) → List X
in_book b [] = []
in_book b (t ∷ ts) = if nat_eq t.0 b then t.1 ∷ in_book b ts else in_book b ts

-- each book's number is below this one
abbrev pub AllBelow : {X : Type 0} → ℕ → List (ℕ × X) → Type 0
AllBelow k [] = Unit {0}
AllBelow k (t ∷ ts) = (t.0 < k) × AllBelow k ts

-- the book is none of these targets'
abbrev pub IsNot : {X : Type 0} → ℕ → List (ℕ × X) → Type 0
IsNot b [] = Unit {0}
IsNot b (t ∷ ts) = (t.0 ≡ b → ⊥) × IsNot b ts

-- no book occurs twice
abbrev pub AreDistinct : {X : Type 0} → List (ℕ × X) → Type 0
AreDistinct [] = Unit {0}
AreDistinct (t ∷ ts) = IsNot t.0 ts × AreDistinct ts
