-- Numbers as they are written: whole numbers over a power of ten, as short as they can be.
use Rattle.std.specs.Prelude.{if◌then◌else◌, ◌≡◌, ◌<◌, ◌⊎◌, ℕ, zero, suc, ◌+◌, ◌-◌, ◌*◌, ◌/◌, ◌%◌, ◌^◌, ℤ, pos, negsuc, neg_ℤ, int_lt, nat_eq, List, [], ◌∷◌, ◌++◌, length, decimal}

-- a number of units of the last of so many decimal places: its last digit comes last
abbrev pub pointed : ℕ → ℕ → List ℕ
pointed zero n = decimal n ++ 46 ∷ []
pointed (suc places) n = pointed places (n / 10) ++ (48 + n % 10) ∷ []

-- the same without zeros at the end; a whole number has no point
abbrev pub unsigned : ℕ → ℕ → List ℕ
unsigned zero n = decimal n
unsigned (suc places) n = if nat_eq (n % 10) 0 then unsigned places (n / 10) else pointed (suc places) n

-- a minus comes before a number below zero
abbrev pub number : ℕ → ℤ → List ℕ
number places (pos n) = unsigned places n
number places (negsuc n) = 45 ∷ unsigned places (suc n)

-- ---- what a reader makes of them

-- the number of n's digits and then these; a point among them changes nothing
abbrev pub spelled_behind : ℕ → List ℕ → ℕ
spelled_behind n [] = n
spelled_behind n (c ∷ cs) = if nat_eq c 46 then spelled_behind n cs else spelled_behind (n * 10 + (c - 48)) cs

-- the whole number of a text's digits, after a minus or none
abbrev pub whole_in : List ℕ → ℤ
whole_in [] = pos 0
whole_in (c ∷ cs) = if nat_eq c 45 then neg_ℤ (pos (spelled_behind 0 cs)) else pos (spelled_behind 0 (c ∷ cs))

-- how many digits follow the point
abbrev pub places_in : List ℕ → ℕ
places_in [] = 0
places_in (c ∷ cs) = if nat_eq c 46 then length cs else places_in cs

-- a number without its sign
abbrev pub size : ℤ → ℕ
size (pos n) = n
size (negsuc n) = suc n

-- a text is the shortest one of z over this power of ten: its digits, with zeros for the decimal places that it does without, are
-- those of z; so many of them follow the point; and the last one that does isn't 0
pub record IsShifted (places : ℕ) (z : ℤ) (text : List ℕ) : Type 0 where
  pub without : ℕ
  pub digits : size (whole_in text) * 10 ^ without ≡ size z
  pub sign : int_lt (whole_in text) (pos 0) ≡ int_lt z (pos 0)
  pub behind : places_in text + without ≡ places
  pub shortest : (places_in text ≡ 0) ⊎ (0 < size (whole_in text) % 10)
