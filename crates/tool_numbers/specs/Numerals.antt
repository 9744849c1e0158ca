-- Numbers in decimal notation, as people and awk write them, and what they are in units of the last of so many decimal places.
use Rattle.std.specs.Prelude.{if◌then◌else◌, ◌≡◌, ◌≢◌, ℕ, ◌+◌, ◌*◌, ◌^◌, ◌<◌, ◌≤◌, ℤ, pos, neg_ℤ, Bool, true, false, List, [], ◌∷◌, ◌++◌, length, codes, decimal}
use Rattle.std.specs.Str.Parse.{AllDigits, digits_value}
use Rattle.metrics.specs.declared.handles.Update.{Update}
use Rattle.metrics.specs.declared.handles.Update.TheVariants.{Increment, Absolute, Add, Subtract, Set, Record}
use Rattle.tool_grammar.specs.Grammar.{IsInRange}

-- ---- numerals

-- a power of ten after a number, by the digits of its exponent, as in `1e9`, `1e+09` and `1e-09`
pub data Power : Type 0 where
  none : Power
  raised : List ℕ → Power
  raised_plus : List ℕ → Power
  lowered : List ℕ → Power

-- a number as it is written: a minus or none, the number before the point, the digits after it, and a power of ten
pub record Numeral : Type 0 where
  pub minus : Bool
  pub whole : ℕ
  pub fraction : List ℕ
  pub power : Power

abbrev pub whole_word : Bool → ℕ → List ℕ
whole_word true n = 45 ∷ decimal n
whole_word false n = decimal n

-- digits after a point; without any there is no point
abbrev pub point_word : List ℕ → List ℕ
point_word [] = []
point_word (d ∷ ds) = 46 ∷ (d ∷ ds)

abbrev pub power_word : Power → List ℕ
power_word none = []
power_word (raised ds) = 101 ∷ ds
power_word (raised_plus ds) = 101 ∷ (43 ∷ ds)
power_word (lowered ds) = 101 ∷ (45 ∷ ds)

abbrev pub numeral_word : Numeral → List ℕ
numeral_word n = (whole_word n.minus n.whole ++ point_word n.fraction) ++ power_word n.power

-- one digit or two
abbrev pub IsExponent : List ℕ → Type 0
IsExponent ds = (0 < length ds) × (length ds ≤ 2) × AllDigits 10 ds

abbrev pub IsPower : Power → Type 0
IsPower none = Unit {0}
IsPower (raised ds) = IsExponent ds
IsPower (raised_plus ds) = IsExponent ds
IsPower (lowered ds) = IsExponent ds

-- up to 18 digits after the point
abbrev pub IsFraction : List ℕ → Type 0
IsFraction ds = AllDigits 10 ds × (length ds ≤ 18)

abbrev pub IsNumeral : Numeral → Type 0
IsNumeral n = (n.whole < 2 ^ 64) × IsFraction n.fraction × IsPower n.power

-- ---- what it is worth

-- the number of its digits, without the point
abbrev pub digits_of : Numeral → ℕ
digits_of n = n.whole * 10 ^ length n.fraction + digits_value 10 n.fraction

-- by how many places the power moves the point to the right, and to the left
abbrev pub up : Power → ℕ
up none = 0
up (raised ds) = digits_value 10 ds
up (raised_plus ds) = digits_value 10 ds
up (lowered ds) = 0

abbrev pub down : Power → ℕ
down none = 0
down (raised ds) = 0
down (raised_plus ds) = 0
down (lowered ds) = digits_value 10 ds

-- so many units of the last of so many decimal places are the number without its sign
abbrev pub IsWorth : ℕ → Numeral → ℕ → Type 0
IsWorth places n units = units * 10 ^ (length n.fraction + down n.power) ≡ digits_of n * 10 ^ (places + up n.power)

abbrev pub signed : Bool → ℕ → ℤ
signed true n = neg_ℤ (pos n)
signed false n = pos n

-- without a power of ten there are no more decimal places than these
abbrev pub HasRoom : ℕ → Numeral → Type 0
HasRoom places n = n.power ≡ none → length n.fraction ≤ places

-- the word is the number of so many units of the last of so many decimal places; `-0` is none
pub record IsNumber (places : ℕ) (z : ℤ) (word : List ℕ) : Type 0 where
  pub numeral : Numeral
  pub units : ℕ
  pub fits : IsNumeral numeral
  pub is : word ≡ numeral_word numeral
  pub other : word ≢ codes "-0"
  pub room : HasRoom places numeral
  pub worth : IsWorth places numeral units
  pub sign : z ≡ signed numeral.minus units

-- ---- amounts

abbrev pub amount_of : Update → ℤ
amount_of (Increment n) = pos n
amount_of (Absolute n) = pos n
amount_of (Add z) = z
amount_of (Subtract z) = z
amount_of (Set z) = z
amount_of (Record z) = z

-- the word is the update's amount, which is in its range
abbrev pub IsAmount : ℕ → Update → List ℕ → Type 0
IsAmount places by word = IsInRange by × IsNumber places (amount_of by) word
