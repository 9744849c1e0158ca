-- The parts of a number, as they are read.
use Rattle.std.specs.Prelude.{◌≡◌, Bool, true, false, length}
use Rattle.tool_numbers.specs.declared.numerals.Parts.{Parts}
use Rattle.tool_numbers.specs.Numerals.{Power, none, raised, raised_plus, lowered, Numeral, digits_of, up, down}

abbrev pub is_none : Power → Bool
is_none none = true
is_none (raised ds) = false
is_none (raised_plus ds) = false
is_none (lowered ds) = false

-- the numeral has these parts
pub record HasParts (n : Numeral) (p : Parts) : Type 0 where
  pub minus : p.minus ≡ n.minus
  pub digits : p.digits ≡ digits_of n
  pub places : p.places ≡ length n.fraction
  pub is_plain : p.is_plain ≡ is_none n.power
  pub up : p.up ≡ up n.power
  pub down : p.down ≡ down n.power
