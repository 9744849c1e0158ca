-- Names and label values as Prometheus allows and writes them.
use Rattle.std.specs.Prelude.{if◌then◌else◌, ℕ, Bool, true, false, not, ◌&&◌, ◌||◌, nat_eq, List, [], ◌∷◌, map, codes, chars, flat_map, encode_utf8}
use Rattle.std.specs.List.{list_all}
use Rattle.std.specs.Char.{is_ascii_alphabetic, is_ascii_digit}

-- a name begins with a letter or an underscore, a metric's also with a colon
abbrev pub begins : Bool → ℕ → Bool
begins colons c = is_ascii_alphabetic c || (nat_eq c 95 || (colons && nat_eq c 58))

-- after the first character digits are allowed too
abbrev pub goes_on : Bool → ℕ → Bool
goes_on colons c = begins colons c || is_ascii_digit c

abbrev pub or_underscore : Bool → ℕ → ℕ
or_underscore allowed c = if allowed then c else 95

abbrev pub spelled : Bool → List ℕ → List ℕ
spelled colons [] = []
spelled colons (c ∷ cs) = or_underscore (begins colons c) c ∷ map (λ d. or_underscore (goes_on colons d) d) cs

-- the empty name is an underscore
abbrev pub or_one : List ℕ → List ℕ
or_one [] = 95 ∷ []
or_one (c ∷ cs) = c ∷ cs

-- each character that isn't allowed becomes an underscore
abbrev pub metric_name : List ℕ → List ℕ
metric_name name = or_one (spelled true (chars name))

abbrev pub label_name : List ℕ → List ℕ
label_name name = or_one (spelled false (chars name))

-- a name that Prometheus allows
abbrev pub is_name : Bool → List ℕ → Bool
is_name colons [] = false
is_name colons (c ∷ cs) = begins colons c && list_all (goes_on colons) cs

-- a backslash comes before a backslash and a double quote, and a line feed is a backslash and an n
abbrev pub escape : ℕ → List ℕ
escape c = if nat_eq c 92 then codes "\\\\" else (if nat_eq c 34 then codes "\\\"" else (if nat_eq c 10 then codes "\\n" else encode_utf8 c))

abbrev pub escaped : List ℕ → List ℕ
escaped value = flat_map escape (chars value)

-- a character that has no escape
abbrev pub is_plain : ℕ → Bool
is_plain c = not (nat_eq c 92) && (not (nat_eq c 34) && not (nat_eq c 10))

-- the same of a description, in which a double quote stays
abbrev pub help_escape : ℕ → List ℕ
help_escape c = if nat_eq c 92 then codes "\\\\" else (if nat_eq c 10 then codes "\\n" else encode_utf8 c)

abbrev pub help_escaped : List ℕ → List ℕ
help_escaped text = flat_map help_escape (chars text)
