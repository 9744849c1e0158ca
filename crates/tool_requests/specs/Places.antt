-- How many decimal places the numbers of a name have.
use Rattle.std.specs.Prelude.{if◌then◌else◌, ℕ, ◌+◌, List, [], ◌∷◌, length, drop, Option, None, Some, bytes_eq}
use Rattle.std.specs.Option.{option_or}
use Rattle.metrics_exporter.specs.Prefixes.{at_longest, IsSetAtLongest, IsSetAtNone}
use Rattle.tool_requests.specs.declared.places.PrefixPlaces.{PrefixPlaces}

-- the places that the list sets for exactly this prefix, the last ones if it comes again
abbrev pub places_set : List PrefixPlaces → List ℕ → Option ℕ
places_set [] prefix = None
places_set (one ∷ rest) prefix = option_or (places_set rest prefix) (if bytes_eq prefix one.prefix then Some one.places else None)

-- a name of a line has the places of its longest prefix, or else none
abbrev pub places_at : List PrefixPlaces → List ℕ → ℕ
places_at list name = at_longest 0 (places_set list) name

-- the one of the list that decides for a name: that of its longest prefix, or none
abbrev pub IsBest : List PrefixPlaces → List ℕ → Option PrefixPlaces → Type 0
IsBest list name None = IsSetAtNone (places_set list) name
IsBest list name (Some one) = IsSetAtLongest (places_set list) name one.prefix one.places

-- how many bytes a kept name has before the name of its line: those of the prefix of the options and a dot
abbrev pub front_of : Option (List ℕ) → ℕ
front_of None = 0
front_of (Some prefix) = length prefix + 1

-- a kept name has the places of the name of its line
abbrev pub kept_places : List PrefixPlaces → ℕ → List ℕ → ℕ
kept_places list front name = places_at list (drop front name)
