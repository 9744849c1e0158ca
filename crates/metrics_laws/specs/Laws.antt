-- Laws of the definitions: that what is computed is what was meant.
use Rattle.std.specs.Prelude.{◌≡◌, ℕ, ◌<◌, ◌≤◌, ℤ, Bool, List, [], ◌∷◌, length, MatchOption}
use Rattle.std.specs.Bool.{Decides}
use Rattle.metrics_names.specs.declared.kind.MetricKind.{MetricKind}
use Rattle.metrics_names.specs.Names.{SeriesKey, series_key_eq}
use Rattle.metrics.specs.Book.{chunks, joined_lists}
use Rattle.metrics.specs.Layers.{Matches, matches, Route, NoneFits, IsWinner, winner}

-- composite keys are equal if all their parts are
abbrev pub EqualityIsOfAllParts : Type 0
EqualityIsOfAllParts = (a b : SeriesKey) → Decides (series_key_eq a b) (a ≡ b)

-- a filter rejects a name exactly if some listed pattern is a substring of it
abbrev pub FilterTestsSubstrings : Type 0
FilterTestsSubstrings = (fold : Bool) (patterns : List (List ℕ)) (name : List ℕ) → Decides (matches fold patterns name) (Matches fold patterns name)

-- the winner is a fitting route such that no fitting route has a longer pattern and no later one has the same; if there is
-- none, no route fits
abbrev pub WinnerIsWinner : Type 0
WinnerIsWinner = (routes : List Route) (kind : MetricKind) (name : List ℕ) → MatchOption (winner routes kind name) (NoneFits routes kind name) (IsWinner routes kind name)

-- the chunks in their order are the whole list
abbrev pub ChunksAreTheList : Type 0
ChunksAreTheList = (xs : List ℤ) → joined_lists (chunks xs) ≡ xs

-- the last one has 1 to 64, and each other one has 64
abbrev pub AreFullButLast : List (List ℤ) → Type 0
AreFullButLast [] = Unit {0}
AreFullButLast (last ∷ []) = (0 < length last) × (length last ≤ 64)
AreFullButLast (chunk ∷ next ∷ rest) = (length chunk ≡ 64) × AreFullButLast (next ∷ rest)

-- the chunks have 64 each, and the last one what is left
abbrev pub ChunksAreFull : Type 0
ChunksAreFull = (xs : List ℤ) → AreFullButLast (chunks xs)
