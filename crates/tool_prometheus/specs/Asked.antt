-- What a run asks of its surroundings, beside its input and its output.
use Rattle.std.specs.Prelude.{if◌then◌else◌, ◌≡◌, ℕ, Bool, List, [], ◌∷◌, ◌++◌, Option, None, Some}

-- the moments that the clock gave, and the texts that were put into the file, each in order
pub record Asked : Type 0 where
  pub clock : List ℕ
  pub files : List (List ℕ)

abbrev pub nothing_asked : Asked
nothing_asked = record { clock = []; files = [] }

-- first the one, and then the other
abbrev pub then_asked : Asked → Asked → Asked
then_asked a b = record { clock = a.clock ++ b.clock; files = a.files ++ b.files }

-- the clock gave this moment
abbrev pub clock_gave : ℕ → Asked
clock_gave moment = record { clock = moment ∷ []; files = [] }

-- the text was put into the file, if that succeeded
abbrev pub put : Bool → List ℕ → Asked
put done text = record { clock = []; files = if done then text ∷ [] else [] }

-- this was asked, where it is known what was asked before
abbrev pub Asks : Option Asked → Option Asked → Asked → Type 0
Asks None new asked = Unit {0}
Asks (Some old) new asked = new ≡ Some (then_asked old asked)
