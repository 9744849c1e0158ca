-- Whether a text for Prometheus has a name as it is.
use Rattle.std.specs.Prelude.{ℕ, zero, suc, Bool, false, List, [], ◌∷◌, drop}
use Rattle.std.specs.List.{list_all}
use Rattle.metrics_exposition.specs.Names.{goes_on, is_name}

-- the end of a name that Prometheus allows, which isn't empty
abbrev pub is_rest : Bool → List ℕ → Bool
is_rest colons [] = false
is_rest colons (c ∷ cs) = list_all (goes_on colons) (c ∷ cs)

-- Prometheus allows a name as its line has it, without so many bytes at its front
abbrev pub stays : Bool → ℕ → List ℕ → Bool
stays colons zero name = is_name colons name
stays colons (suc n) name = is_rest colons (drop (suc n) name)
