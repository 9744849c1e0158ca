-- Names by rules.
use Rattle.std.proofs.Common.{◌≡◌, ◌∙◌, ℕ, List, [], ◌∷◌, refl, ap, sym}
use Rattle.std.specs.Prelude.{None, Some, option_map}
use Rattle.std.specs.Option.{option_or}
use Rattle.std.specs.List.{FoldsTo}
use Rattle.metrics_names.specs.Names.{KeyParts, LabelParts}
use Rattle.metrics_rules.specs.Visits.{shown}
use Rattle.tool_requests.specs.declared.renaming.First.{First}
use Rattle.tool_requests.specs.declared.requests.Request.{Request}
use Rattle.tool_requests.specs.declared.requests.Request.TheVariants.{Change, Describe, Scrape, Nothing}
use Rattle.tool_requests.proofs.CommonLemmas.{or-none, or-or}
use Rattle.tool_requests.specs.Names.{first_name, named_key, ruled_name, renamed}

-- a visitor that copies the first key
pub first-found : (labels : List LabelParts) (v : First) (ts : List (ℕ × List ℕ)) (w : First)
    → FoldsTo (shown (λ (v : First) (leaf : ℕ) (key : KeyParts) (w : First). w.found ≡ option_or v.found (Some key)) labels) v ts w
    → w.found ≡ option_or v.found (option_map (named_key labels) (first_name ts))
first-found labels v [] w h = ap (λ z. z.found) (sym h) ∙ sym (or-none v.found)
first-found labels v (t ∷ ts) w (u, is, rest) =
    first-found labels u ts w rest ∙ ap (λ o. option_or o (option_map (named_key labels) (first_name ts))) is
    ∙ or-or v.found (Some (named_key labels t.1)) (option_map (named_key labels) (first_name ts))

-- without rules each name stays
pub stays_named : (request : Request) → request ≡ renamed (ruled_name None) request
stays_named (Change key by) = refl
stays_named (Describe kind name unit note) = refl
stays_named (Scrape moment) = refl
stays_named Nothing = refl
