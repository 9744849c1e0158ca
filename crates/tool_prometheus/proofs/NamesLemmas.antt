-- Names by the rules of the options.
use Rattle.std.proofs.Common.{if◌then◌else◌, ◌≡◌, ◌∙◌, ℕ, Bool, true, false, List, [], ◌∷◌, refl, ap, sym}
use Rattle.std.specs.Prelude.{None, Some}
use Rattle.metrics_names.specs.declared.kind.MetricKind.{MetricKind}
use Rattle.metrics.specs.Book.{new_book}
use Rattle.metrics.specs.Layers.{dotted, prefixed, filtered, matches}
use Rattle.metrics.specs.Meaning.{Meaning, one_book}
use Rattle.metrics_rules.specs.Meanings.{rules_meaning}
use Rattle.metrics_rules.specs.declared.rules.Rules.{Rules}
use Rattle.tool_prometheus.specs.declared.commands.Options.{Options}
use Rattle.tool_prometheus.specs.Names.{below, name_by}
use Rattle.tool_requests.specs.Names.{first_name, ruled_name}

pub leaf_targets : (m : Meaning) → m ≡ one_book new_book → (kind : MetricKind) (name : List ℕ) → m.targets kind name ≡ (0, name) ∷ []
leaf_targets m is kind name = ap (λ (z : Meaning). z.targets kind name) is

pub prefixed_targets : (m inner : Meaning) (front : List ℕ) → m ≡ prefixed front inner → inner ≡ one_book new_book
    → (kind : MetricKind) (name : List ℕ) → m.targets kind name ≡ (0, dotted front name) ∷ []
prefixed_targets m inner front is leaf kind name =
    ap (λ (z : Meaning). z.targets kind name) is ∙ leaf_targets inner leaf kind (dotted front name)

-- without a prefix and dropped names
pub unnamed : (options : Options) → options.prefix ≡ None → options.drops ≡ [] → (kind : MetricKind) (name : List ℕ)
    → ruled_name None kind name ≡ name_by options kind name
unnamed options prefix drops kind name =
    sym (λ i. if matches false (drops i) name then None else Some (below (prefix i) name))

-- without dropped names
pub undropped : (rules : Rules) (options : Options) → options.drops ≡ []
    → ((kind : MetricKind) (name : List ℕ) → (rules_meaning rules).targets kind name ≡ (0, below options.prefix name) ∷ [])
    → (kind : MetricKind) (name : List ℕ) → ruled_name (Some rules) kind name ≡ name_by options kind name
undropped rules options drops one kind name =
    ap first_name (one kind name) ∙ sym (λ i. if matches false (drops i) name then None else Some (below options.prefix name))

-- a filter drops the one target, or doesn't
filtered-name : (b : Bool) (ts : List (ℕ × List ℕ)) (name : List ℕ) → ts ≡ (0, name) ∷ []
    → first_name (if b then [] else ts) ≡ (if b then None else Some name)
filtered-name true ts name is = refl
filtered-name false ts name is = ap first_name is

pub filtered_names : (rules : Rules) (inner : Meaning) (options : Options) → rules_meaning rules ≡ filtered false options.drops inner
    → ((kind : MetricKind) (name : List ℕ) → inner.targets kind name ≡ (0, below options.prefix name) ∷ [])
    → (kind : MetricKind) (name : List ℕ) → ruled_name (Some rules) kind name ≡ name_by options kind name
filtered_names rules inner options is one kind name =
    ap (λ (z : Meaning). first_name (z.targets kind name)) is
    ∙ filtered-name (matches false options.drops name) (inner.targets kind name) (below options.prefix name) (one kind name)
