-- What recency notes, as a table of (kind, key).
use Rattle.std.specs.Prelude.{◌≡◌, ℕ, Bool, true, None, List, Result, MatchResult}
use Rattle.std.specs.HashMap.{get}
use Rattle.metrics_names.specs.declared.kind.MetricKind.{MetricKind}
use Rattle.metrics.specs.Kinds.{of_kind}
use Rattle.metrics.specs.Layers.{mask_has}
use Rattle.metrics_registry.specs.declared.recency.OwnedRecency.{OwnedRecency}
use Rattle.metrics.specs.declared.error.Error.{Error}
use Rattle.metrics.specs.declared.error.Error.TheVariants.{Memory}
use Rattle.metrics_registry.specs.Held.{StaysOrGoes}
use Rattle.metrics_registry.specs.Recency.{Rules, Check, Table, is_watched, table_answer, table_after}

abbrev pub rules_of : {K : Type 0} → OwnedRecency K → Rules
rules_of r = record { timeout = r.timeout; mask = λ kind. mask_has kind r.mask }

abbrev pub table_of : {K : Type 0} → (K → K → Bool) → OwnedRecency K → Table K
table_of same r kind key = get same (of_kind kind r.noted) key

abbrev pub check_of : {K : Type 0} → MetricKind → K → ℕ → ℕ → Bool → Check K
check_of kind key generation moment held = record { kind = kind; key = key; generation = generation; moment = moment; held = held }

-- the table decided a check, and is one check further; the cells of the kind lack the key after false; a check that fails
-- changes nothing, and none fails for a key that is noted, or a kind that is not watched
abbrev pub IsChecked : {K C : Type 0} → (K → K → Bool) → Rules → Check K → Result Bool Error → Table K → Table K → List (K × C) → List (K × C) → Type 0
IsChecked {K} same rules c result old new cells cells' = MatchResult result
    (λ stays. (stays ≡ table_answer rules c old) × ((kind : MetricKind) (q : K) → new kind q ≡ table_after same rules c old kind q) × StaysOrGoes same c.key stays cells cells')
    (λ e. (e ≡ Memory) × ((kind : MetricKind) (q : K) → new kind q ≡ old kind q) × (cells' ≡ cells) × (old c.kind c.key ≡ None) × (is_watched rules c.kind ≡ true))
