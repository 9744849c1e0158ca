-- The table of (kind, key) to generation and moment: one check.
use Rattle.std.specs.Prelude.{◌≡◌, ◌==◌, ℕ, ◌-◌, Bool, true, false, not, ◌&&◌, if◌then◌else◌, List, [], ◌∷◌, Option, None, Some, Result, MatchResult, is_some, nat_lt}
use Rattle.metrics.specs.declared.error.Error.{Error}
use Rattle.metrics.specs.declared.error.Error.TheVariants.{Memory}
use Rattle.metrics_registry.specs.declared.recency.Noted.{Noted}
use Rattle.metrics_names.specs.declared.kind.MetricKind.{MetricKind}
use Rattle.metrics_names.specs.Names.{kind_eq}

-- how long a series may stay unseen, if that is bounded, and of which kinds
pub record Rules : Type 0 where
  pub timeout : Option ℕ
  pub mask : MetricKind → Bool

-- a check of a series: its kind and key, its generation, the moment, and whether the registry holds the key
pub record Check (K : Type 0) : Type 0 where
  pub kind : MetricKind
  pub key : K
  pub generation : ℕ
  pub moment : ℕ
  pub held : Bool

-- what is noted of each (kind, key): the generation and the moment of a check
abbrev pub Table : Type 0 → Type 0
Table K = MetricKind → K → Option Noted

abbrev pub new_table : {K : Type 0} → Table K
new_table kind key = None

-- a check is of this (kind, key)
abbrev pub is_of : {K : Type 0} → (K → K → Bool) → Check K → MetricKind → K → Bool
is_of same c kind key = kind_eq c.kind kind && same c.key key

-- whether more than the timeout passed between two moments; one that goes back counts as zero
abbrev pub is_late : Option ℕ → ℕ → ℕ → Bool
is_late None from now = false
is_late (Some timeout) from now = nat_lt timeout (now - from)

-- a check's generation and moment
abbrev pub noted_now : {K : Type 0} → Check K → Noted
noted_now c = record { generation = c.generation; moment = c.moment }

-- one check, if notes are kept: the result, and what is noted after it
abbrev pub watch_step : Option ℕ → Noted → Bool → Option Noted → Bool × Option Noted
watch_step timeout seen held None = (true, Some seen)
watch_step timeout seen held (Some noted) =
    if noted.generation == seen.generation
    then (if is_late timeout noted.moment seen.moment && held then (false, None) else (true, Some noted))
    else (true, Some seen)

-- notes are kept of a kind: there is a timeout, and the mask has the kind
abbrev pub is_watched : Rules → MetricKind → Bool
is_watched rules kind = is_some rules.timeout && rules.mask kind

-- one check: for a kind that is not watched the result is true and nothing is noted
abbrev pub check_step : {K : Type 0} → Rules → Check K → Option Noted → Bool × Option Noted
check_step rules c noted = if is_watched rules c.kind then watch_step rules.timeout (noted_now c) c.held noted else (true, noted)

-- the result of a check by the table: whether the series is kept; `false` says that it is idle
abbrev pub table_answer : {K : Type 0} → Rules → Check K → Table K → Bool
table_answer rules c table = (check_step rules c (table c.kind c.key)).0

-- the table after a check
abbrev pub table_after : {K : Type 0} → (K → K → Bool) → Rules → Check K → Table K → Table K
table_after same rules c table = λ kind key. if is_of same c kind key then (check_step rules c (table c.kind c.key)).1 else table kind key

-- the result of a check, or None if it adds a note
abbrev pub glance : {K : Type 0} → Rules → Check K → Option Noted → Option Bool
glance rules c noted = if is_watched rules c.kind && not (is_some noted) then None else Some (check_step rules c noted).0

-- what is noted after it, if it adds no note
abbrev pub rechecked : {K : Type 0} → Rules → Check K → Option Noted → Option Noted
rechecked rules c noted = if is_watched rules c.kind && not (is_some noted) then None else (check_step rules c noted).1

-- the results of checks, one after another
abbrev pub table_answers : {K : Type 0} → (K → K → Bool) → Rules → Table K → List (Check K) → List Bool
table_answers same rules table [] = []
table_answers same rules table (c ∷ checks) = table_answer rules c table ∷ table_answers same rules (table_after same rules c table) checks

-- a step had its result, and noted one key alone; after running out of memory the notes are as they were
abbrev pub IsNoted : {K : Type 0} → (K → K → Bool) → Bool × Option Noted → K → Result Bool Error → (K → Option Noted) → (K → Option Noted) → Type 0
IsNoted {K} same step key result old new = MatchResult result
    (λ stays. (stays ≡ step.0) × ((q : K) → new q ≡ (if same key q then step.1 else old q)))
    (λ e. (e ≡ Memory) × ((q : K) → new q ≡ old q))
