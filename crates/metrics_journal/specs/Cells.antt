-- Which keys a shard holds, and with which cells.
use Rattle.std.specs.Prelude.{◌≡◌, Bool, true, List, Some, is_some}
use Rattle.metrics_names.specs.declared.kind.MetricKind.{MetricKind}
use Rattle.metrics_names.specs.declared.kind.MetricKind.TheVariants.{Counter, Gauge, Histogram}
use Rattle.metrics_registry.specs.declared.kinds.Kinds.{Kinds}
use Rattle.metrics_registry.specs.Held.{held}
use Rattle.metrics_journal.specs.declared.calls.ShardCall.{ShardCall}
use Rattle.metrics_journal.specs.Journal.{held_after, reply_of}

-- whether a key of a kind is held
abbrev pub has_key : {K S C G H : Type 0} → (K → K → Bool) → Kinds K S C G H → MetricKind → K → Bool
has_key eq r Counter key = is_some (held eq r.counters key)
has_key eq r Gauge key = is_some (held eq r.gauges key)
has_key eq r Histogram key = is_some (held eq r.histograms key)

-- each held cell was made for a key that equals the cell's
abbrev pub AreMade : {K C : Type 0} → (K → K → Bool) → (K → C → Type 0) → List (K × C) → Type 0
AreMade {K} {C} eq Makes es = (q : K) (cell : C) → held eq es q ≡ Some cell → (key : K) × (eq key q ≡ true) × Makes key cell

-- each held cell of each kind is one that the storage makes
abbrev pub HasMadeCells : {K S C G H : Type 0} → (K → K → Bool) → (S → K → C → Type 0) → (S → K → G → Type 0) → (S → K → H → Type 0) → S → Kinds K S C G H → Type 0
HasMadeCells eq counter gauge histogram storage r = AreMade eq (counter storage) r.counters × AreMade eq (gauge storage) r.gauges × AreMade eq (histogram storage) r.histograms

-- a key that is held before and after has the same cell
abbrev pub StaySame : {K C : Type 0} → (K → K → Bool) → List (K × C) → List (K × C) → Type 0
StaySame {K} {C} eq old new = (q : K) (before after : C) → held eq old q ≡ Some before → held eq new q ≡ Some after → after ≡ before

-- each cell that stays is the same
abbrev pub KeepsCells : {K S C G H : Type 0} → (K → K → Bool) → Kinds K S C G H → Kinds K S C G H → Type 0
KeepsCells eq old new = StaySame eq old.counters new.counters × StaySame eq old.gauges new.gauges × StaySame eq old.histograms new.histograms

-- a call replied by what was held, and changed what is held
abbrev pub Replies : {K S C G H : Type 0} → (K → K → Bool) → Kinds K S C G H → Kinds K S C G H → ShardCall K → Bool → Type 0
Replies {K} eq old new call reply =
    (reply ≡ reply_of eq (has_key eq old) call) × ((kind : MetricKind) (key : K) → has_key eq new kind key ≡ held_after eq (has_key eq old kind key) kind key call)
