-- What register calls returned, by their numbers.
use Rattle.std.specs.Prelude.{ℕ, ◌<◌, List, [], ◌∷◌, Option, None, option_map, option_and_then, slice_get, vec_len, vec_capacity}
use Rattle.metrics.specs.declared.calls.Call.{Call}
use Rattle.metrics.specs.declared.calls.Call.TheVariants as call
use Rattle.metrics.specs.declared.handles.Address.{Address}
use Rattle.metrics.specs.Answering.{Handle}
use Rattle.tool_lines.specs.declared.handles.Handles.{Handles}

-- one for each register call: its kind and the addresses that it returned, and None if it failed
abbrev pub Entries : Type 0
Entries = List (Option Handle)

abbrev pub entries : Handles → Entries
entries handles = handles.entries.items

-- the entry of a number
abbrev pub entry_at : ℕ → Entries → Option Handle
entry_at n es = option_and_then (λ e. e) (slice_get es n)

-- the entry that a call names
abbrev pub entry_named : Call → Entries → Option Handle
entry_named (call.Update n u) es = entry_at n es
entry_named (call.Describe kind name unit text) es = None
entry_named (call.Register kind key) es = None
entry_named (call.Snapshot b) es = None
entry_named (call.SnapshotWith b reset) es = None

-- what a call adds, by what it returned
abbrev pub entries_by : Call → Option (List Address) → Entries
entries_by (call.Register kind key) given = option_map (λ h. (kind, h)) given ∷ []
entries_by (call.Describe kind name unit text) given = []
entries_by (call.Update n u) given = []
entries_by (call.Snapshot b) given = []
entries_by (call.SnapshotWith b reset) given = []

-- there is room for one more
abbrev pub HasRoom : Handles → Type 0
HasRoom handles = vec_len handles.entries < vec_capacity handles.entries
