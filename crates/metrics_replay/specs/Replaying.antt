-- The calls of a replay.
use Rattle.std.specs.Prelude.{◌≡◌, ℕ, suc, Bool, true, MatchBool, List, [], ◌∷◌, map, Option, None, Some, option_and_then, slice_get}
use Rattle.std.specs.Borrow.{Bor}
use Rattle.metrics_names.specs.declared.kind.MetricKind.{MetricKind}
use Rattle.metrics.specs.declared.handles.Address.{Address}
use Rattle.metrics.specs.declared.handles.Update.{Update}
use Rattle.metrics_names.specs.declared.refused.Refused.TheVariants.{NoSuchAddress}
use Rattle.metrics_names.specs.Names.{kind_eq}
use Rattle.metrics.specs.declared.calls.Call.{Call}
use Rattle.metrics.specs.declared.calls.Answer.{Answer}
use Rattle.metrics.specs.Book.{Content, kind_of}
use Rattle.metrics.specs.Meaning.{Meaning}
use Rattle.metrics.specs.History.{Log}
use Rattle.metrics.specs.Answering.{Handle, handle_given, holds_all, IsBadHandle, Answers}

-- a handle that lends its addresses
abbrev pub handle_seen : MetricKind × Bor (List Address) → Handle
handle_seen h = (h.0, h.1.now)

-- whether a series of the handle's kind is at each of its addresses
abbrev pub holds_handle : Option Handle → List Content → Bool
holds_handle None cs = true
holds_handle (Some h) cs = holds_all h.0 h.1 cs

-- a call that is answered as no such address changes nothing
abbrev pub IsNoAddress : Meaning → Meaning → Answer → Type 0
IsNoAddress old new a = (a ≡ Answer.Refused NoSuchAddress) × (new.contents ≡ old.contents)

-- an update of a handle that is not held: no such address if it is of the handle's kind, and else a bad handle
abbrev pub UpdatesUnheld : Meaning → Meaning → Option Handle → Update → Answer → Type 0
UpdatesUnheld old new None u a = IsBadHandle old new a
UpdatesUnheld old new (Some h) u a = MatchBool (kind_eq (kind_of u) h.0) (IsNoAddress old new a) (IsBadHandle old new a)

-- what one call does and answers, if the handle that comes with it is not held
abbrev pub AnswersUnheld : Meaning → Meaning → Option Handle → Call → Answer → Type 0
AnswersUnheld old new h (Call.Update n u) a = UpdatesUnheld old new h u a
AnswersUnheld old new h c a = Answers old new h c a

-- the calls with their answers
abbrev pub log_of : List Call → List Answer → Log
log_of [] as' = []
log_of (c ∷ cs) [] = []
log_of (c ∷ cs) (a ∷ as') = (c, a) ∷ log_of cs as'

-- the calls of a log, and their answers
abbrev pub calls_of : Log → List Call
calls_of log = map (λ e. e.0) log

abbrev pub answers_of : Log → List Answer
answers_of log = map (λ e. e.1) log

-- a register call: its kind, and its place among the calls
abbrev pub Place : Type 0
Place = MetricKind × ℕ

-- a call at a place comes before those register calls
abbrev pub with_register : Call → ℕ → List Place → List Place
with_register (Call.Register kind key) i rs = (kind, i) ∷ rs
with_register (Call.Describe kind name unit text) i rs = rs
with_register (Call.Update n u) i rs = rs
with_register (Call.Snapshot b) i rs = rs
with_register (Call.SnapshotWith b reset) i rs = rs

-- the register calls of a list of calls that begins at a place
abbrev pub registers_from : ℕ → List Call → List Place
registers_from i [] = []
registers_from i (c ∷ cs) = with_register c i (registers_from (suc i) cs)

-- the register call of the number that a call names
abbrev pub register_named : Call → List Place → Option Place
register_named (Call.Update n u) rs = slice_get rs n
register_named (Call.Describe kind name unit text) rs = None
register_named (Call.Register kind key) rs = None
register_named (Call.Snapshot b) rs = None
register_named (Call.SnapshotWith b reset) rs = None

-- what a register call returned, by the answers of all calls
abbrev pub handle_at : List Answer → Option Place → Option Handle
handle_at as' r = option_and_then (λ r. option_and_then (handle_given r.0) (slice_get as' r.1)) r
