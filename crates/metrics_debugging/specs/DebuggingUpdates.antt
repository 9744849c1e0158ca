-- An update of one of a list of series.
use Rattle.std.specs.Prelude.{◌≡◌, ℕ, Bool, true, false, List, Result, Ok, Err, option_map, slice_get}
use Rattle.metrics.specs.declared.handles.Update.{Update}
use Rattle.metrics_names.specs.declared.refused.Refused.{Refused}
use Rattle.metrics_names.specs.declared.refused.Refused.TheVariants.{Memory, NoSuchAddress, NoSuchBook, BadHandle}
use Rattle.metrics.specs.Targets.{change_at}
use Rattle.metrics.specs.Book.{Series, kind_of, with_update}
use Rattle.metrics.specs.Meaning.{TakesMemory, is_kind}

-- whether a series of the update's kind is at the place
abbrev pub is_held : List Series → ℕ → Update → Bool
is_held xs place by = is_kind (kind_of by) (option_map (λ (s : Series). s.key.kind) (slice_get xs place))

-- an update changes the series at a place, if one of its kind is there
abbrev pub UpdatesAt : {A : Type 0} → List Series → List Series → ℕ → Update → Result A Refused → Type 0
UpdatesAt old new place by (Ok done) = (is_held old place by ≡ true) × (new ≡ change_at place (with_update by) old)
UpdatesAt old new place by (Err (Memory acted)) = (is_held old place by ≡ true) × TakesMemory by × (acted ≡ 0) × (new ≡ old)
UpdatesAt old new place by (Err NoSuchAddress) = (is_held old place by ≡ false) × (new ≡ old)
UpdatesAt old new place by (Err NoSuchBook) = ⊥
UpdatesAt old new place by (Err BadHandle) = ⊥
