-- What is left so far comes to the same in the steps that are left.
use Rattle.std.proofs.Common.{◌≡◌, ◌-◌, length}
use denote.Text.{Utf8}
use denote.Shadow.{shadow}
use Rattle.metrics_exposition.specs.Naming.{bare_within, bare_name}
use Rattle.metrics_exposition.proofs.naming.bare_name.Given as goal

abbrev pub invariant-loop-step : goal.invariant-loop-step
invariant-loop-step l = shadow (Utf8 l.bare) × (bare_within (length l.name - l._step) l.unit l.total l.bare ≡ bare_name l.unit l.total l.name)
