-- A handle that recorders under rules give.
use Rattle.metrics_names.specs.Names.{KeyParts}
use Rattle.metrics_names.specs.declared.kind.MetricKind.{MetricKind}
use Rattle.metrics_rules.specs.Meanings.{rules_meaning}
use Rattle.metrics_layered.specs.Handing.{handles_of, AreGiven}
use Rattle.metrics_layered.specs.declared.handles.Handles.{Handles}
use Rattle.metrics_layered.specs.declared.layered.Layered.{Layered}

-- for each target of the key, in order, one handle that the recorder there gives for the key there
abbrev pub HasEachTarget : {R H : Type 0} → (R → KeyParts → H → Type 0) → MetricKind → Layered R → KeyParts → Handles H → Type 0
HasEachTarget gives kind l key found =
    AreGiven gives l.recorders.items key.labels ((rules_meaning l.rules).targets kind key.name) (handles_of found)
