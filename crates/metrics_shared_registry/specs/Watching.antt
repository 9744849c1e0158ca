-- The timeout and the mask of a shared recency.
use Rattle.metrics.specs.Layers.{mask_has}
use Rattle.metrics_registry.specs.Recency.{Rules}
use Rattle.metrics_shared_registry.specs.declared.recency.Recency.{Recency}

abbrev pub rules_of : {K : Type 0} → Recency K → Rules
rules_of r = record { timeout = r.timeout; mask = λ kind. mask_has kind r.mask }
