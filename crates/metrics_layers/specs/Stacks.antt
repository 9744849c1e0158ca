-- The recorder in a stack of layers.
use Rattle.metrics_layers.specs.declared.stack.Stack.{Stack}

-- the recorder with the layers that were pushed
abbrev pub stacked_recorder : {R : Type 0} → Stack R → R
stacked_recorder s = s.inner
