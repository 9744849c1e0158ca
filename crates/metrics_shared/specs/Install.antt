-- What an install that fails returns.
use Rattle.metrics_shared.specs.declared.install.SetRecorderError.{SetRecorderError}
use Rattle.metrics_shared.specs.declared.install.SetRecorderError.TheVariants.{Taken, Memory}

abbrev pub recorder_of : {R : Type 0} → SetRecorderError R → R
recorder_of (Taken r) = r
recorder_of (Memory r) = r
