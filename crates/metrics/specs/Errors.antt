-- A recorder's failure as an error of the library.
use Rattle.metrics_names.specs.declared.refused.Refused.{Refused}
use Rattle.metrics_names.specs.declared.refused.Refused.TheVariants.{Memory, NoSuchAddress, NoSuchBook, BadHandle}
use Rattle.metrics.specs.declared.error.Error.{Error}
use Rattle.metrics.specs.declared.error.Error.TheVariants.{Memory as OutOfMemory, NoSuchAddress as AddressMissing, NoSuchBook as BookMissing, BadHandle as HandleBad}

abbrev pub error_of : Refused → Error
error_of (Memory acted) = OutOfMemory
error_of NoSuchAddress = AddressMissing
error_of NoSuchBook = BookMissing
error_of BadHandle = HandleBad
