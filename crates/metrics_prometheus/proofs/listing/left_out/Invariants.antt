-- What is left of the text has the lines that are left.
use Rattle.std.proofs.Common.{◌≡◌, List, length}
use denote.Shadow.{shadow}
use denote.Text.{Utf8}
use Rattle.std.specs.Prelude.{flat_map}
use Rattle.std.specs.List.{AllByRecursion}
use Rattle.metrics_prometheus.specs.Written.{Line, line_text, IsReadable}
use Rattle.metrics_prometheus.proofs.LeftOutLemmas.{IsLeft}
use Rattle.metrics_prometheus.proofs.listing.left_out.Given as goal

abbrev pub invariant-loop-line : goal.invariant-loop-line
invariant-loop-line l = shadow (Utf8 l.rest) × ((lines : List Line) → l.text ≡ flat_map line_text lines → AllByRecursion IsReadable lines → IsLeft lines l.found.items l.rest)

abbrev pub decreases-loop-line : goal.decreases-loop-line
decreases-loop-line l = length l.rest
