-- The names that series get by the options: some are dropped, and the others may get a prefix.
use Rattle.std.specs.Prelude.{if◌then◌else◌, ℕ, false, List, Option, None, Some}
use Rattle.metrics.specs.Layers.{dotted, matches}
use Rattle.tool_prometheus.specs.declared.commands.Options.{Options}
use Rattle.tool_requests.specs.Names.{Renaming}

-- a name with the prefix and a dot, if there is one
abbrev pub below : Option (List ℕ) → List ℕ → List ℕ
below None name = name
below (Some front) name = dotted front name

-- a name in which a text of the list occurs is dropped, and any other gets the prefix
abbrev pub name_by : Options → Renaming
name_by options kind name = if matches false options.drops name then None else Some (below options.prefix name)
