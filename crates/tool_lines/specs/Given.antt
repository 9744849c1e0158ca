-- What a register call returned.
use Rattle.std.specs.Prelude.{List, [], ◌∷◌}
use Rattle.metrics.specs.declared.handles.Address.{Address}
use Rattle.tool_lines.specs.declared.handles.Kept.{Kept}
use Rattle.tool_lines.specs.declared.handles.Kept.TheVariants as kept

-- the addresses, of which a single one is stored inline
abbrev pub kept_list : Kept → List Address
kept_list (kept.One at) = at ∷ []
kept_list (kept.List found) = found
