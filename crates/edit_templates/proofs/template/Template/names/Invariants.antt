use Rattle.std.proofs.Common.{◌≡◌, map, string_bytes}
use Rattle.omega_net.specs.Wires.{below}
use Rattle.edit_templates.specs.Templates.{name_of}
use Rattle.edit_templates.proofs.template.Template.names.Given as goal

abbrev pub invariant-loop-place : goal.invariant-loop-place
invariant-loop-place l = map string_bytes l.names.items ≡ map (name_of l.self) (below l.place)
