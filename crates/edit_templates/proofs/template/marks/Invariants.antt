use Rattle.std.proofs.Common.{◌≡◌, map}
use Rattle.omega_net.specs.Wires.{below}
use Rattle.edit_templates.specs.Braces.{put_text}
use Rattle.edit_templates.specs.Templates.{mark}
use Rattle.edit_templates.proofs.template.marks.Given as goal

abbrev pub invariant-loop-i : goal.invariant-loop-i
invariant-loop-i l = map put_text l.marks.items ≡ map (mark l.place) (below l.i)
